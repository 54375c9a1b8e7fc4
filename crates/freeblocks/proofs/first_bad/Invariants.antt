-- The walk goes on until the chain ends or is bad (proofs/Walking.antt).
use Rattle.std.proofs.Common.{◌-◌}
use Rattle.freeblocks.proofs.Walking.{Walked}
use Rattle.freeblocks.proofs.first_bad.Given as goal

abbrev pub invariant-loop-end : goal.invariant-loop-end
invariant-loop-end l = Walked l.image l.end l.link l.least l.at l.free

abbrev pub decreases-loop-end : goal.decreases-loop-end
decreases-loop-end l = l.end - l.free
