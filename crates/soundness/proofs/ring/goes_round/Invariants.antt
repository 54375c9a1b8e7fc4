-- At each turn the rest of the walk exists exactly if the whole walk does.
use Prim.Native.Nat.{◌-◌}
use Rattle.pool.specs.Slots.{entries}
use Rattle.soundness.proofs.Walking.{Walking}
use Rattle.soundness.proofs.ring.goes_round.Given as goal

abbrev pub invariant-loop-passed : goal.invariant-loop-passed
invariant-loop-passed l = Walking (entries l.slots) l.marks l.held l.hand.0 (l.held - l.passed) l.at.0
