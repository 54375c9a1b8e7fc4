-- Each turn is a look: it passes the page, and the loop is one look further, or takes it.
use Rattle.eviction.proofs.SweepLoop.{Going}
use Rattle.eviction.proofs.sweeping.sweep.Given as goal

abbrev pub invariant-loop-passed : goal.invariant-loop-passed
invariant-loop-passed l = Going l.initial.slots l.initial.at l.held l.slots l.at l.passed
