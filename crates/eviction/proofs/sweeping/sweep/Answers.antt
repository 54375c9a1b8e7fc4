-- Each turn is a look: it passes the page, and the loop is one look further, or takes it.
use native.Mathlib.Omega.{arith}
use Rattle.eviction.proofs.SweepLoop.{going_start, going_passed, going_taken, going_full}
use Rattle.eviction.proofs.sweeping.sweep.Goals as goal

pub loop-passed-init : goal.loop-passed-init
loop-passed-init c = going_start

pub returns-in_default : goal.returns-in_default
returns-in_default c = going_taken c.loop-passed.invariant (omega arith) c.in_default.ensures

pub loop-passed-preserved : goal.loop-passed-preserved
loop-passed-preserved c = going_passed c.loop-passed.invariant c.look_at.auto.slots c.in-Some.ensures

pub returns : goal.returns
returns c = going_full c.loop-passed.invariant (omega arith)
