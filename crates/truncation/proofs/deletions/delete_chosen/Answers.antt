-- Each turn looks at the page of one place: it is passed, deleted, or refused, and then the call ends.
use borrow.Author.Rules.{rules}
use native.Mathlib.Omega.{arith}
use Rattle.truncation.proofs.Progress.{progress_start, progress_done, progress_place, progress_slot, progress_can_delete, progress_passed, progress_held, progress_deleted, progress_refused}
use Rattle.truncation.proofs.deletions.delete_chosen.Goals as goal

pub loop-i-init : goal.loop-i-init
loop-i-init g c = (progress_start c.requires.walkable, search rules)

pub bounds-by_key-i : goal.bounds-by_key-i
bounds-by_key-i g c = progress_place c.loop-i.invariant.0 c.loop-i-test.true

pub load-e-requires : goal.load-e-requires
load-e-requires g c = progress_slot c.loop-i.invariant.0 c.loop-i-test.true

pub delete_page-requires : goal.delete_page-requires
delete_page-requires g c = progress_can_delete c.loop-i.invariant.0 c.loop-i-test.true

pub loop-i-preserved-then-not-is_chosen : goal.loop-i-preserved-then-not-is_chosen
loop-i-preserved-then-not-is_chosen g c =
    (progress_passed c.loop-i.invariant.0 c.loop-i-test.true c.load-e.ensures c.is_chosen.ensures c.if-not-is_chosen.true, c.loop-i.invariant.1)

pub returns-in-Err-clause-outcome : goal.returns-in-Err-clause-outcome
returns-in-Err-clause-outcome g c =
    progress_refused c.loop-i.invariant.0 c.loop-i-test.true c.load-e.ensures c.is_chosen.ensures c.if-not-is_chosen.false c.in-Err.ensures.outcome

pub loop-i-smaller : goal.loop-i-smaller
loop-i-smaller g c = omega (arith, c.loop-i-test.true, progress_held c.loop-i.invariant.0 c.loop-i-test.true c.in-Ok.ensures.outcome)

pub loop-i-preserved : goal.loop-i-preserved
loop-i-preserved g c =
    (progress_deleted c.loop-i.invariant.0 c.loop-i-test.true c.in-Ok.ensures.outcome c.load-e.ensures c.is_chosen.ensures c.if-not-is_chosen.false, search rules)

pub returns-clause-outcome : goal.returns-clause-outcome
returns-clause-outcome g c = progress_done c.loop-i.invariant.0 c.loop-i-test.false
