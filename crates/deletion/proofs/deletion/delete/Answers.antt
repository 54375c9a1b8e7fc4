-- The search finds the page, which goes by rule 8, or none.
use mathlib.Core.Path.{refl}
use Rattle.answer.proofs.Steps.{comes_told}
use Rattle.deletion.proofs.Deleting.{seen_holds, can_delete, delete_short, delete_absent, delete_there}
use Rattle.deletion.proofs.deletion.delete.Goals as goal

pub returns-then-list-head-clause-outcome : goal.returns-then-list-head-clause-outcome
returns-then-list-head-clause-outcome c = λ w H. comes_told c.plain.ensures (delete_short H _ c.if-list-head.true)

pub returns-in_default-clause-outcome : goal.returns-in_default-clause-outcome
returns-in_default-clause-outcome c = λ w H.
    comes_told c.plain-in_default.ensures
    (delete_absent H _ c.if-list-head.false (c.in_default.ensures.seat _ _ _ w (seen_holds c.view-seen.result c.view-seen.ensures H) refl))

pub delete_at-requires : goal.delete_at-requires
delete_at-requires c = can_delete c.requires.holds (c.in-Ok.ensures.seat _ _ _ _ (seen_holds c.view-seen.result c.view-seen.ensures c.requires.holds) refl) c.if-list-head.false

pub returns-clause-outcome : goal.returns-clause-outcome
returns-clause-outcome c = λ w H.
    let at = (c.in-Ok.ensures.seat _ _ _ w (seen_holds c.view-seen.result c.view-seen.ensures H) refl).stands in
    delete_there H _ c.if-list-head.false at (c.delete_at.ensures.outcome w _ _ H at)
