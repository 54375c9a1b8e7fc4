-- The search finds the page or none; a page that is found is stale, and goes by rule 8, or it is hit.
use mathlib.Core.Path.{refl, sym, ◌∙◌}
use Rattle.answer.proofs.Steps.{comes_told}
use Rattle.moves.proofs.Removal.{slot_inside}
use Rattle.deletion.proofs.Deleting.{seen_holds, can_delete}
use Rattle.lookups.proofs.Calls.{can_hit, lookup_short, lookup_absent, lookup_stale, lookup_hit}
use Rattle.lookups.proofs.lookup.get.Goals as goal

pub returns-then-list-head-clause-outcome : goal.returns-then-list-head-clause-outcome
returns-then-list-head-clause-outcome c = λ w H. comes_told c.plain.ensures (lookup_short H _ c.if-list-head.true)

pub returns-in_default-clause-outcome : goal.returns-in_default-clause-outcome
returns-in_default-clause-outcome c = λ w H.
    comes_told c.plain-in_default.ensures
    (lookup_absent H _ (c.in_default.ensures.seat _ _ _ w (seen_holds c.view-seen.result c.view-seen.ensures H) refl) c.if-list-head.false)

pub load-e-requires : goal.load-e-requires
load-e-requires c = slot_inside c.requires.holds (c.in-Ok.ensures.seat _ _ _ _ (seen_holds c.view-seen.result c.view-seen.ensures c.requires.holds) refl).stands

pub delete_at-requires : goal.delete_at-requires
delete_at-requires c = can_delete c.requires.holds (c.in-Ok.ensures.seat _ _ _ _ (seen_holds c.view-seen.result c.view-seen.ensures c.requires.holds) refl) c.if-list-head.false

pub returns-then-is_stale-clause-outcome : goal.returns-then-is_stale-clause-outcome
returns-then-is_stale-clause-outcome c = λ w H.
    let at = (c.in-Ok.ensures.seat _ _ _ w (seen_holds c.view-seen.result c.view-seen.ensures H) refl).stands in
    lookup_stale H at c.load-e.ensures c.if-list-head.false (sym c.is_stale.ensures ∙ c.if-is_stale.true) (c.delete_at.ensures.outcome w _ _ H at)

pub hit-requires : goal.hit-requires
hit-requires c = can_hit c.requires.holds (c.in-Ok.ensures.seat _ _ _ _ (seen_holds c.view-seen.result c.view-seen.ensures c.requires.holds) refl).stands c.load-e.ensures

pub returns-clause-outcome : goal.returns-clause-outcome
returns-clause-outcome c = λ w H.
    let at = (c.in-Ok.ensures.seat _ _ _ w (seen_holds c.view-seen.result c.view-seen.ensures H) refl).stands in
    lookup_hit H at c.load-e.ensures c.if-list-head.false (sym c.is_stale.ensures ∙ c.if-is_stale.false) (c.hit.ensures _ _ _ w _ _ H at)
