-- The search finds the page or none; a page that is found is hit.
use mathlib.Core.Path.{refl}
use Rattle.answer.proofs.Steps.{follows_told, follows_as}
use Rattle.moves.proofs.Removal.{slot_inside}
use Rattle.lookups.proofs.Calls.{can_hit, peek_found_lem, peek_absent}
use Rattle.lookups.proofs.lookup.peek.Goals as goal

pub returns-in_default : goal.returns-in_default
returns-in_default c = λ by_handle marks w H. follows_told c.plain.ensures (peek_absent H _ (c.in_default.ensures.seat _ _ _ w H refl) _)

pub load-e-requires : goal.load-e-requires
load-e-requires c =
    let H = c.requires.sound.holds in
    slot_inside H (c.in-Ok.ensures.seat _ _ _ _ H refl).stands

pub hit-requires : goal.hit-requires
hit-requires c =
    let H = c.requires.sound.holds in
    can_hit H (c.in-Ok.ensures.seat _ _ _ _ H refl).stands c.load-e.ensures

pub returns : goal.returns
returns c = λ by_handle marks w H.
    let at = (c.in-Ok.ensures.seat by_handle marks _ w H refl).stands in
    follows_as (peek_found_lem _ w at.found _) (c.hit.ensures _ by_handle marks w _ _ H at)
