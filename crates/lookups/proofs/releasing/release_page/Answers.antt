-- The search finds the page or none; the record of a page that is found has one holder less, or it has none to lose.
use mathlib.Core.Path.{refl}
use Rattle.answer.proofs.Steps.{follows_told}
use Rattle.moves.proofs.Removal.{slot_inside}
use Rattle.lookups.proofs.Calls.{recount_good, release_absent, release_limit, release_done}
use Rattle.lookups.proofs.releasing.release_page.Goals as goal

pub returns-in_default : goal.returns-in_default
returns-in_default c = λ by_handle marks w H. follows_told c.plain.ensures (release_absent H _ (c.in_default.ensures.seat _ _ _ w H refl))

pub load-e-requires : goal.load-e-requires
load-e-requires c =
    let H = c.requires.sound.holds in
    slot_inside H (c.in-Ok.ensures.seat _ _ _ _ H refl).stands

pub returns-in_default-one_holder_less : goal.returns-in_default-one_holder_less
returns-in_default-one_holder_less c = λ by_handle marks w H.
    let at = (c.in-Ok.ensures.seat by_handle marks _ w H refl).stands in
    follows_told c.plain-in_default-one_holder_less.ensures (release_limit H at c.load-e.ensures c.one_holder_less.ensures c.in_default-one_holder_less.is)

pub rewrite_at-requires : goal.rewrite_at-requires
rewrite_at-requires c =
    let H = c.requires.sound.holds in
    let at = (c.in-Ok.ensures.seat _ _ _ _ H refl).stands in
    record { slot = slot_inside H at; flags = recount_good H at c.load-e.ensures c.with_holders.ensures }

pub returns : goal.returns
returns c = λ by_handle marks w H.
    let at = (c.in-Ok.ensures.seat by_handle marks _ w H refl).stands in
    follows_told c.plain-2.ensures
    (release_done H at c.load-e.ensures c.one_holder_less.ensures c.in-Some.is c.with_holders.ensures (c.rewrite_at.ensures _ _ _ _ w _ _ H at))
