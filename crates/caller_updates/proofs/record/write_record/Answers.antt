-- A good record is written to the page that the search finds, if it finds one.
use mathlib.Core.Path.{refl}
use Rattle.answer.proofs.Steps.{follows_told}
use Rattle.moves.proofs.Removal.{slot_inside}
use Rattle.caller_updates.proofs.Writing.{write_bad, write_absent, write_there}
use Rattle.caller_updates.proofs.record.write_record.Goals as goal

pub returns-then-page-gt-ALL_FLAGS : goal.returns-then-page-gt-ALL_FLAGS
returns-then-page-gt-ALL_FLAGS c = λ by_handle marks w H. follows_told c.plain.ensures (write_bad H _ _ c.if-page-gt-ALL_FLAGS.true)

pub returns-in_default : goal.returns-in_default
returns-in_default c = λ by_handle marks w H.
    follows_told c.plain-in_default.ensures (write_absent H _ _ c.if-page-gt-ALL_FLAGS.false (c.in_default.ensures.seat _ _ _ w H refl))

pub rewrite_at-requires : goal.rewrite_at-requires
rewrite_at-requires c =
    let H = c.requires.sound.holds in
    record { slot = slot_inside H (c.in-Ok.ensures.seat _ _ _ _ H refl).stands; flags = c.if-page-gt-ALL_FLAGS.false }

pub returns : goal.returns
returns c = λ by_handle marks w H.
    let at = (c.in-Ok.ensures.seat by_handle marks _ w H refl).stands in
    follows_told c.plain-2.ensures (write_there H _ _ c.if-page-gt-ALL_FLAGS.false at (c.rewrite_at.ensures _ _ _ _ w _ _ H at))
