-- The estimate is counted on if it follows the notice, or nothing changes.
use mathlib.Core.Path.{refl, sym, ◌∙◌}
use Rattle.answer.proofs.Steps.{follows_told}
use Rattle.caller_updates.proofs.Heads.{notice_taken}
use Rattle.caller_updates.proofs.notices.notify.Goals as goal

pub returns : goal.returns
returns g c = λ by is by_handle marks w H.
    follows_told c.plain-2.ensures
    (notice_taken H by _ refl (sym (c.takes_notice.ensures _ _ _ w H refl) ∙ c.if-not-takes_notice.false) (is _ c.count.ensures))
