-- The search answers whether there is such a page.
use mathlib.Core.Path.{sym, ◌∙◌}
use Rattle.caller_updates.proofs.Heads.{noticed_ok, noticed_err}
use Rattle.caller_updates.proofs.notices.takes_notice.Goals as goal

pub returns-then-is_ok : goal.returns-then-is_ok
returns-then-is_ok c = λ by_handle marks head w H held.
    c.ne.ensures ∙ noticed_ok H _ _ (c.seat_of.ensures.seat _ _ _ w H held) (sym c.is_ok.ensures.value ∙ c.if-is_ok.true)

pub returns-else-is_ok : goal.returns-else-is_ok
returns-else-is_ok c = λ by_handle marks head w H held.
    c.if-is_ok.false ∙ noticed_err H _ _ (c.seat_of.ensures.seat _ _ _ w H held) (sym c.is_ok.ensures.value ∙ c.if-is_ok.false)
