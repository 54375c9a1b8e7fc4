-- What is loaded at the slot is the page, and its record decides: it stays, and nothing was written, or it is listed and
-- removed.
use mathlib.Core.Path.{sym, ◌∙◌}
use Rattle.moves.proofs.Removal.{slot_inside}
use Rattle.deletion.proofs.Deleting.{page_goes, page_stays}
use Rattle.deletion.proofs.deletion.delete_page.Goals as goal

pub load-e-requires : goal.load-e-requires
load-e-requires c = slot_inside c.requires.removable.holds c.requires.removable.stands

pub returns-in-Err-clause-outcome : goal.returns-in-Err-clause-outcome
returns-in-Err-clause-outcome c = λ w key e H at. page_stays H at c.load-e.ensures (sym c.deletable.ensures ∙ c.in-Err.is) c.refusal.ensures

pub returns-clause-outcome : goal.returns-clause-outcome
returns-clause-outcome c = λ w key e H at. page_goes H at c.load-e.ensures (sym c.deletable.ensures ∙ c.in_default.is) c.remove_at_slot.ensures.removed
