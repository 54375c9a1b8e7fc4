-- Each turn stores one page and goes on to the next slot.
use Rattle.listing.proofs.Filling.{Filling}
use Rattle.listing.proofs.pages.list_ring.Given as goal

abbrev pub invariant-loop-i : goal.invariant-loop-i
invariant-loop-i g l = Filling g.T.PageForm.form g.T.PageForm.shown l.slots l.fn.hand.0 l.count l.fn.list l.s.0 l.i l.list
