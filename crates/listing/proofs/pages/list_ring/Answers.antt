-- Each turn stores one page and goes on to the next slot.
use native.Mathlib.Omega.{arith}
use Rattle.listing.proofs.Filling.{filling_none, filling_room, filling_more, filling_done}
use Rattle.listing.proofs.pages.list_ring.Goals as goal

pub loop-i-init : goal.loop-i-init
loop-i-init g c = filling_none g.met.T.PageForm.laid c.requires.row c.requires.stands c.requires.count

pub put_page-requires : goal.put_page-requires
put_page-requires g c =
    filling_room g.met.T.PageForm.laid c.loop-i.invariant c.page_at-here.result.page c.requires.room c.loop-i-test.true

pub loop-i-preserved : goal.loop-i-preserved
loop-i-preserved g c =
    filling_more g.met.T.PageForm.laid c.loop-i.invariant c.loop-i-test.true c.page_at-here.ensures c.put_page.ensures

pub returns : goal.returns
returns g c = filling_done g.met.T.PageForm.laid c.loop-i.invariant c.requires.room (omega (arith, c.loop-i-test.false))
