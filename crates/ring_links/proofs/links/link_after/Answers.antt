-- Each call's result is the next step of `linked_after`, and no step changes how many slots there are.
use lib.ListN.{length-set}
use Rattle.ring_links.specs.Links.{linked_after}
use Rattle.ring_links.proofs.Columns.{length_next}
use Rattle.ring_links.proofs.links.link_after.Goals as goal

pub set_prev-requires : goal.set_prev-requires
set_prev-requires c = rw (c.set_next.ensures, length_next, c.store.ensures, length-set, c.next-after.ensures) c.requires.after

pub returns : goal.returns
unfolding linked_after
returns c = rw (c.set_prev.ensures, c.set_next.ensures, c.store.ensures, c.next-after.ensures)
