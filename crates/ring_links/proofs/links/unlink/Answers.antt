-- Each call's result is the next step of `unlinked`, and no step changes how many slots there are.
use Rattle.ring_links.specs.Links.{unlinked}
use Rattle.ring_links.proofs.Columns.{length_next, length_prev}
use Rattle.ring_links.proofs.links.unlink.Goals as goal

pub set_prev-requires : goal.set_prev-requires
set_prev-requires c = rw (c.set_next.ensures, length_next, c.load-e.ensures) c.requires.after

pub store-requires : goal.store-requires
store-requires c = rw (c.set_prev.ensures, length_prev, c.set_next.ensures, length_next) c.requires.slot

pub returns : goal.returns
unfolding unlinked
returns c = record {
  out = rw (c.store.ensures, c.blank_entry-empty.ensures, c.set_prev.ensures, c.set_next.ensures, c.load-e.ensures);
  after = rw c.load-e.ensures;
}
