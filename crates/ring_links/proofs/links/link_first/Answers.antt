-- One store, of the entry with both links to itself.
use Rattle.ring_links.specs.Links.{linked_first}
use Rattle.ring_links.proofs.links.link_first.Goals as goal

pub returns : goal.returns
unfolding linked_first
returns c = c.store.ensures
