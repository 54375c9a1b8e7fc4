-- The entry that is stored is the one that was loaded, with another link.
use Rattle.ring_links.specs.Links.{set_prev}
use Rattle.ring_links.proofs.links.set_prev.Goals as goal

pub returns : goal.returns
unfolding set_prev
returns c = rw (c.store.ensures, c.load-e.ensures)
