-- What is left in the slices is what the struct of them has: it has the same slices.
use borrow.Author.Rules.{rules}
use Rattle.page_cache_c.proofs.Exporting.{applied_left}
use Rattle.page_cache_c.proofs.apply_to.Goals as goal

pub returns : goal.returns
returns c = applied_left (search rules) c.apply.ensures.applied
