-- The listing's contract, for the head that was read.
use borrow.Author.Rules.{rules}
use Rattle.page_cache_c.proofs.Exporting.{lists_read}
use Rattle.page_cache_c.proofs.pc_list.Goals as goal

pub returns : goal.returns
returns c = lists_read (search rules) (search rules) c.list_pages.ensures c.listing_code.ensures
