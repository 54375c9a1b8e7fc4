-- The head is written as the creation says, and what is left in the slices is what the struct of them has: it has the same slices.
use borrow.Author.Rules.{rules}
use Rattle.std.proofs.Common.{◌≡◌}
use Rattle.page_cache_c.proofs.Exporting.{makes_left}
use Rattle.page_cache_c.proofs.pc_create.Goals as goal

pub returns : goal.returns
returns c =
    let numbers : c.in-Some.head.now ≡ c.args.head.now = search rules in
    makes_left (search rules) (search rules) c.create.ensures.made (rw numbers at c.put_created.ensures)
