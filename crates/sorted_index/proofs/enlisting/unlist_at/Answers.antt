-- A removal from a seat's place keeps the index.
use borrow.Author.Rules.{rules}
use Rattle.sorted_index.proofs.Listed.{listed_leave}
use Rattle.sorted_index.proofs.enlisting.unlist_at.Goals as goal

pub returns : goal.returns
returns c = λ col before s after l apart held stands.
    listed_leave before s after l apart held (search rules) stands (search rules) c.remove_at.ensures
