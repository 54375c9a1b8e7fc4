-- An insertion at the gap of a name keeps the index.
use borrow.Author.Rules.{rules}
use Rattle.sorted_index.proofs.Listed.{listed_enter}
use Rattle.sorted_index.proofs.enlisting.enlist_at.Goals as goal

pub returns : goal.returns
returns c = λ col seats x l held fresh miss.
    listed_enter l held fresh miss (search rules) (search rules) c.insert_at.ensures
