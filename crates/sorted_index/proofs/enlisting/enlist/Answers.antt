-- The slot goes in at the gap of its name.
use Rattle.sorted_index.proofs.enlisting.enlist.Goals as goal

pub returns : goal.returns
returns c = λ seats l held fresh absent. c.enlist_at.ensures _ seats _ l held fresh (c.gap-at.ensures.miss seats l held absent)
