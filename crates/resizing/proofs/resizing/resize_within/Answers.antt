-- The same capacity changes nothing, and another one is set if the evictions were enough.
use Rattle.resizing.proofs.Resized.{few_listed, resize_other}
use Rattle.resizing.proofs.resizing.resize_within.Goals as goal

pub resized-requires : goal.resized-requires
resized-requires c = few_listed _ c.requires.ready.sound.holds (c.evict_to-room.ensures.outcome _ c.requires.ready.sound.holds)

pub returns-clause-outcome : goal.returns-clause-outcome
returns-clause-outcome c = λ w H. rw c.resized.ensures (resize_other _ H (c.evict_to-room.ensures.outcome w H) c.if-capacity-head.false c.requires.within)
