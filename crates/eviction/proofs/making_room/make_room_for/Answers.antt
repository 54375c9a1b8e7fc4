-- Capacity 0 has no room to make and changes nothing; any other lets one page less stay.
use Rattle.eviction.proofs.OneMore.{made_none, made_one}
use Rattle.eviction.proofs.making_room.make_room_for.Goals as goal

pub returns-then-head-eq0-clause-outcome : goal.returns-then-head-eq0-clause-outcome
returns-then-head-eq0-clause-outcome c = λ w H. made_none H c.if-head-eq0.true

pub returns-clause-outcome : goal.returns-clause-outcome
returns-clause-outcome c = λ w H. made_one H c.if-head-eq0.false (c.evict_to.ensures.outcome w H)
