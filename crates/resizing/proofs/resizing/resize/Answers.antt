-- A capacity above S and a list that is too short are refused, and otherwise the rule follows.
use Rattle.resizing.proofs.Resized.{resize_large, resize_short, resize_acts}
use Rattle.resizing.proofs.resizing.resize.Goals as goal

pub returns-then-capacity-memory-clause-outcome : goal.returns-then-capacity-memory-clause-outcome
returns-then-capacity-memory-clause-outcome c = λ w H. rw c.plain.ensures (resize_large _ H c.if-capacity-memory.true)

pub returns-then-list-head-clause-outcome : goal.returns-then-list-head-clause-outcome
returns-then-list-head-clause-outcome c = λ w H. rw c.plain-then-list-head.ensures (resize_short _ H c.if-capacity-memory.false c.if-list-head.true)

pub returns-clause-outcome : goal.returns-clause-outcome
returns-clause-outcome c = λ w H. resize_acts _ H c.if-capacity-memory.false c.if-list-head.false (c.resize_within.ensures.outcome w H)
