-- Each return is after the tests that its answer follows from.
use Rattle.c_numbers.proofs.Numbers.{no_slot, a_slot, quarter}
use Rattle.c_numbers.proofs.answers.hand_key.Goals as goal

pub returns-then-hand-slots : goal.returns-then-hand-slots
returns-then-hand-slots c = no_slot c.args.slots.now c.args.head c.if-head-eq0.false c.if-hand-slots.true

pub load-requires : goal.load-requires
load-requires c = quarter c.args.slots.now c.args.head.hand.0 c.if-hand-slots.false

pub returns : goal.returns
returns c = a_slot c.args.slots.now c.args.head c.if-head-eq0.false c.if-hand-slots.false c.load.ensures
