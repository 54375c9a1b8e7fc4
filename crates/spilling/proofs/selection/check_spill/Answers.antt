-- The list is measured, and the call is refused or goes by its rules.
use Rattle.answer.proofs.Steps.{comes_told}
use Rattle.spilling.proofs.Spilling.{spill_short, spill_acts}
use Rattle.spilling.proofs.selection.check_spill.Goals as goal

pub returns-then-list-head : goal.returns-then-list-head
returns-then-list-head c = λ by_handle marks d h. comes_told c.plain.ensures (spill_short _ h c.if-list-head.true)

pub returns : goal.returns
returns c = λ by_handle marks d h. spill_acts _ h c.if-list-head.false (c.check_spill_listed.ensures by_handle marks d h)
