-- A list that is too short is refused; then a dirty page refuses, unless dirty pages go too; and otherwise all pages are removed.
use mathlib.Core.Path.{refl}
use Rattle.model.specs.Call.{clear}
use Rattle.model.specs.Step.{act}
use Rattle.answer.proofs.Steps.{comes_as}
use Rattle.clearing.proofs.Hindered.{clear_dirty, clear_all}
use Rattle.answer.proofs.Tested.{comes_short, comes_acts}
use Rattle.clearing.proofs.Turns.{walk_seen}
use Rattle.clearing.proofs.clearing.clear.Goals as goal

pub returns-then-list-head-clause-outcome : goal.returns-then-list-head-clause-outcome
returns-then-list-head-clause-outcome c = λ w H. rw c.plain.ensures (comes_short (clear _ _) H refl c.if-list-head.true)

pub returns-in-Some-clause-outcome : goal.returns-in-Some-clause-outcome
unfolding act
returns-in-Some-clause-outcome c = λ w H.
    rw c.plain-in-Some.ensures (comes_acts (clear _ _) H refl c.if-list-head.false (clear_dirty c.args.dirty_too H _ (rw (walk_seen c.args.head.held c.view.ensures) at c.in-Some.ensures)))

pub returns-in-None-clause-outcome : goal.returns-in-None-clause-outcome
unfolding act
returns-in-None-clause-outcome c = λ w H.
    comes_acts (clear _ _) H refl c.if-list-head.false (comes_as (clear_all c.args.dirty_too H (rw (walk_seen c.args.head.held c.view.ensures) at c.in-None.ensures)) (c.empty.ensures.outcome w H))
