-- A list that is too short is refused, and otherwise the rule follows.
use mathlib.Core.Path.{refl}
use Rattle.model.specs.Call.{evict_one}
use Rattle.model.specs.Step.{act}
use Rattle.answer.proofs.Tested.{comes_short, comes_acts}
use Rattle.resizing.proofs.evicting.evict.Goals as goal

pub returns-then-list-head-clause-outcome : goal.returns-then-list-head-clause-outcome
returns-then-list-head-clause-outcome c = λ w H. rw c.plain.ensures (comes_short (evict_one _) H refl c.if-list-head.true)

pub returns-clause-outcome : goal.returns-clause-outcome
unfolding act
returns-clause-outcome c = λ w H. comes_acts (evict_one _) H refl c.if-list-head.false (c.evict_listed.ensures.outcome w H)
