-- A list that is too short is refused, and otherwise the walk begins at the limit's place.
use mathlib.Core.Path.{refl}
use borrow.Author.Rules.{rules}
use Rattle.model.specs.Call.{truncate}
use Rattle.model.specs.Step.{act}
use Rattle.truncation.specs.Deletions.{key_above}
use Rattle.truncation.proofs.Chosen.{none_seen}
use Rattle.answer.proofs.Tested.{comes_short, comes_acts}
use Rattle.truncation.proofs.deletions.truncate.Goals as goal

pub returns-then-list-head-clause-outcome : goal.returns-then-list-head-clause-outcome
returns-then-list-head-clause-outcome c = λ w H. rw c.plain.ensures (comes_short (truncate _ _) H refl c.if-list-head.true)

pub returns-clause-outcome : goal.returns-clause-outcome
unfolding act
returns-clause-outcome c = λ w H.
    comes_acts (truncate _ _) H refl c.if-list-head.false (c.delete_chosen.ensures.outcome (key_above c.args.limit)
    (record {
      told = λ e answer s given. search rules;
      none = none_seen (key_above c.args.limit) c.first_above-from.result c.view.ensures c.first_above-from.ensures.none;
    })
    w H)
