-- A list that is too short is refused, and otherwise the walk begins at the lowest key.
use mathlib.Core.Path.{refl}
use borrow.Author.Rules.{rules}
use native.Mathlib.Omega.{arith}
use Rattle.model.specs.Call.{remove_frames}
use Rattle.model.specs.Step.{act}
use Rattle.model.specs.Rules.{newer_than}
use Rattle.answer.proofs.Tested.{comes_short, comes_acts}
use Rattle.truncation.proofs.deletions.delete_clean_pages_after_wal_frame.Goals as goal

pub returns-then-list-head-clause-outcome : goal.returns-then-list-head-clause-outcome
returns-then-list-head-clause-outcome c = λ w H. rw c.plain.ensures (comes_short (remove_frames _ _) H refl c.if-list-head.true)

pub returns-clause-outcome : goal.returns-clause-outcome
unfolding act
returns-clause-outcome c = λ w H.
    comes_acts (remove_frames _ _) H refl c.if-list-head.false (c.delete_chosen.ensures.outcome (newer_than c.args.limit)
    (record { told = λ e answer s given. search rules; none = λ k h. absurd (omega (arith, h)) }) w H)
