-- A spill that is lent a list long enough does what rules 13 and 14 say, and one that is not is refused.
use mathlib.Core.List.{List}
use mathlib.Core.Path.{refl}
use Prim.Native.Nat.{ℕ, ◌≤◌, ◌<◌}
use lib.ListN.{length}
use Rattle.page.specs.declared.cache.PageCache.{PageCache}
use Rattle.model.specs.Cache.{Cache}
use Rattle.model.specs.Call.{spill}
use Rattle.model.specs.Spill.{on_spill}
use Rattle.model.specs.Step.{act, step}
use Rattle.memory.specs.Memory.{Memory}
use Rattle.memory.specs.Holds.{Holds}
use Rattle.answer.specs.Answer.{plainly, MatchesOutcome}
use Rattle.answer.specs.declared.answer.Answer.TheVariants.{ShortList}
use Rattle.answer.specs.declared.answered.Answered.{Answered}
use Rattle.answer.proofs.Steps.{step_acts, step_short_list, list_short, list_long, comes_as, plain_comes}

module _ (most : ℕ) {m : Memory} {head : PageCache} {c : Cache} (H : Holds m head c) {list : List ℕ} where
  pub spill_short : length list < head.held → MatchesOutcome (step (spill most (length list)) c) list m list (plainly ShortList head)
  spill_short short = comes_as (step_short_list (spill most (length list)) refl refl (list_short H short)) (plain_comes ShortList H list)

  pub spill_acts : head.held ≤ length list → {m' : Memory} {list' : List ℕ} {r : Answered} → MatchesOutcome (on_spill most c) list m' list' r
      → MatchesOutcome (step (spill most (length list)) c) list m' list' r
  unfolding act
  spill_acts long comes =
      comes_as (step_acts (spill most (length list)) (record { capacity = refl; state = refl; places = list_long H long; naming = refl })) comes
