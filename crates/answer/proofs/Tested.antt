-- The calls that are tested for the length of their list alone: a list that is too short is refused, and otherwise the rule
-- follows.
use mathlib.Core.Path.{◌≡◌, ap, ◌∙◌}
use mathlib.Core.List.{List}
use mathlib.Core.Option.{none, some}
use Prim.Native.Nat.{ℕ, ◌≤◌, ◌<◌}
use lib.ListN.{length}
use Rattle.page.specs.declared.cache.PageCache.{PageCache}
use Rattle.model.specs.Cache.{Cache}
use Rattle.model.specs.Call.{Call}
use Rattle.model.specs.Step.{act, step}
use Rattle.model.specs.Tests.{Asks, asks, too_large, bad_record, short_list, handle_elsewhere}
use Rattle.memory.specs.Memory.{Memory}
use Rattle.memory.specs.Holds.{Holds}
use Rattle.answer.specs.Answer.{plainly, MatchesOutcome}
use Rattle.answer.specs.declared.answer.Answer.TheVariants.{ShortList}
use Rattle.answer.specs.declared.answered.Answered.{Answered}
use Rattle.answer.proofs.Steps.{step_acts, step_short_list, list_short, list_long, comes_as, plain_comes}

-- a list, and no more
abbrev pub list_alone : ℕ → Asks
list_alone places = record { capacity = none; state = none; places = some places; naming = none }

module _ (call : Call) {m : Memory} {head : PageCache} {c : Cache} (H : Holds m head c) {list : List ℕ}
    (asked : asks call ≡ list_alone (length list)) where
  pub comes_short : length list < head.held → MatchesOutcome (step call c) list m list (plainly ShortList head)
  comes_short short =
      comes_as (step_short_list call (ap (λ (a : Asks). too_large a.capacity c) asked) (ap (λ (a : Asks). bad_record a.state) asked)
      (ap (λ (a : Asks). short_list a.places c) asked ∙ list_short H short)) (plain_comes ShortList H list)

  pub comes_acts : head.held ≤ length list → {m' : Memory} {list' : List ℕ} {r : Answered} → MatchesOutcome (act call c) list m' list' r
      → MatchesOutcome (step call c) list m' list' r
  comes_acts long comes = comes_as (step_acts call (record {
    capacity = ap (λ (a : Asks). too_large a.capacity c) asked;
    state = ap (λ (a : Asks). bad_record a.state) asked;
    places = ap (λ (a : Asks). short_list a.places c) asked ∙ list_long H long;
    naming = ap (λ (a : Asks). handle_elsewhere a.naming c) asked;
  })) comes
