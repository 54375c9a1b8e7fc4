-- A call that lists nothing leaves a list alone, so that it need not be lent one.
use Rattle.std.specs.Prelude.{Some, None}
use mathlib.Core.Bool.{Bool}
use mathlib.Core.List.{List, []}
use mathlib.Core.Option.{Option, none, some}
use mathlib.Core.Path.{◌≡◌, refl}
use Prim.Native.Nat.{ℕ, zero, suc}
use Rattle.page.specs.Cache.{page_one}
use Rattle.page.specs.Record.{Holders, one_holder_less}
use Rattle.page.specs.declared.record.PageRecord.{PageRecord}
use Rattle.model.specs.Row.{Page, Entry, find}
use Rattle.model.specs.Cache.{Cache, up, down}
use Rattle.model.specs.Call.{Call, Outcome, peek, release, notify_dirty, notify_spilled, write, switch}
use Rattle.model.specs.Rules.{peek_found, release_with, release_found, notified, write_found}
use Rattle.model.specs.Step.{act, tested, step}
use Rattle.model.specs.Tests.{refusal}
use Rattle.model.proofs.KeptCases.{either}
use Rattle.memory.specs.Memory.{Memory}
use Rattle.answer.specs.Answer.{Follows, MatchesOutcome}
use Rattle.answer.specs.declared.answered.Answered.{Answered}
use Rattle.answer.proofs.Steps.{unlisted_comes, hit_unlisted}

-- calls that list nothing by their rules
pub record Quiet (call : Call) : Type 0 where
  pub silent : (c : Cache) → (act call c).listed ≡ []

-- nor does a test list anything
quiet_step : {call : Call} → Quiet call → (c : Cache) → (step call c).listed ≡ []
unfolding step
quiet_step {call} q c = go (refusal call c)
  where
    go : (code : ℕ) → (tested code call c).listed ≡ []
    go zero = q.silent c
    go (suc n) = refl

pub quiet_comes : {call : Call} → Quiet call → (c : Cache) {m : Memory} {list : List ℕ} {r : Answered} → Follows (step call c) m r
    → MatchesOutcome (step call c) list m list r
quiet_comes q c f = unlisted_comes f (quiet_step q c)

pub quiet_peek : (key : ℕ) (asked : Bool) → Quiet (peek key asked)
unfolding act
quiet_peek key asked = record { silent = λ c. go (find key c.row) c }
  where
    go : (found : Option Entry) (c : Cache) → (peek_found key asked found c).listed ≡ []
    go none c = refl
    go (some e) c = hit_unlisted key asked e.page c

pub quiet_release : (key : ℕ) → Quiet (release key)
unfolding act
quiet_release key = record { silent = λ c. go (find key c.row) c }
  where
    less : (r : Holders) (p : Page) (c : Cache) → (release_with key r p c).listed ≡ []
    less (Some holders) p c = refl
    less None p c = refl

    go : (found : Option Entry) (c : Cache) → (release_found key found c).listed ≡ []
    go none c = refl
    go (some e) c = less (one_holder_less e.page.state) e.page c

pub quiet_write : (key : ℕ) (state : PageRecord) → Quiet (write key state)
unfolding act
quiet_write key state = record { silent = λ c. go (find key c.row) c }
  where
    go : (found : Option Entry) (c : Cache) → (write_found key state found c).listed ≡ []
    go none c = refl
    go (some e) c = refl

quiet_notice : (by : ℕ → ℕ) (found : Option Entry) (c : Cache) → (notified by found c).listed ≡ []
quiet_notice by none c = refl
quiet_notice by (some e) c = either (λ (o : Outcome). o.listed ≡ []) (page_one e.page.key) (λ _. refl) (λ _. refl)

pub quiet_dirty : (key : ℕ) → Quiet (notify_dirty key)
unfolding act
quiet_dirty key = record { silent = λ c. quiet_notice down (find key c.row) c }

pub quiet_spilled : (key : ℕ) → Quiet (notify_spilled key)
unfolding act
quiet_spilled key = record { silent = λ c. quiet_notice up (find key c.row) c }

pub quiet_switch : (on : Bool) → Quiet (switch on)
unfolding act
quiet_switch on = record { silent = λ c. refl }
