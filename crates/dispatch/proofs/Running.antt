-- Each arm runs what the record's operation asks for: the operation is the arm's number, and the request stands at that place
-- of the table.
use mathlib.Core.Path.{◌≡◌, refl, sym, ap, subst, ◌∙◌}
use mathlib.Core.List.{List, [], ◌∷◌}
use Prim.Native.Nat.{ℕ, zero, suc, ◌+◌, ◌≤◌, ◌<◌}
use native.Mathlib.Omega.{arith}
use lib.ListN.{length, get_or}
use Rattle.page.specs.declared.cache.PageCache.{PageCache}
use Rattle.model.specs.Cache.{Cache}
use Rattle.model.specs.Call.{Call}
use Rattle.model.specs.Step.{step}
use Rattle.memory.specs.Memory.{Memory}
use Rattle.memory.specs.Holds.{Holds, Sound}
use Rattle.answer.specs.Answer.{MatchesOutcome, plainly}
use Rattle.answer.specs.declared.answer.Answer.TheVariants.{BadReplay}
use Rattle.answer.specs.declared.answered.Answered.{Answered}
use Rattle.contract.specs.Called.{State}
use Rattle.replay_record.specs.Request.{Request, none, creation, call, operations, last_operation, request_of}
use Rattle.replay_record.specs.declared.record.Record.{Record}
use Rattle.dispatch.specs.Runs.{Runnable, Makes, Runs, Ran}

-- ── before a call ────────────────────────────────────────────────────────────
pub sound_at : {operation k : ℕ} {m : Memory} {head : PageCache} → Runnable operation m head → operation ≡ k → 1 ≤ k → k ≤ last_operation → Sound m head
sound_at w is least most = w.sound (omega (arith, is, least)) (omega (arith, is, most))

-- ── after it ─────────────────────────────────────────────────────────────────
-- past its end the table has nothing
beyond : (l : List Request) (n : ℕ) → length l ≤ n → get_or l n none ≡ none
beyond [] n past = refl
beyond (x ∷ l) zero past = absurd (omega arith)
beyond (x ∷ l) (suc n) past = beyond l n (omega arith)

at_place : (asked : Record) (places k : ℕ) → asked.operation ≡ k → request_of asked places ≡ get_or (operations asked places) k none
at_place asked places k is = ap (λ (n : ℕ). get_or (operations asked places) n none) is

module _ {asked : Record} {before : State} {head : PageCache} {after : State} {r : Answered} where
  ran_as : (x : Request) → request_of asked (length before.list) ≡ x → Runs x before head after r → Ran asked before head after r
  ran_as x is runs = record { runs = subst (λ (y : Request). Runs y before head after r) (sym is) runs }

  pub ran_call : (k : ℕ) (x : Call) → get_or (operations asked (length before.list)) k none ≡ call x → asked.operation ≡ k
      → ((c : Cache) → Holds before.memory head c → MatchesOutcome (step x c) before.list after.memory after.list r)
      → Ran asked before head after r
  ran_call k x stands is comes = ran_as (call x) (at_place asked (length before.list) k is ∙ stands) comes

  pub ran_creation : asked.operation ≡ 0 → Makes asked.number before.memory head after.memory r → after.list ≡ before.list
      → Ran asked before head after r
  ran_creation is makes same = ran_as (creation asked.number) (at_place asked (length before.list) 0 is) (record { makes = makes; list = same })

  pub ran_none : last_operation < asked.operation → after ≡ before → r ≡ plainly BadReplay head → Ran asked before head after r
  ran_none above same told =
      ran_as none (beyond (operations asked (length before.list)) asked.operation above) (record { state = same; answer = told })

-- ── what is left after eighteen arms ────────────────────────────────────────
pub past : (n k : ℕ) → n ≤ k → (k ≡ n → ⊥) → n + 1 ≤ k
past n k least other = omega arith
