-- What is decoded and tested decides which case of the contract is met. A test that fails is one of a call, since nothing else
-- asks for sound memory.
use Rattle.std.specs.Prelude.{Option, Some, None}
use mathlib.Core.Bool.{Bool, true, false, not, ◌||◌, true≢false}
use mathlib.Core.List.{List, [], ◌∷◌}
use mathlib.Core.Path.{◌≡◌, refl, sym, subst, ◌∙◌}
use Prim.Native.Nat.{ℕ, zero, suc, ◌≤◌, ◌<◌}
use native.Mathlib.Omega.{arith}
use lib.Dec.{ltb}
use lib.ListN.{length, get_or, drop}
use borrow.Author.Tests.{le-ltb, ltb-false}
use Rattle.page.specs.declared.cache.PageCache.{PageCache}
use Rattle.free_marks.specs.Marks.{Wide}
use Rattle.pool.specs.Decides.{Decides}
use Rattle.pool.proofs.Decides.{fails, passes, decides_yes, decides_as}
use Rattle.memory.specs.Memory.{Memory}
use Rattle.memory.specs.Holds.{Sound}
use Rattle.answer.specs.Answer.{plainly}
use Rattle.answer.specs.declared.answer.Answer.TheVariants.{NotSound, BadReplay}
use Rattle.answer.specs.declared.answered.Answered.{Answered}
use Rattle.contract.specs.Called.{State, refuses, acts, Typed}
use Rattle.replay_record.specs.Fields.{decoded}
use Rattle.replay_record.specs.Request.{Request, none, creation, call, operations, last_operation, request_of, request_in}
use Rattle.replay_record.specs.declared.record.Record.{Record}
use Rattle.dispatch.specs.Runs.{Runnable, Runs, Ran}
use Rattle.apply.specs.Applied.{Meets, Applied}

-- ── the operations that are calls ────────────────────────────────────────────
abbrev IsCall : Request → Type 0
IsCall none = ⊥
IsCall (creation capacity) = ⊥
IsCall (call x) = Unit

abbrev AllCalls : List Request → Type 0
AllCalls [] = Unit
AllCalls (x ∷ l) = IsCall x × AllCalls l

call_in : (l : List Request) → AllCalls l → (n : ℕ) → n < length l → IsCall (get_or l n none)
call_in [] all n within = absurd (omega arith)
call_in (x ∷ l) all zero within = all.0
call_in (x ∷ l) all (suc n) within = call_in l all.1 n (omega arith)

in_table : (l : List Request) (n : ℕ) → IsCall (get_or l n none) → n < length l
in_table [] n is = absurd is
in_table (x ∷ l) zero is = omega arith
in_table (x ∷ l) (suc n) is = omega (arith, in_table l n is)

module _ (asked : Record) (places : ℕ) where
  -- from 1 to the last
  is_call : 1 ≤ asked.operation → asked.operation ≤ last_operation → IsCall (request_of asked places)
  is_call = go asked.operation
    where
      go : (n : ℕ) → 1 ≤ n → n ≤ last_operation → IsCall (get_or (operations asked places) n none)
      go zero least most = absurd (omega arith)
      go (suc n) least most =
          let all : AllCalls (drop {A = Request} 1 (operations asked places)) =
          (tt, (tt, (tt, (tt, (tt, (tt, (tt, (tt, (tt, (tt, (tt, (tt, (tt, (tt, (tt, (tt, (tt, tt))))))))))))))))) in
          call_in (drop {A = Request} 1 (operations asked places)) all n (omega arith)

  -- and no others
  call_least : IsCall (request_of asked places) → 1 ≤ asked.operation
  call_least = go asked.operation
    where
      go : (n : ℕ) → IsCall (get_or (operations asked places) n none) → 1 ≤ n
      go zero is = absurd is
      go (suc n) is = omega arith

  call_most : IsCall (request_of asked places) → asked.operation ≤ last_operation
  call_most is = omega (arith, in_table (operations asked places) asked.operation is)

-- ── the soundness test ───────────────────────────────────────────────────────
-- the operation as the code tests it
pub outside : (n : ℕ) → (ltb n 1 || ltb last_operation n) ≡ true → 1 ≤ n → n ≤ last_operation → ⊥
outside n told least most =
    let neither : (ltb n 1 || ltb last_operation n) ≡ false = rw (le-ltb n 1 least, le-ltb last_operation n most) in
    true≢false (sym told ∙ neither)

neither_of : (a b : Bool) → (a || b) ≡ false → (a ≡ false) × (b ≡ false)
neither_of true b told = absurd (true≢false told)
neither_of false b told = (refl, told)

pub inside : (n : ℕ) → (ltb n 1 || ltb last_operation n) ≡ false → (1 ≤ n) × (n ≤ last_operation)
inside n told =
    let each : (ltb n 1 ≡ false) × (ltb last_operation n ≡ false) = neither_of (ltb n 1) (ltb last_operation n) told in
    (ltb-false n 1 each.0, ltb-false last_operation n each.1)

module _ {operation : ℕ} {m : Memory} {head : PageCache} where
  pub ready_else : (1 ≤ operation → operation ≤ last_operation → ⊥) → Decides true (Runnable operation m head)
  ready_else other = decides_yes (record { sound = λ least most. absurd (other least most) })

  pub ready_call : (1 ≤ operation) × (operation ≤ last_operation) → {sound : Bool} → Decides sound (Sound m head) → Decides sound (Runnable operation m head)
  ready_call within told = decides_as told (λ s. record { sound = λ _ _. s }) (λ w. w.sound within.0 within.1)

-- ── the contract ─────────────────────────────────────────────────────────────
module _ {bytes : List ℕ} {before : State} {head : PageCache} {after : State} {r : Answered} where
  applied_as : (d : Option Record) → decoded bytes ≡ d → Meets (request_in d (length before.list)) before head after r → Applied bytes before head after r
  applied_as d is meets = record {
    meets = subst (λ (x : Option Record). Meets (request_in x (length before.list)) before head after r) (sym is) meets;
  }

  pub applied_bad : decoded bytes ≡ None → after ≡ before → r ≡ plainly BadReplay head → Applied bytes before head after r
  applied_bad is same told = applied_as None is (record { state = same; answer = told })

  module _ {asked : Record} (is : decoded bytes ≡ Some asked) {ready : Bool}
      (test : Decides ready (Runnable asked.operation before.memory head)) where
    pub applied_unsound : not ready ≡ true → Typed before.memory head → after ≡ before → r ≡ plainly NotSound head
        → Applied bytes before head after r
    applied_unsound failed typed same told = applied_as (Some asked) is (go (request_of asked (length before.list)) refl)
      where
        call_of : (x : Request) → request_of asked (length before.list) ≡ x → (IsCall x → ⊥) → ⊥
        call_of x q other = fails test failed (record {
          sound = λ least most. absurd (other (subst IsCall q (is_call asked (length before.list) least most)));
        })

        go : (x : Request) → request_of asked (length before.list) ≡ x → Meets x before head after r
        go none q = absurd (call_of none q (λ p. p))
        go (creation n) q = absurd (call_of (creation n) q (λ p. p))
        go (call x) q = record {
          typed = typed;
          wide = subst (λ (s : State). Wide s.memory.marks) (sym same) typed.marks;
          effect = refuses (λ s. fails test failed (record { sound = λ _ _. s })) same told;
        }

    pub applied_ran : not ready ≡ false → Typed before.memory head → Wide after.memory.marks → Ran asked before head after r → Applied bytes before head after r
    applied_ran passed typed wide ran = applied_as (Some asked) is (go (request_of asked (length before.list)) refl ran.runs)
      where
        go : (x : Request) → request_of asked (length before.list) ≡ x → Runs x before head after r → Meets x before head after r
        go none q runs = runs
        go (creation n) q runs = runs
        go (call x) q runs =
            let one : IsCall (request_of asked (length before.list)) = subst IsCall (sym q) tt in
            let sound : Sound before.memory head =
            (passes test passed).sound (call_least asked (length before.list) one) (call_most asked (length before.list) one) in
            record { typed = typed; wide = wide; effect = acts sound runs }
