-- A public call tests the memory, and then refuses or acts: both ways it meets its contract.
use mathlib.Core.Bool.{Bool, true, false, not}
use mathlib.Core.List.{List}
use mathlib.Core.Path.{◌≡◌, refl, subst}
use Prim.Native.Nat.{ℕ, ◌<◌, ◌^◌}
use lib.ListN.{get_or}
use Rattle.page.specs.declared.cache.PageCache.{PageCache}
use Rattle.free_marks.specs.Marks.{Wide}
use Rattle.pool.specs.Decides.{Decides}
use Rattle.pool.proofs.Decides.{fails, passes}
use Rattle.model.specs.Cache.{Cache}
use Rattle.model.specs.Call.{Call}
use Rattle.model.specs.Step.{step}
use Rattle.memory.specs.Memory.{Memory, WordsFit}
use Rattle.memory.specs.Holds.{Holds, Sound}
use Rattle.answer.specs.Answer.{MatchesOutcome, plainly}
use Rattle.answer.specs.declared.answer.Answer.TheVariants.{NotSound}
use Rattle.answer.specs.declared.answered.Answered.{Answered}
use Rattle.contract.specs.Called.{lent, refuses, acts, Typed, Called}

-- what is lent is in range for its types: words of 64 bits, and an estimate of 32
pub lent_typed : {m : Memory} {head : PageCache} → ((k : ℕ) → get_or m.slots k 0 < 2 ^ 64) → ((k : ℕ) → get_or m.marks k 0 < 2 ^ 64)
    → head.estimate < 2 ^ 32 → Typed m head
lent_typed slots marks estimate = record { slots = record { each = slots }; marks = record { each = marks }; estimate = estimate }

pub words_typed : {m : Memory} {head : PageCache} → WordsFit m → head.estimate < 2 ^ 32 → Typed m head
words_typed words estimate = record { slots = words.slots; marks = words.marks; estimate = estimate }

module _ {call : Call} {m : Memory} {head : PageCache} {sound : Bool} (told : Decides sound (Sound m head)) where
  pub call_refused : {list : List ℕ} {r : Answered} → Typed m head → not sound ≡ true → r ≡ plainly NotSound head
      → Called call (lent m list) head (lent m list) r
  call_refused typed t q = record { typed = typed; wide = typed.marks; effect = refuses (fails told t) refl q }

  pub call_acted : {m' : Memory} {list list' : List ℕ} {r : Answered} → Typed m head → Wide m'.marks → not sound ≡ false
      → ((c : Cache) → Holds m head c → MatchesOutcome (step call c) list m' list' r) → Called call (lent m list) head (lent m' list') r
  call_acted typed wide t done = record { typed = typed; wide = wide; effect = acts (passes told t) done }

-- the same of memory that is lent as one value and tested by way of a view of it
module _ {seen m : Memory} {head : PageCache} (same : seen ≡ m) {sound : Bool} (told : Decides sound (Sound seen head))
    (words : WordsFit seen) (estimate : head.estimate < 2 ^ 32) where
  typed_here : Typed m head
  typed_here = subst (λ (x : Memory). Typed x head) same (words_typed words estimate)

  told_here : Decides sound (Sound m head)
  told_here = subst (λ (x : Memory). Decides sound (Sound x head)) same told

  pub tested_refused : {call : Call} {list : List ℕ} {r : Answered} → not sound ≡ true → r ≡ plainly NotSound head
      → Called call (lent m list) head (lent m list) r
  tested_refused t q = call_refused told_here typed_here t q

  pub tested_acted : {call : Call} {m' : Memory} {list list' : List ℕ} {r : Answered} → WordsFit m' → not sound ≡ false
      → ((c : Cache) → Holds m head c → MatchesOutcome (step call c) list m' list' r) → Called call (lent m list) head (lent m' list') r
  tested_acted after t done = call_acted told_here typed_here after.marks t done
