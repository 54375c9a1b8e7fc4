-- What the exported functions do. Each case says the code, and everything that was lent as it is after the call.
use Rattle.std.specs.Prelude.{◌≡◌, List, ℕ, length}
use Rattle.pool.specs.Slots.{entries}
use Rattle.memory.specs.Memory.{Memory}
use Rattle.memory.specs.Holds.{Sound}
use Rattle.creating.specs.Creation as creation
use Rattle.creating.specs.Creation.{Creates}
use Rattle.listing.specs.Listing.{in_numbers}
use Rattle.listing.specs.Outcome as listing
use Rattle.answer.specs.declared.answered.Answered.{Answered}
use Rattle.contract.specs.Called.{State}
use Rattle.apply.specs.Applied.{Applied}
use Rattle.c_numbers.specs.Head.{head_of, head_after}
use Rattle.c_numbers.specs.Put.{PutCreated, PutAnswer}

-- ── pc_create ────────────────────────────────────────────────────────────────
pub data Makes (capacity : ℕ) (m : Memory) (head : List ℕ) (m' : Memory) (head' : List ℕ) (code : ℕ) : Type 0 where
  unmade : (length head ≡ 5 → ⊥) → m' ≡ m → head' ≡ head → code ≡ 16 → Makes capacity m head m' head' code
  makes : (made : creation.Creation) → length head ≡ 5 → Creates m capacity made m' → PutCreated made head head' code
      → Makes capacity m head m' head' code

-- ── pc_test ──────────────────────────────────────────────────────────────────
-- nothing is altered: all is lent to be read
pub data Tests (m : Memory) (head : List ℕ) (code : ℕ) : Type 0 where
  untested : (length head ≡ 5 → ⊥) → code ≡ 16 → Tests m head code
  sound : length head ≡ 5 → Sound m (head_of head) → code ≡ 0 → Tests m head code
  not_sound : length head ≡ 5 → (Sound m (head_of head) → ⊥) → code ≡ 1 → Tests m head code

-- ── pc_list ──────────────────────────────────────────────────────────────────
-- the memory and the head are lent to be read
pub data Lists (m : Memory) (head list list' : List ℕ) (code : ℕ) : Type 0 where
  unlisted : (length head ≡ 5 → ⊥) → list' ≡ list → code ≡ 16 → Lists m head list list' code
  lists : (answer : listing.Listing) → length head ≡ 5 → listing.ListingEffect in_numbers m (head_of head) list list' answer
      → code ≡ listing.code_of answer → Lists m head list list' code

-- ── pc_apply ─────────────────────────────────────────────────────────────────
-- the head and the answer have the right lengths
pub record RightLengths (h a : List ℕ) : Type 0 where
  pub head : length h ≡ 5
  pub answer : length a ≡ 6

pub data Applies (bytes : List ℕ) (before : State) (head answer : List ℕ) (after : State) (head' answer' : List ℕ) (code : ℕ) : Type 0 where
  unapplied : (RightLengths head answer → ⊥) → after ≡ before → head' ≡ head → answer' ≡ answer → code ≡ 16
      → Applies bytes before head answer after head' answer' code
  applies : (r : Answered) → RightLengths head answer → Applied bytes before (head_of head) after r → head' ≡ head_after head r
      → PutAnswer (entries after.memory.slots) r answer' code → Applies bytes before head answer after head' answer' code
