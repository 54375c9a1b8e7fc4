-- Creation (01, rule 1 and codes 0, 15 and 16): what is answered, and every word of what is left.
use Rattle.std.specs.Prelude.{◌≡◌, List, [], ◌∷◌, ◌++◌, ℕ, zero, suc, ◌*◌, ◌-◌, ◌/◌, ◌%◌, ◌^◌, ◌≤◌, ◌<◌, length, replicate, Result, Ok, Err}
use Rattle.std.proofs.Math.Option.{Option, none, some}
use Rattle.page.specs.Cache.{created}
use Rattle.page.specs.declared.cache.PageCache.{PageCache}
use Rattle.model.specs.Cache.{fresh}
use Rattle.memory.specs.Memory.{Memory}
use Rattle.memory.specs.Holds.{Holds}
use Rattle.soundness.specs.Checks.{Agreeing}
use Rattle.creating.specs.declared.creating.CreationError.{CreationError}
use Rattle.creating.specs.declared.creating.CreationError.TheVariants.{BadLengths, TooLarge}

-- ── the memory after ─────────────────────────────────────────────────────────
-- the word of marks for the slots that don't fill a whole word, if there are any: a 1 bit for each, and unused bits are 0
abbrev pub last_marks : ℕ → List ℕ
last_marks zero = []
last_marks (suc slots) = (2 ^ suc slots - 1) ∷ []

-- every slot is marked as free: 64 in each whole word
unfoldable pub free_marks : ℕ → List ℕ
free_marks size = replicate (size / 64) (2 ^ 64 - 1) ++ last_marks (size % 64)

-- nothing is held: all words are zero but the marks
abbrev pub fresh_memory : ℕ → Memory
fresh_memory size = record {
  slots = replicate (4 * size) 0;
  by_key = replicate size 0;
  by_handle = replicate size 0;
  marks = free_marks size;
}

-- ── the cases ────────────────────────────────────────────────────────────────
-- done: the head is that of a new cache, and every word is set
pub record CreatedWell (m : Memory) (capacity : ℕ) (head : PageCache) (m' : Memory) : Type 0 where
  pub lengths : Agreeing m
  pub within : capacity ≤ length m.by_key
  pub new : head ≡ created capacity
  pub memory : m' ≡ fresh_memory (length m.by_key)
  pub holds : Holds m' head (fresh (length m.by_key) capacity)

-- S or lent lengths wrong: nothing is altered
pub record RefusedLengths (m m' : Memory) : Type 0 where
  pub lengths : Agreeing m → ⊥
  pub memory : m' ≡ m

-- capacity > S: nothing is altered
pub record RefusedCapacity (m : Memory) (capacity : ℕ) (m' : Memory) : Type 0 where
  pub lengths : Agreeing m
  pub above : length m.by_key < capacity
  pub memory : m' ≡ m

-- ── the promise ──────────────────────────────────────────────────────────────
-- a head, or why there is none
abbrev pub Creation : Type 0
Creation = Result PageCache CreationError

-- 01's number for an answer
abbrev pub code_of : Creation → ℕ
code_of (Ok head) = 0
code_of (Err BadLengths) = 16
code_of (Err TooLarge) = 15

-- the head that comes with it
abbrev pub head_of : Creation → Option PageCache
head_of (Ok head) = some head
head_of (Err why) = none

-- 01's table for a creation: what it means that a number is given, with a head or without one. No other number is given
pub data Given (m : Memory) (capacity : ℕ) (m' : Memory) : (code : ℕ) → Option PageCache → Type 0 where
  done : {head : PageCache} → CreatedWell m capacity head m' → Given m capacity m' 0 (some head)
  too_large : RefusedCapacity m capacity m' → Given m capacity m' 15 none
  bad_lengths : RefusedLengths m m' → Given m capacity m' 16 none

-- what a creation may answer and leave
abbrev pub Creates : Memory → ℕ → Creation → Memory → Type 0
Creates m capacity r m' = Given m capacity m' (code_of r) (head_of r)
