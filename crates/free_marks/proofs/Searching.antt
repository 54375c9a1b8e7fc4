-- The first word that isn't 0 has the lowest free slot, and its trailing zeros say where.
use mathlib.Core.Path.{◌≡◌, ◌∙◌}
use mathlib.Core.List.{List}
use Prim.Native.Nat.{ℕ, ◌+◌, ◌*◌, ◌-◌, ◌/◌, ◌≤◌, ◌<◌}
use native.Mathlib.Decide.{dec_lt}
use native.Mathlib.Omega.{arith}
use lib.ListN.{length, get_or}
use Rattle.free_marks.specs.Marks.{bit_at, max_words, SomeFree, LowestFree}
use Rattle.free_marks.proofs.Digits.{digit, digit_of_none, LowestOne}
use Rattle.free_marks.proofs.Marking.{bit_past, clash, word_marks}

-- a slot from word w on and before place i of it is a lower place of it
in_word : (w i k : ℕ) → (k < w * 64 → ⊥) → k < w * 64 + i → (j : ℕ) × (j < i) × (k ≡ w * 64 + j)
in_word w i k h l = (k - w * 64, omega arith, omega arith)

-- a mark of 1 stands in a word that is there
free_inside : (m : List ℕ) (k : ℕ) → bit_at m k ≡ 1 → k / 64 < length m
free_inside m k e = go (dec_lt (k / 64) (length m))
  where
    go : Dec (k / 64 < length m) → k / 64 < length m
    go (yes h) = h
    go (no h) = absurd (clash (bit_past m k (omega arith)) e)

-- no slot of the words before w is free
pub record HeldBefore (m : List ℕ) (w : ℕ) : Type 0 where
  pub each : (k : ℕ) → k < w * 64 → bit_at m k ≡ 0

pub before_none : {m : List ℕ} → HeldBefore m 0
before_none = record { each = λ k h. absurd (omega arith) }

module _ {m : List ℕ} {w : ℕ} (before : HeldBefore m w) where
  -- so none is below place i of word w, if the word's digits below it are 0
  below_place : (i : ℕ) → i ≤ 64 → ((j : ℕ) → j < i → digit (get_or m w 0) j ≡ 0) → (k : ℕ) → k < w * 64 + i → bit_at m k ≡ 0
  below_place i most none k h = go (dec_lt k (w * 64))
    where
      go : Dec (k < w * 64) → bit_at m k ≡ 0
      go (yes l) = before.each k l
      go (no l) = let at = in_word w i k l h in rw at.2 (word_marks m w at.0 (omega (arith, at.1)) ∙ none at.0 at.1)

  -- a word of 0 has none
  pub before_more : get_or m w 0 ≡ 0 → HeldBefore m (w + 1)
  before_more e = record { each = λ k h. below_place 64 (omega arith) (λ j _. rw e (digit_of_none j)) k (omega arith) }

  -- a free slot is still to come, and so a word
  pub before_inside : SomeFree m → w < length m
  before_inside some = go (dec_lt some.slot (w * 64))
    where
      go : Dec (some.slot < w * 64) → w < length m
      go (yes h) = absurd (clash (before.each some.slot h) some.free)
      go (no h) = omega (arith, free_inside m some.slot some.free)

  pub before_limit : SomeFree m → w < max_words
  before_limit some = omega (arith, before_inside some, some.long)

  -- the lowest 1 of word w is the mark of the lowest free slot
  pub before_found : {i : ℕ} → LowestOne 64 (get_or m w 0) i → LowestFree m (w * 64 + i)
  before_found {i} l = record {
    free = word_marks m w i l.inside ∙ l.one;
    least = below_place i (omega (arith, l.inside)) l.below;
  }
