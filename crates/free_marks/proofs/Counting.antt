-- The ones of a word are as many as its free slots, and those of all words are all free slots.
use mathlib.Core.Path.{◌≡◌, refl, sym, ap, ◌∙◌}
use mathlib.Core.List.{List}
use Prim.Native.Nat.{ℕ, zero, suc, ◌+◌, ◌*◌, ◌/◌, ◌%◌, ◌^◌, ◌≤◌, ◌<◌, suc-le-suc}
use native.Mathlib.Omega.{arith}
use lib.Arith.{lt-one}
use lib.Count.{ones, ones_step}
use lib.ListN.{length, get_or}
use Rattle.free_marks.specs.Marks.{bit_at, max_words, free_below, free_slots}
use Rattle.free_marks.proofs.Digits.{digit, digit_low, digit_up, half_lt}
use Rattle.free_marks.proofs.Marking.{word_marks}

ones_none : ones 0 ≡ 0
unfolding ones
ones_none = refl

pub free_next : (m : List ℕ) (k : ℕ) → free_below m (suc k) ≡ free_below m k + bit_at m k
unfolding free_below
free_next m k = refl

-- at most all are free
pub free_limit : (m : List ℕ) (k : ℕ) → free_below m k ≤ k
unfolding free_below
free_limit m zero = omega arith
free_limit m (suc k) = omega (arith, free_limit m k)

-- the count goes on from slot a by the ones of a number whose d digits are the marks from there
free_ones : (m : List ℕ) (d x a : ℕ) → x < 2 ^ d → ((i : ℕ) → i < d → bit_at m (a + i) ≡ digit x i) → free_below m (a + d) ≡ free_below m a + ones x
free_ones m zero x a h same = let here : a + 0 ≡ a = omega arith in rw (lt-one h, ones_none, here) (omega arith)
free_ones m (suc d) x a h same =
    let next : suc a + d ≡ a + suc d = omega arith in
    let here : a + 0 ≡ a = omega arith in
    let upper = free_ones m d (x / 2) (suc a) (half_lt d x h)
    (λ i l. let q : suc a + i ≡ a + suc i = omega arith in ap (bit_at m) q ∙ same (suc i) (suc-le-suc l) ∙ digit_up x i) in
    let lowest : bit_at m a ≡ x % 2 = ap (bit_at m) (sym here) ∙ same 0 (omega arith) ∙ digit_low x in
    ap (free_below m) (sym next) ∙ upper ∙ omega (arith, free_next m a, lowest, ones_step x)

-- n slots of the words before w are free
pub record CountedBefore (m : List ℕ) (n w : ℕ) : Type 0 where
  pub sum : n ≡ free_below m (w * 64)
  pub words : w ≤ length m

pub counted_none : {m : List ℕ} → CountedBefore m 0 0
unfolding free_below
counted_none = record { sum = refl; words = omega arith }

module _ {m : List ℕ} {n w : ℕ} (counted : CountedBefore m n w) where
  pub counted_more : w < length m → get_or m w 0 < 2 ^ 64 → CountedBefore m (n + ones (get_or m w 0)) (w + 1)
  counted_more l h =
      let next : w * 64 + 64 ≡ (w + 1) * 64 = omega arith in
      record {
        sum = ap (λ (k : ℕ). k + ones (get_or m w 0)) counted.sum ∙ sym (free_ones m 64 (get_or m w 0) (w * 64) h (word_marks m w)) ∙ ap (free_below m) next;
        words = omega arith;
      }

  -- it fits a number of 32 bits
  pub counted_limit : length m ≤ max_words → n ≤ 131072
  counted_limit few = omega (arith, counted.sum, counted.words, free_limit m (w * 64), few)

  pub counted_all : length m ≤ w → n ≡ free_slots m
  counted_all h = counted.sum ∙ ap (λ (k : ℕ). free_below m (k * 64)) (omega (arith, counted.words, h))
