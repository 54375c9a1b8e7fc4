-- A mark is a digit of a word: writing one keeps the others, and words of 64 bits are known by their marks.
use mathlib.Core.Path.{◌≡◌, sym, ap, ◌∙◌}
use mathlib.Core.List.{List}
use Prim.Native.Nat.{ℕ, ◌+◌, ◌*◌, ◌-◌, ◌/◌, ◌%◌, ◌^◌, ◌≤◌, ◌<◌, min, max}
use native.Mathlib.Nat.{one-mul}
use native.Mathlib.Decide.{ℕ_discrete}
use native.Mathlib.Omega.{arith}
use lib.Bits.{bit_or, bit_and}
use lib.Pow.{shl_exact}
use lib.ListN.{length, get_or, set, length-set, get_or-eq_default}
use lib.Seq.{get_or-set_same, get_or-set_other, ext_get_or}
use Rattle.free_marks.specs.Marks.{bit_at, Wide, MarkedAs}
use Rattle.free_marks.proofs.Digits.{digit, digit_of_none, or_digit, and_digit, pow_here, pow_else, not_digit, digits_once}

-- ── one mark ─────────────────────────────────────────────────────────────────
-- it is 0 or 1, and not both
pub bit_limit : (m : List ℕ) (k : ℕ) → bit_at m k ≤ 1
bit_limit m k = omega arith

pub bit_one : (m : List ℕ) (k : ℕ) → (bit_at m k ≡ 0 → ⊥) → bit_at m k ≡ 1
bit_one m k ne = omega arith

pub clash : {x : ℕ} → x ≡ 0 → x ≡ 1 → ⊥
clash p q = omega arith

-- a word of 0 has none of 1
pub bit_none : (m : List ℕ) (k : ℕ) → get_or m (k / 64) 0 ≡ 0 → bit_at m k ≡ 0
bit_none m k e = ap (λ (x : ℕ). digit x (k % 64)) e ∙ digit_of_none (k % 64)

-- nor has a word that isn't there
pub bit_past : (m : List ℕ) (k : ℕ) → length m ≤ k / 64 → bit_at m k ≡ 0
bit_past m k h = bit_none m k (get_or-eq_default m 0 h)

-- ── a mark is written ────────────────────────────────────────────────────────
module _ (mark : ℕ) (m : List ℕ) (s : ℕ) (inside : s / 64 < length m) (word : ℕ)
    (here : digit word (s % 64) ≡ mark) (others : (i : ℕ) → i < 64 → (i ≡ s % 64 → ⊥) → digit word i ≡ digit (get_or m (s / 64) 0) i) where
  other : (k : ℕ) → (k ≡ s → ⊥) → Dec (k / 64 ≡ s / 64) → bit_at (set m (s / 64) word) k ≡ bit_at m k
  other k ne (yes e) = rw (e, get_or-set_same m (s / 64) word 0 inside) (others (k % 64) (omega arith) (λ q. ne (omega arith)))
  other k ne (no h) = ap (λ (x : ℕ). digit x (k % 64)) (get_or-set_other m (s / 64) (k / 64) word 0 h)

  written : MarkedAs mark m s (set m (s / 64) word)
  written = record {
    here = ap (λ (x : ℕ). digit x (s % 64)) (get_or-set_same m (s / 64) word 0 inside) ∙ here;
    others = λ k ne. other k ne (ℕ_discrete (k / 64) (s / 64));
    long = length-set m (s / 64) word;
  }

-- the number that the code shifts is a power of two
pub shifted : (b : ℕ) → b < 64 → 1 * 2 ^ b % 2 ^ 64 ≡ 2 ^ b
shifted b h = shl_exact 1 b 64 (omega arith) (omega arith) ∙ one-mul (2 ^ b)

max_one : (x : ℕ) → max (x % 2) 1 ≡ 1
max_one x = omega arith

max_none : (x : ℕ) → max x 0 ≡ x
max_none x = omega arith

min_none : (x : ℕ) → min x 0 ≡ 0
min_none x = omega arith

min_one : (x : ℕ) → min (x % 2) 1 ≡ x % 2
min_one x = omega arith

module _ (m : List ℕ) (s : ℕ) (inside : s / 64 < length m) where
  abbrev old : ℕ
  old = get_or m (s / 64) 0

  abbrev one : ℕ
  one = 1 * 2 ^ (s % 64) % 2 ^ 64

  one_here : digit one (s % 64) ≡ 1
  one_here = ap (λ (x : ℕ). digit x (s % 64)) (shifted (s % 64) (omega arith)) ∙ pow_here (s % 64)

  one_else : (i : ℕ) → (i ≡ s % 64 → ⊥) → digit one i ≡ 0
  one_else i ne = ap (λ (x : ℕ). digit x i) (shifted (s % 64) (omega arith)) ∙ pow_else (s % 64) i ne

  one_fits : one < 2 ^ 64
  one_fits = omega arith

  pub marked_free : MarkedAs 1 m s (set m (s / 64) (bit_or old one))
  marked_free = written 1 m s inside _
      (or_digit old one (s % 64) ∙ ap (max (digit old (s % 64))) one_here ∙ max_one _)
      (λ i h ne. or_digit old one i ∙ ap (max (digit old i)) (one_else i ne) ∙ max_none _)

  pub marked_held : MarkedAs 0 m s (set m (s / 64) (bit_and old (2 ^ 64 - 1 - one)))
  marked_held = written 0 m s inside _
      (and_digit old (2 ^ 64 - 1 - one) (s % 64) ∙ ap (min (digit old (s % 64))) (not_digit 64 one (s % 64) one_fits (omega arith) ∙ ap (λ (x : ℕ). 1 - x) one_here) ∙ min_none _)
      (λ i h ne. and_digit old (2 ^ 64 - 1 - one) i ∙ ap (min (digit old i)) (not_digit 64 one i one_fits h ∙ ap (λ (x : ℕ). 1 - x) (one_else i ne)) ∙ min_one _)

-- ── the words of the marks ───────────────────────────────────────────────────
word_of : (w i : ℕ) → i < 64 → (w * 64 + i) / 64 ≡ w
word_of w i h = omega arith

digit_of : (w i : ℕ) → i < 64 → (w * 64 + i) % 64 ≡ i
digit_of w i h = omega arith

-- the marks of a word are its digits
pub word_marks : (m : List ℕ) (w i : ℕ) → i < 64 → bit_at m (w * 64 + i) ≡ digit (get_or m w 0) i
word_marks m w i h = rw (word_of w i h, digit_of w i h)

-- words with equal marks are equal
pub marks_once : (m m' : List ℕ) → length m ≡ length m' → Wide m → Wide m' → ((k : ℕ) → bit_at m k ≡ bit_at m' k) → m ≡ m'
marks_once m m' long wide wide' same =
    ext_get_or 0 m m' long (λ w _. digits_once 64 (get_or m w 0) (get_or m' w 0) (wide.each w) (wide'.each w)
    (λ i h. sym (word_marks m w i h) ∙ same (w * 64 + i) ∙ word_marks m' w i h))
