-- The digits of a number to the base 2: `|`, `&` and `!` work digit by digit, a power of two has a single one, its trailing
-- zeros lead to its lowest 1, and a number is known by its digits. Each law goes from a number to its half.
use mathlib.Core.Path.{◌≡◌, refl, sym, ap, ◌∙◌, subst}
use Prim.Native.Nat.{ℕ, zero, suc, ◌*◌, ◌+◌, ◌-◌, ◌/◌, ◌%◌, ◌^◌, ◌≤◌, ◌<◌, min, max, suc-le-suc}
use native.Mathlib.Nat.{div-div-eq-div-mul, div-one, div-lt_iff_lt-mul, zero-div, zero-lt-suc, pow-suc, pow-succ', le_of_suc-le-suc}
use native.Mathlib.Omega.{arith}
use lib.Arith.{lt-one}
use lib.Bits.{bit_or, bit_and, or_step, or_shr, and_step, and_shr}
use lib.Count.{under, count_trailing_zeros}
use lib.Pow.{shr-shr}

-- the digit that stands for 2 ^ i
abbrev pub digit : ℕ → ℕ → ℕ
digit x i = x / 2 ^ i % 2

pub digit_low : (x : ℕ) → digit x 0 ≡ x % 2
digit_low x = ap (λ (y : ℕ). y % 2) (div-one x)

-- a digit above the lowest is a digit of the half
pub digit_up : (x i : ℕ) → digit x (suc i) ≡ digit (x / 2) i
digit_up x i = ap (λ (y : ℕ). y % 2) (ap (λ (y : ℕ). x / y) (pow-succ' 2 i) ∙ sym (div-div-eq-div-mul x 2 (2 ^ i)))

-- a digit above b is one of what is left after a shift by b
pub digit_shifted : (x b i : ℕ) → digit (x / 2 ^ b) i ≡ digit x (b + i)
digit_shifted x b i = ap (λ (y : ℕ). y % 2) (shr-shr x b i)

pub digit_of_none : (i : ℕ) → digit 0 i ≡ 0
digit_of_none i = ap (λ (y : ℕ). y % 2) (zero-div (2 ^ i))

-- the lowest digit of a number that is made of its half and a digit
odd : (x d : ℕ) → d ≤ 1 → (x * 2 + d) % 2 ≡ d
odd x d h = omega arith

or_low : (x y : ℕ) → bit_or x y % 2 ≡ max (x % 2) (y % 2)
or_low x y = ap (λ (z : ℕ). z % 2) (or_step x y) ∙ odd (bit_or (x / 2) (y / 2)) (max (x % 2) (y % 2)) (omega arith)

and_low : (x y : ℕ) → bit_and x y % 2 ≡ min (x % 2) (y % 2)
and_low x y = ap (λ (z : ℕ). z % 2) (and_step x y) ∙ odd (bit_and (x / 2) (y / 2)) (min (x % 2) (y % 2)) (omega arith)

pub or_digit : (x y i : ℕ) → digit (bit_or x y) i ≡ max (digit x i) (digit y i)
or_digit x y i = ap (λ (z : ℕ). z % 2) (or_shr x y i) ∙ or_low (x / 2 ^ i) (y / 2 ^ i)

pub and_digit : (x y i : ℕ) → digit (bit_and x y) i ≡ min (digit x i) (digit y i)
and_digit x y i = ap (λ (z : ℕ). z % 2) (and_shr x y i) ∙ and_low (x / 2 ^ i) (y / 2 ^ i)

-- ── a power of two, and its complement ───────────────────────────────────────
half_pow : (b : ℕ) → 2 ^ suc b / 2 ≡ 2 ^ b
half_pow b = ap (λ (x : ℕ). x / 2) (pow-suc 2 b) ∙ half (2 ^ b)
  where
    half : (x : ℕ) → x * 2 / 2 ≡ x
    half x = omega arith

even_pow : (b : ℕ) → 2 ^ suc b % 2 ≡ 0
even_pow b = ap (λ (x : ℕ). x % 2) (pow-suc 2 b) ∙ even (2 ^ b)
  where
    even : (x : ℕ) → x * 2 % 2 ≡ 0
    even x = omega arith

pub pow_here : (b : ℕ) → digit (2 ^ b) b ≡ 1
pow_here zero = refl
pow_here (suc b) = digit_up (2 ^ suc b) b ∙ ap (λ (x : ℕ). digit x b) (half_pow b) ∙ pow_here b

pub pow_else : (b i : ℕ) → (i ≡ b → ⊥) → digit (2 ^ b) i ≡ 0
pow_else zero zero ne = absurd (ne refl)
pow_else zero (suc i) ne = digit_up 1 i ∙ digit_of_none i
pow_else (suc b) zero ne = digit_low (2 ^ suc b) ∙ even_pow b
pow_else (suc b) (suc i) ne = digit_up (2 ^ suc b) i ∙ ap (λ (x : ℕ). digit x i) (half_pow b) ∙ pow_else b i (λ e. ne (ap suc e))

-- the complement of x in d digits has the other digits
module _ (d x : ℕ) (fits : x < 2 ^ suc d) where
  not_half : (2 ^ suc d - 1 - x) / 2 ≡ 2 ^ d - 1 - x / 2
  not_half = rw (pow-suc 2 d) (by (2 ^ d) (rw (pow-suc 2 d) at fits))
    where
      by : (p : ℕ) → x < p * 2 → (p * 2 - 1 - x) / 2 ≡ p - 1 - x / 2
      by p h = omega arith

  not_low : (2 ^ suc d - 1 - x) % 2 ≡ 1 - x % 2
  not_low = rw (pow-suc 2 d) (by (2 ^ d) (rw (pow-suc 2 d) at fits))
    where
      by : (p : ℕ) → x < p * 2 → (p * 2 - 1 - x) % 2 ≡ 1 - x % 2
      by p h = omega arith

pub half_lt : (d x : ℕ) → x < 2 ^ suc d → x / 2 < 2 ^ d
half_lt d x h = (div-lt_iff_lt-mul (zero-lt-suc 1)).1 (subst (λ (y : ℕ). x < y) (pow-suc 2 d) h)

pub not_digit : (d x i : ℕ) → x < 2 ^ d → i < d → digit (2 ^ d - 1 - x) i ≡ 1 - digit x i
not_digit zero x i h l = absurd (omega arith)
not_digit (suc d) x zero h l = digit_low (2 ^ suc d - 1 - x) ∙ not_low d x h ∙ ap (λ (y : ℕ). 1 - y) (sym (digit_low x))
not_digit (suc d) x (suc i) h l =
    digit_up (2 ^ suc d - 1 - x) i ∙ ap (λ (y : ℕ). digit y i) (not_half d x h) ∙ not_digit d (x / 2) i (half_lt d x h) (le_of_suc-le-suc l)
    ∙ ap (λ (y : ℕ). 1 - y) (sym (digit_up x i))

-- ── a number by its digits ───────────────────────────────────────────────────
pub digits_once : (d x y : ℕ) → x < 2 ^ d → y < 2 ^ d → ((i : ℕ) → i < d → digit x i ≡ digit y i) → x ≡ y
digits_once zero x y h k e = below_one h k
  where
    below_one : x < 1 → y < 1 → x ≡ y
    below_one h k = omega arith
digits_once (suc d) x y h k e =
    from_half (digits_once d (x / 2) (y / 2) (half_lt d x h) (half_lt d y k) (λ i l. sym (digit_up x i) ∙ e (suc i) (suc-le-suc l) ∙ digit_up y i))
    (sym (digit_low x) ∙ e 0 (omega arith) ∙ digit_low y)
  where
    from_half : x / 2 ≡ y / 2 → x % 2 ≡ y % 2 → x ≡ y
    from_half p q = omega arith

-- ── the lowest 1 ─────────────────────────────────────────────────────────────
-- digit i of the d digits of x is 1, and no lower one is
pub record LowestOne (d x i : ℕ) : Type 0 where
  pub inside : i < d
  pub one : digit x i ≡ 1
  pub below : (j : ℕ) → j < i → digit x j ≡ 0

-- it is the lowest 1 of the half too, one place lower
lowest_up : (d x i : ℕ) → x % 2 ≡ 0 → LowestOne d (x / 2) i → LowestOne (suc d) x (suc i)
lowest_up d x i even l = record {
  inside = suc-le-suc l.inside;
  one = digit_up x i ∙ l.one;
  below = lower;
}
  where
    lower : (j : ℕ) → j < suc i → digit x j ≡ 0
    lower zero h = digit_low x ∙ even
    lower (suc j) h = digit_up x j ∙ l.below j (le_of_suc-le-suc h)

-- the law of trailing zeros: in a number of d digits that isn't 0 they are the place of the lowest 1
pub trailing : (d x : ℕ) → x < 2 ^ d → (x ≡ 0 → ⊥) → LowestOne d x (count_trailing_zeros d x)
unfolding count_trailing_zeros
trailing zero x h ne = absurd (ne (lt-one h))
trailing (suc d) x h ne = go (x % 2) refl (trailing d (x / 2) (half_lt d x h))
  where
    go : (low : ℕ) → x % 2 ≡ low → ((x / 2 ≡ 0 → ⊥) → LowestOne d (x / 2) (count_trailing_zeros d (x / 2)))
        → LowestOne (suc d) x (under low (count_trailing_zeros d (x / 2)))
    go zero e upper = lowest_up d x _ e (upper (λ z. ne (omega arith)))
    go (suc b) e upper = record { inside = omega arith; one = digit_low x ∙ omega arith; below = λ j l. absurd (omega arith) }
