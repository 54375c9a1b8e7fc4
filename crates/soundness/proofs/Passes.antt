-- A loop that looks at one number after another knows that all it has passed are good: it says no at the first that is
-- not, and yes at the end.
use mathlib.Core.Path.{◌≡◌}
use mathlib.Core.Bool.{true, false}
use mathlib.Core.Logic.{◌⊎◌, inl, inr, ⊎_elim}
use Prim.Native.Nat.{ℕ, ◌+◌, ◌≤◌, ◌<◌}
use native.Mathlib.Nat.{eq-or-lt_of_le, le_of_suc-le-suc}
use native.Mathlib.Decide.{dec_lt}
use native.Mathlib.Numerals.{add-one}
use native.Mathlib.Omega.{arith}
use lib.Dec.{leb}
use borrow.Author.Tests.{le-leb, leb-true}
use Rattle.pool.specs.Decides.{Decides}
use Rattle.pool.proofs.Decides.{decides_yes, decides_no}

pub decides_le : (a b : ℕ) → Decides (leb a b) (a ≤ b)
decides_le a b = record { right = λ e. leb-true a b e; whole = λ h. le-leb a b h }

pub lt_or_le : (a b : ℕ) → (a < b) ⊎ (b ≤ a)
lt_or_le a b = go (dec_lt a b)
  where
    go : Dec (a < b) → (a < b) ⊎ (b ≤ a)
    go (yes h) = inl h
    go (no h) = inr (omega arith)

-- P holds of each number from a up to i
pub record Upto (P : ℕ → Type 0) (a i : ℕ) : Type 0 where
  pub from : a ≤ i
  pub each : (j : ℕ) → a ≤ j → j < i → P j

pub upto_none : {P : ℕ → Type 0} {a : ℕ} → Upto P a a
upto_none = record { from = omega arith; each = λ j g h. absurd (omega arith) }

module _ {P : ℕ → Type 0} {a i : ℕ} (u : Upto P a i) where
  pub upto_more : P i → Upto P a (i + 1)
  upto_more p = record {
    from = omega (arith, u.from);
    each = λ j g h. ⊎_elim (λ (e : j ≡ i). rw e p) (λ (l : j < i). u.each j g l) (eq-or-lt_of_le (le_of_suc-le-suc (rw add-one at h)));
  }

  pub upto_yes : {end : ℕ} → end ≤ i → Decides true ((j : ℕ) → a ≤ j → j < end → P j)
  upto_yes l = decides_yes (λ j g h. u.each j g (omega arith))

  pub upto_no : {end : ℕ} → i < end → (P i → ⊥) → Decides false ((j : ℕ) → a ≤ j → j < end → P j)
  upto_no l n = decides_no (λ f. n (f i u.from l))

-- from 0 on
module _ {P : ℕ → Type 0} {i : ℕ} (u : Upto P 0 i) where
  pub all_yes : {end : ℕ} → end ≤ i → Decides true ((j : ℕ) → j < end → P j)
  all_yes l = decides_yes (λ j h. u.each j (omega arith) (omega arith))

  pub all_no : {end : ℕ} → i < end → (P i → ⊥) → Decides false ((j : ℕ) → j < end → P j)
  all_no l n = decides_no (λ f. n (f i l))
