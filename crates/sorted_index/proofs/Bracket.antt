-- A binary search: all names before `lo` are below x and all from `hi` on are not, so where the two meet x stands, or would
-- go.
use mathlib.Core.Path.{◌≡◌}
use mathlib.Core.Logic.{⊎_elim}
use mathlib.Core.List.{List}
use Prim.Native.Nat.{ℕ, ◌+◌, ◌≤◌, ◌<◌}
use native.Mathlib.Nat.{eq-or-lt_of_le}
use native.Mathlib.Omega.{arith}
use Rattle.sorted_index.specs.Index.{name_at, Miss}
use Rattle.sorted_index.proofs.Ascending.{Ascending, upto}

-- the place of x is from lo up to hi
pub record Bracket (col order : List ℕ) (n x lo hi : ℕ) : Type 0 where
  pub ends : lo ≤ hi
  pub within : hi ≤ n
  pub below : (k : ℕ) → k < lo → name_at col order k < x
  pub above : (k : ℕ) → hi ≤ k → k < n → x ≤ name_at col order k

module _ {col order : List ℕ} {n x lo hi : ℕ} (a : Ascending col order n) (b : Bracket col order n x lo hi) where
  -- the name at place m is below x
  pub bracket_up : (m : ℕ) → m < hi → name_at col order m < x → Bracket col order n x (m + 1) hi
  bracket_up m h l = record {
    ends = omega arith;
    within = b.within;
    below = λ k q. omega (arith, upto a k m (omega arith) (omega arith));
    above = b.above;
  }

  -- the name at place m is not below x
  pub bracket_down : (m : ℕ) → lo ≤ m → m < hi → x ≤ name_at col order m → Bracket col order n x lo m
  bracket_down m g h l = record {
    ends = g;
    within = omega arith;
    below = b.below;
    above = λ k p q. omega (arith, upto a m k p q);
  }

  -- the ends have met, and x is not there
  pub bracket_miss : hi ≤ lo → (lo < n → name_at col order lo ≡ x → ⊥) → Miss col order n x lo
  bracket_miss met other = record {
    within = omega arith;
    below = b.below;
    above = λ k p q. ⊎_elim (λ e. here k e q) (λ h. omega (arith, b.above lo met (omega arith), a.up lo k h q)) (eq-or-lt_of_le p);
  }
    where
      here : (k : ℕ) → lo ≡ k → k < n → x < name_at col order k
      here k e q = rw (← e) (omega (arith, other (omega arith), b.above lo met (omega arith)))
