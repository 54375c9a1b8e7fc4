-- Stores one after another: a run of stores goes on where another ended, and from the first place it is the new elements and
-- what is left of the old ones.
use mathlib.Core.Path.{◌≡◌, ap, ◌∙◌}
use mathlib.Core.List.{List, [], ◌∷◌, ◌++◌}
use Prim.Native.Nat.{ℕ, suc, ◌+◌, ◌≤◌}
use native.Mathlib.Nat.{add-zero, zero-add}
use native.Mathlib.Omega.{arith}
use lib.ListN.{length, drop, set}
use lib.Seq.{sets, sets-eq}

module _ {A : Type 0} where
  pub sets_append : (l xs ys : List A) (k : ℕ) → sets l k (xs ++ ys) ≡ sets (sets l k xs) (k + length xs) ys
  sets_append l [] ys k = rw add-zero
  sets_append l (x ∷ xs) ys k =
      let q : suc k + length xs ≡ k + suc (length xs) = omega arith in
      sets_append (set l k x) xs ys (suc k) ∙ ap (λ (n : ℕ). sets (sets l k (x ∷ xs)) n ys) q

  pub sets_first : (l xs : List A) → length xs ≤ length l → sets l 0 xs ≡ xs ++ drop (length xs) l
  sets_first l xs fits = rw (zero-add (length xs)) at (sets-eq xs l 0 (omega arith))
