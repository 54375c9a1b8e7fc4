-- What holds of each element of a list is kept where an element comes in or goes out: by recursion, element by element.
use mathlib.Core.List.{List, [], ◌∷◌}
use Prim.Native.Nat.{ℕ, zero, suc, ◌<◌, zero-le, suc-le-suc}
use native.Mathlib.Nat.{le_of_suc-le-suc, not-suc-le-zero}
use lib.ListN.{length, get_or, drop}
use Rattle.page.specs.All.{All}
use Rattle.sorted_index.specs.Index.{insert_at, remove_at}

module _ (P : ℕ → Type 0) where
  -- at a place, and from what holds at each place
  pub all_at : (l : List ℕ) → All P l → (k : ℕ) → k < length l → P (get_or l k 0)
  all_at [] a k h = absurd (not-suc-le-zero h)
  all_at (t ∷ l) a zero h = a.0
  all_at (t ∷ l) a (suc k) h = all_at l a.1 k (le_of_suc-le-suc h)

  pub all_of : (l : List ℕ) → ((k : ℕ) → k < length l → P (get_or l k 0)) → All P l
  all_of [] f = tt
  all_of (t ∷ l) f = (f zero (suc-le-suc zero-le), all_of l (λ k h. f (suc k) (suc-le-suc h)))

  pub all_insert : (s : ℕ) (l : List ℕ) (at : ℕ) → All P l → P s → All P (insert_at l at s)
  all_insert s l zero a p = (p, a)
  all_insert s [] (suc at) a p = (p, a)
  all_insert s (t ∷ l) (suc at) a p = (a.0, all_insert s l at a.1 p)

  pub all_remove : (l : List ℕ) (at : ℕ) → All P l → All P (remove_at l at)
  all_remove [] zero a = a
  all_remove (t ∷ l) zero a = a.1
  all_remove [] (suc at) a = a
  all_remove (t ∷ l) (suc at) a = (a.0, all_remove l at a.1)

  pub all_drop : (n : ℕ) (l : List ℕ) → All P l → All P (drop n l)
  all_drop zero l a = a
  all_drop (suc n) [] a = a
  all_drop (suc n) (t ∷ l) a = all_drop n l a.1
