-- A pass over an index carries the least name that may come next: one more than the last.
use mathlib.Core.Path.{◌≡◌, refl, sym}
use mathlib.Core.Bool.{Bool, true, false}
use mathlib.Core.Logic.{⊎_elim}
use mathlib.Core.List.{List}
use Prim.Native.Nat.{ℕ, zero, suc, ◌+◌, ◌-◌, ◌≤◌, ◌<◌}
use native.Mathlib.Nat.{eq-or-lt_of_le, le_of_suc-le-suc}
use native.Mathlib.Numerals.{add-one}
use native.Mathlib.Omega.{arith}
use lib.ListN.{length, get_or, drop, length-drop}
use Rattle.std.proofs.lemmas.List.{get_or-drop}
use Rattle.free_marks.specs.Marks.{bit_at}
use Rattle.pool.specs.Decides.{Decides}
use Rattle.pool.proofs.Decides.{decides_yes, decides_no, decides_as}
use Rattle.sorted_index.specs.Index.{name_at}
use Rattle.soundness.specs.Checks.{Taken, Ordered, Clear, IndexGood}
use Rattle.free_marks.proofs.Marking.{bit_limit}
use Rattle.soundness.proofs.Bits.{free_marked, held_unmarked}

-- the first i places are in order, and the next name is to be `least` or more
pub record OrderedTo (col order m : List ℕ) (least i : ℕ) : Type 0 where
  pub taken : (j : ℕ) → j < i → Taken m (length order) (get_or order j 0)
  pub up : (j : ℕ) → j + 1 < i → name_at col order j < name_at col order (j + 1)
  pub none : i ≡ 0 → least ≡ 0
  pub last : (j : ℕ) → j + 1 ≡ i → least ≡ name_at col order j + 1

pub ordered_none : {col order m : List ℕ} → OrderedTo col order m 0 0
ordered_none = record { taken = λ j h. absurd (omega arith); up = λ j h. absurd (omega arith); none = λ _. refl; last = λ j e. absurd (omega arith) }

module _ {col order m : List ℕ} {least i : ℕ} (t : OrderedTo col order m least i) where
  pub ordered_yes : {n : ℕ} → n ≤ i → Decides true (Ordered col order m n)
  ordered_yes l = decides_yes record { taken = λ j h. t.taken j (omega arith); up = λ j h. t.up j (omega arith) }

  module _ {n : ℕ} (l : i < n) where
    -- what stands at place i is no slot of the pool
    pub ordered_wild : length order ≤ get_or order i 0 → Decides false (Ordered col order m n)
    ordered_wild h = decides_no (λ g. omega (arith, (g.taken i l).inside))

    module _ {free : Bool} (f : Decides free (bit_at m (get_or order i 0) ≡ 1)) where
      -- or a free one
      pub ordered_free : free ≡ true → Decides false (Ordered col order m n)
      ordered_free e = decides_no (λ g. free_marked f e (g.taken i l).held)

      module _ {x : ℕ} (q : x ≡ name_at col order i) where
        -- or its name is not above the last
        pub ordered_low : x < least → Decides false (Ordered col order m n)
        ordered_low h = decides_no (λ g. go i refl g)
          where
            go : (k : ℕ) → k ≡ i → Ordered col order m n → ⊥
            go zero e g = omega (arith, t.none (sym e))
            go (suc k) e g = let z : k + 1 ≡ i = omega arith in omega (arith, t.last k z, rw z at (g.up k (omega arith)))

        pub ordered_more : free ≡ false → get_or order i 0 < length order → least ≤ x → OrderedTo col order m (x + 1) (i + 1)
        ordered_more e inside h = record {
          taken = λ j u. ⊎_elim (λ (e : j ≡ i). rw e here) (λ (k : j < i). t.taken j k) (eq-or-lt_of_le (le_of_suc-le-suc (rw add-one at u)));
          up = λ j u. ⊎_elim (λ (e : j + 1 ≡ i). rw e (omega (arith, t.last j e))) (λ (k : j + 1 < i). t.up j k) (eq-or-lt_of_le (le_of_suc-le-suc (rw (add-one i) at u)));
          none = λ e. absurd (omega arith);
          last = λ j e. let z : j ≡ i = omega arith in rw (z, q);
        }
          where
            here : Taken m (length order) (get_or order i 0)
            here = record { inside = inside; held = held_unmarked f (bit_limit m (get_or order i 0)) e }

-- an index is in order, and the places behind it are zero: the test of these says whether it is good
pub index_decides : {col order m : List ℕ} {n : ℕ} {clear : Bool} → n ≤ length order → Ordered col order m n → Decides clear (Clear (drop n order) 0)
    → Decides clear (IndexGood col order m n)
index_decides {order = order} {n = n} fits ordered d = decides_as d
    (λ zero. record { ordered = ordered; clear = λ i g h. rw (← (here i g)) (zero (i - n) (omega arith) (rw length-drop (omega arith))) })
    (λ good. λ k _ h. rw get_or-drop (good.clear (n + k) (omega arith) (omega (arith, rw length-drop at h))))
  where
    here : (i : ℕ) → n ≤ i → get_or (drop n order) (i - n) 0 ≡ get_or order i 0
    here i g = let same : n + (i - n) ≡ i = omega arith in rw (get_or-drop, same)
