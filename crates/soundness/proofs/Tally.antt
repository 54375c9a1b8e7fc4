-- Each slot is marked as free or not: so the unmarked slots are those that the free ones leave.
use mathlib.Core.Path.{◌≡◌, refl, ap, ◌∙◌}
use mathlib.Core.Bool.{Bool}
use mathlib.Core.List.{List}
use Prim.Native.Nat.{ℕ, zero, suc, ◌+◌, ◌*◌, ◌-◌, ◌/◌, ◌≤◌}
use native.Mathlib.Omega.{arith}
use lib.Dec.{eqb}
use lib.ListN.{length}
use borrow.Author.Tests.{ne_eqb}
use Rattle.pool.specs.Decides.{Decides}
use Rattle.pool.proofs.Decides.{decides_eq, decides_as}
use Rattle.free_marks.specs.Marks.{bit_at, free_below, free_slots}
use Rattle.free_marks.proofs.Counting.{free_next, free_limit}
use Rattle.free_marks.proofs.Marking.{bit_limit}
use Rattle.soundness.specs.Checks.{Beyond, Counted}
use Rattle.soundness.proofs.Counting.{tick, count_below}

-- slot k is not marked as free
abbrev pub unmarked : List ℕ → ℕ → Bool
unmarked marks k = eqb (bit_at marks k) 0

-- a mark is counted, or its slot is
one_of_two : (mark count : ℕ) → mark ≤ 1 → tick (eqb mark 0) count + mark ≡ suc count
one_of_two zero c h = omega arith
one_of_two (suc b) c h = rw (ne_eqb (suc b) 0 (λ z. omega arith)) (omega arith)

tally : (m : List ℕ) (k : ℕ) → count_below k (unmarked m) + free_below m k ≡ k
unfolding count_below free_below
tally m zero = refl
tally m (suc k) = omega (arith, one_of_two (bit_at m k) (count_below k (unmarked m)) (bit_limit m k), tally m k)

module _ {m : List ℕ} {size : ℕ} (beyond : Beyond m size) where
  -- the marks beyond the last slot add nothing
  free_beyond : (d : ℕ) → free_below m (size + d) ≡ free_below m size
  free_beyond zero = let q : size + 0 ≡ size = omega arith in ap (free_below m) q
  free_beyond (suc d) =
      let q : size + suc d ≡ suc (size + d) = omega arith in
      ap (free_below m) q ∙ omega (arith, free_next m (size + d), beyond.clear (size + d) (omega arith), free_beyond d)

  module _ (words : length m ≡ (size + 63) / 64) where
    free_all : free_slots m ≡ free_below m size
    free_all =
        let q : length m * 64 ≡ size + (length m * 64 - size) = omega arith in
        ap (free_below m) q ∙ free_beyond (length m * 64 - size)

    pub free_within : free_slots m ≤ size
    free_within = omega (arith, free_all, free_limit m size)

    -- they leave as many as are held exactly if each slot is free or held
    pub rest_decides : {free held : ℕ} → free ≡ free_slots m → Decides (eqb (size - free) held) (Counted m size held)
    rest_decides {free} {held} e = decides_as (decides_eq (size - free) held)
        (λ q. record { beyond = beyond; count = omega (arith, q, e, free_within) }) (λ p. omega (arith, p.count, e, free_within))

    pub unmarked_rest : count_below size (unmarked m) + free_slots m ≡ size
    unmarked_rest = omega (arith, free_all, tally m size)
