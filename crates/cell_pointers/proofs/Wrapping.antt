-- One comparison of a wrapped difference tests both bounds: for a pointer before the start it wraps to more than any room.
use Rattle.std.proofs.Common.{◌≡◌, ℕ, ◌+◌, ◌-◌, ◌%◌, ◌^◌, ◌<◌, ◌≤◌, arith}
use Rattle.btree_format.specs.Rules.{Inside}

module _ {difference start end pointer p : ℕ} (wraps : (difference + start) % 2 ^ 64 ≡ pointer) (is : pointer ≡ p) where
  pub wraps_inside : end < 2 ^ 64 → difference < end - start → Inside start end p
  wraps_inside short less = record { from = omega arith; below = omega arith }

  pub wraps_outside : start ≤ end → difference < 2 ^ 64 → end - start ≤ difference → Inside start end p → ⊥
  wraps_outside ordered fits more inside = omega (arith, inside.from, inside.below)
