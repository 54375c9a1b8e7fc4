-- The blocks of a chain that has no bad one don't overlap, so that their sizes add up to no more than there is room for.
use mathlib.Core.List.{List}
use Prim.Native.Nat.{ℕ, ◌+◌, ◌-◌, ◌≤◌}
use native.Mathlib.Omega.{arith}
use Rattle.btree_format.specs.Fields.{half, size_at}
use Rattle.btree_format.specs.Rules.{Chain, ends, goes_on}
use Rattle.std.specs.Prelude.{None}

-- 'the total size of all freeblocks'
pub total_size : {b : List ℕ} {end link least : ℕ} → Chain b end link least None → ℕ
total_size (ends none) = 0
total_size {b} {end} {link} {least} (goes_on some placed sized rest) = half b (size_at (half b link)) + total_size rest

pub total_fits : {b : List ℕ} {end link least : ℕ} (chain : Chain b end link least None) → total_size chain ≤ end - least
unfolding total_size
total_fits (ends none) = omega arith
total_fits (goes_on some placed sized rest) = omega (arith, total_fits rest, placed.after, sized.within)
