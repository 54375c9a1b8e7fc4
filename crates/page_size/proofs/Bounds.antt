-- Of the eight sizes 512 is the smallest and 65,536 the largest.
use mathlib.Core.Path.{◌≡◌}
use mathlib.Core.Bool.{true}
use Prim.Native.Nat.{ℕ, ◌≤◌}
use native.Mathlib.Omega.{arith}
use Rattle.std.proofs.lemmas.Grind.{common_steps}
use Rattle.page_size.specs.PageSize.{is_page_size}

pub smallest : (n : ℕ) → is_page_size n ≡ true → 512 ≤ n
smallest n is = grind (arith, common_steps)

pub largest : (n : ℕ) → is_page_size n ≡ true → n ≤ 65536
largest n is = grind (arith, common_steps)
