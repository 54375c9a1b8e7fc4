-- There are pages of which a check says yes: the root page of a table that has no rows.
use mathlib.Core.Path.{refl}
use mathlib.Core.List.{List, ◌∷◌}
use Prim.Native.Nat.{ℕ}
use native.Mathlib.Omega.{arith}
use lib.ListN.{replicate}
use Rattle.btree_format.specs.Fields.{page, half, start_at}
use Rattle.btree_format.specs.Rules.{ends, Says}
use Rattle.std.specs.Prelude.{Ok}

-- type 13, no freeblock, no cell, content from 512 on, no fragment
pub empty : List ℕ
empty = 13 ∷ 0 ∷ 0 ∷ 0 ∷ 0 ∷ 2 ∷ 0 ∷ 0 ∷ replicate 504 0

pub empty_page : Says (page empty 2 512 0) (Ok tt)
unfolding empty half start_at
empty_page = (
  refl,
  (
    refl,
    (
      omega arith,
      (
        (λ one. absurd (omega arith)),
        (
          refl,
          (
            ends refl,
            (
              omega arith,
              (
                omega arith,
                (
                  omega arith,
                  ((λ i below. absurd (omega arith)), tt),
                ),
              ),
            ),
          ),
        ),
      ),
    ),
  ),
)
