-- Each turn of the walk passes one good block, so that the answer for the rest of the chain is the answer for the whole.
use mathlib.Core.Path.{◌≡◌, sym, subst, ◌∙◌}
use mathlib.Core.List.{List}
use Prim.Native.Nat.{ℕ, ◌+◌}
use native.Mathlib.Omega.{arith}
use Rattle.btree_format.specs.Fields.{half, size_at}
use Rattle.btree_format.specs.Rules.{Chain, ends, bad_link, bad_size, goes_on, Placed, Sized}
use Rattle.std.specs.Prelude.{Option, None, Some}
use Rattle.freeblocks.specs.Chained.{Linked}

-- the walk along the chain from `link` on has reached the link at `at`, and the blocks so far end at `free`
pub record Walked (b : List ℕ) (end link least at free : ℕ) : Type 0 where
  pub linked : Linked b end at
  pub rest : (place : Option ℕ) → Chain b end at free place → Chain b end link least place

module _ {b : List ℕ} {end link least at free : ℕ} (w : Walked b end link least at free) {block : ℕ} (read : block ≡ half b at) where
  pub walk_ends : block ≡ 0 → Chain b end link least None
  walk_ends none = w.rest None (ends (sym read ∙ none))

  module _ (some : block ≡ 0 → ⊥) where
    another : half b at ≡ 0 → ⊥
    another none = some (read ∙ none)

    pub walk_strays : (Placed end free block → ⊥) → Chain b end link least (Some at)
    walk_strays stray = w.rest (Some at) (bad_link another (rw read at stray))

    module _ (placed : Placed end free block) {size : ℕ} (stored : size ≡ half b (size_at block)) where
      own_size : size ≡ half b (size_at (half b at))
      own_size = rw read at stored

      pub walk_missized : (Sized end block size → ⊥) → Chain b end link least (Some (size_at block))
      walk_missized bad =
          subst (λ (x : ℕ). Chain b end link least (Some (size_at x))) (sym read)
          (w.rest _ (bad_size another (rw read at placed) (rw (own_size, read) at bad)))

      module _ (sized : Sized end block size) where
        pub walk_goes_on : Walked b end link least block (block + size)
        walk_goes_on = record {
          linked = record { whole = w.linked.whole; room = w.linked.room; within = omega (arith, placed.room) };
          rest = λ place chain. w.rest place
              (goes_on another (rw read at placed) (rw (own_size, read) at sized) (rw (own_size, read) at chain));
        }
