-- A search looks at one thing after another, until one is not fine or all have been looked at.
use mathlib.Core.Path.{◌≡◌, subst}
use Prim.Native.Nat.{ℕ, ◌+◌, ◌≤◌, ◌<◌}
use native.Mathlib.Omega.{arith}
use native.Mathlib.Decide.{dec_lt}
use Rattle.btree_format.specs.Rules.{Finds}
use Rattle.std.specs.Prelude.{Option, None, Some, MatchOption}

-- the first i of `many` have been looked at, and are fine
pub record Looked (Fine : ℕ → Type 0) (many i : ℕ) : Type 0 where
  pub within : i ≤ many
  pub fine : (j : ℕ) → j < i → Fine j

pub look_begins : {Fine : ℕ → Type 0} {many : ℕ} → Looked Fine many 0
look_begins = record { within = omega arith; fine = λ j below. absurd (omega arith) }

module _ {Fine : ℕ → Type 0} {many i : ℕ} (looked : Looked Fine many i) where
  pub look_finds : i < many → (Fine i → ⊥) → Finds Fine many (Some i)
  look_finds below bad = record { below = below; bad = bad; before = looked.fine }

  pub look_on : i < many → Fine i → Looked Fine many (i + 1)
  look_on below good = record { within = omega arith; fine = λ j less. go j less (dec_lt j i) }
    where
      go : (j : ℕ) → j < i + 1 → Dec (j < i) → Fine j
      go j less (yes earlier) = looked.fine j earlier
      go j less (no last) =
          let same : i ≡ j = omega arith in
          subst Fine same good

  pub look_done : many ≤ i → Finds Fine many None
  look_done all = λ j below. looked.fine j (omega arith)

-- the same in the words of `find`
pub finds_from : (Fine : ℕ → Type 0) (many : ℕ) (found : Option ℕ)
    → MatchOption found ((i : ℕ) → i < many → Fine i) (λ i. (i < many) × (Fine i → ⊥) × ((j : ℕ) → j < i → Fine j))
    → Finds Fine many found
finds_from Fine many None all = all
finds_from Fine many (Some i) first = record { below = first.0; bad = first.1; before = first.2 }
