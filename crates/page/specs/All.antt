-- What holds of each element of a list, be it a list of entries or of slots.
use Rattle.std.specs.Prelude.{List, [], ◌∷◌}

-- P holds of each element
abbrev pub All : {A : Type 0} → (A → Type 0) → List A → Type 0
All P [] = Unit {0}
All P (x ∷ xs) = P x × All P xs
