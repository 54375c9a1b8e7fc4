-- What follows from the definitions alone: 01's examples of the threshold.
use mathlib.Core.List.{[], ◌∷◌, map}
use mathlib.Core.Path.{◌≡◌, refl}
use Rattle.page.specs.Cache.{threshold}

-- 0, 1 and 2 give 1; 10 gives 9; 4,096 gives 3,686
pub threshold_examples : map threshold (0 ∷ 1 ∷ 2 ∷ 10 ∷ 4096 ∷ []) ≡ 1 ∷ 1 ∷ 1 ∷ 9 ∷ 3686 ∷ []
threshold_examples = refl
