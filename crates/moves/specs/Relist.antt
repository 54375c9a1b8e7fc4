-- A seat of an index gets another name.
use Rattle.std.specs.Prelude.{◌≡◌, List, ◌∷◌, ◌++◌, ℕ, length, get_or, set}
use Rattle.ring_links.specs.Ring.{Apart}
use Rattle.sorted_index.specs.Listed.{Listed, Absent}

-- the order lists n seats, of which s has the name `old`, and no other has the name `new`
pub record Relistable (col order : List ℕ) (n s old new : ℕ) (before after : List ℕ) : Type 0 where
  pub listed : Listed col order (before ++ s ∷ after)
  pub apart : Apart (before ++ s ∷ after)
  pub long : length (before ++ s ∷ after) ≡ n
  pub named : get_or col s 0 ≡ old
  pub free : Absent col (before ++ after) new

-- it does so for some seats
pub record CanRelist (col order : List ℕ) (n s old new : ℕ) : Type 0 where
  pub before : List ℕ
  pub after : List ℕ
  pub relistable : Relistable col order n s old new before after

-- whatever these seats are: the order now lists them, and s has the name `new`
abbrev pub Relisted : (col order : List ℕ) (n s old new : ℕ) (order' : List ℕ) → Type 0
Relisted col order n s old new order' =
    (before after : List ℕ) → Relistable col order n s old new before after → Listed (set col s new) order' (before ++ s ∷ after)
