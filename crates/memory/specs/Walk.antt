-- A walk over the keys, as a loop over the index by key makes it.
use Rattle.std.specs.Prelude.{List, ℕ, take}
use Rattle.pool.specs.Slots.{entries}
use Rattle.model.specs.Row.{Row}
use Rattle.memory.specs.Holds.{row_of}

-- the entries of the first n slots of the index, by ascending key
abbrev pub walk : (slots by_key : List ℕ) → ℕ → Row
walk slots by_key n = row_of (entries slots) (take n by_key)
