-- What the walk along a chain requires.
use Rattle.std.specs.Prelude.{List, ℕ, ◌+◌, ◌≤◌, length}

-- a link that stands in the page's usable part
pub record Linked (b : List ℕ) (end link : ℕ) : Type 0 where
  pub whole : end ≤ length b
  pub room : 4 ≤ end
  pub within : link + 2 ≤ end
