-- What the tests of a page's fields may rely on.
use Rattle.std.specs.Prelude.{List, ℕ, ◌-◌, ◌≤◌, length, take}
use Rattle.btree_format.specs.Fields.{Page, page}
use Rattle.btree_format.specs.Rules.{rules, Obeys}

-- the page whose size is the image's length
abbrev pub whole : List ℕ → (number reserved : ℕ) → Page
whole b number reserved = page b number (length b) reserved

-- the rules of the sizes and of the first bytes hold; so there are at least these many bytes to read
pub record Begun (b : List ℕ) (number reserved : ℕ) : Type 0 where
  pub obeys : Obeys (whole b number reserved) (take 4 rules)
  pub long : 512 ≤ length b
  pub usable : 480 ≤ length b - reserved
