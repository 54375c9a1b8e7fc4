-- What a test's answer says.
use Rattle.std.specs.Prelude.{◌≡◌, Bool, true}

-- the answer is yes exactly if P holds
pub record Decides (answer : Bool) (P : Type 0) : Type 0 where
  pub right : answer ≡ true → P
  pub whole : P → answer ≡ true
