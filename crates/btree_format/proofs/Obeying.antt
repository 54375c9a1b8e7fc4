-- One rule more that holds, after those before it.
use mathlib.Core.List.{List, [], ◌∷◌}
use Prim.Native.Nat.{ℕ, zero, suc, ◌<◌}
use native.Mathlib.Omega.{arith}
use lib.ListN.{length, get_or, take}
use Rattle.btree_format.specs.Fields.{Page}
use Rattle.btree_format.specs.Rules.{All, same_length, rules, RuleHolds, Obeys}

pub all_next : {Rule : Type 0} (RuleHolds : Rule → Type 0) (other : Rule) (rules : List Rule) (n : ℕ) → n < length rules
    → All RuleHolds (take n rules) → RuleHolds (get_or rules n other) → All RuleHolds (take (suc n) rules)
all_next RuleHolds other [] n below so_far next = absurd (omega arith)
all_next RuleHolds other (rule ∷ rest) zero below so_far next = (next, tt)
all_next RuleHolds other (rule ∷ rest) (suc n) below so_far next = (so_far.0, all_next RuleHolds other rest n (omega arith) so_far.1 next)

pub obeys_next : (p : Page) (n : ℕ) → n < 10 → Obeys p (take n rules) → RuleHolds p (get_or rules n same_length) → Obeys p (take (suc n) rules)
obeys_next p n below so_far next = all_next (RuleHolds p) same_length rules n below so_far next
