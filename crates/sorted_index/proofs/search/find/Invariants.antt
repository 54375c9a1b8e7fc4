-- A binary search: each turn halves the bracket round the place of x, and where its ends meet, one look decides.
use Prim.Native.Nat.{◌-◌}
use Rattle.pool.specs.Slots.{entries}
use Rattle.sorted_index.specs.Names.{names}
use Rattle.sorted_index.proofs.Bracket.{Bracket}
use Rattle.sorted_index.proofs.search.find.Given as goal

abbrev pub invariant-loop-lo : goal.invariant-loop-lo
invariant-loop-lo l = Bracket (names l.by (entries l.slots)) l.order l.n l.x l.lo l.hi

abbrev pub decreases-loop-lo : goal.decreases-loop-lo
decreases-loop-lo l = l.hi - l.lo
