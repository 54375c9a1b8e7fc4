-- Each slot is looked up before its name is read, and each name is at least one more than the last.
use Rattle.pool.specs.Slots.{entries}
use Rattle.sorted_index.specs.Names.{names}
use Rattle.soundness.proofs.Ordering.{OrderedTo}
use Rattle.soundness.proofs.index.is_ordered.Given as goal

abbrev pub invariant-loop-s : goal.invariant-loop-s
invariant-loop-s l = OrderedTo (names l.by (entries l.slots)) l.order l.marks l.least l.s-index
