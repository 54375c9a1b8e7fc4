-- Each turn looks at the page of one place: it is passed, deleted, or refused, and then the call ends.
use Prim.Native.Nat.{◌-◌}
use Rattle.memory.specs.Memory.{memory_in, SameSlices}
use Rattle.truncation.proofs.Progress.{Progress}
use Rattle.truncation.proofs.deletions.delete_chosen.Given as goal

abbrev pub invariant-loop-i : goal.invariant-loop-i
invariant-loop-i g l =
    Progress (goal.F-post g l.is_chosen) l.from (memory_in l.fn.memory) l.fn.head l.fn.list (memory_in l.memory) l.left l.list l.count l.i
    × SameSlices l.fn.memory l.memory

abbrev pub decreases-loop-i : goal.decreases-loop-i
decreases-loop-i g l = l.left.held - l.i
