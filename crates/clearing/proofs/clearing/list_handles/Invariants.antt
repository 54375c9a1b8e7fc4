-- The list has the handles of the pages that the walk has passed.
use Rattle.clearing.proofs.Handles.{Listing}
use Rattle.clearing.proofs.clearing.list_handles.Given as goal

abbrev pub invariant-loop-i : goal.invariant-loop-i
invariant-loop-i l = Listing l.memory.slots.now l.memory.by_key.now l.fn.list l.n l.list l.i
