-- No word that the loop passed has a free slot, so that it can't pass the free slot that there is. The word at which it stops isn't 0,
-- and its trailing zeros say which slot is the lowest.
use Rattle.free_marks.proofs.Searching.{HeldBefore}
use Rattle.free_marks.proofs.marks.lowest_free.Given as goal

abbrev pub invariant-loop-w : goal.invariant-loop-w
invariant-loop-w l = HeldBefore l.marks l.w
