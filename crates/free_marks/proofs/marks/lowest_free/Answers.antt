-- No word that the loop passed has a free slot, so that it can't pass the free slot that there is. The word at which it stops isn't 0,
-- and its trailing zeros say which slot is the lowest.
use Rattle.free_marks.proofs.Digits.{trailing}
use Rattle.free_marks.proofs.Searching.{before_found}
use Rattle.free_marks.proofs.marks.lowest_free.Goals as goal

pub returns-then-not-all_held : goal.returns-then-not-all_held
returns-then-not-all_held c = before_found c.loop-w.invariant (trailing 64 _ (c.type_inv.marks c.loop-w.w).fits c.if-not-all_held.true)
