-- After each word the ones so far are the free slots so far.
use native.Mathlib.Omega.{arith}
use Rattle.free_marks.proofs.Counting.{counted_none, counted_more, counted_limit}
use Rattle.free_marks.proofs.marks.count_free.Goals as goal

pub loop-word-init : goal.loop-word-init
loop-word-init c = counted_none

pub overflow_add-free : goal.overflow_add-free
overflow_add-free c = omega (arith, counted_limit (counted_more c.loop-word.invariant c.loop-word-test.true (c.type_inv.marks c.loop-word.word-index).fits) c.requires)

pub loop-word-preserved : goal.loop-word-preserved
loop-word-preserved c = counted_more c.loop-word.invariant c.loop-word-test.true (c.type_inv.marks c.loop-word.word-index).fits
