-- After each word the ones so far are the free slots so far.
use Rattle.free_marks.proofs.Counting.{CountedBefore}
use Rattle.free_marks.proofs.marks.count_free.Given as goal

abbrev pub invariant-loop-word : goal.invariant-loop-word
invariant-loop-word l = CountedBefore l.marks l.free l.word-index
