-- The count is asked only if nothing stands beyond the last slot, and then no more slots are free than there are.
use Rattle.std.proofs.Common.{refl}
use Rattle.pool.proofs.Decides.{passes}
use Rattle.soundness.proofs.Tally.{free_within, rest_decides}
use Rattle.soundness.proofs.marks.marks_agree.Goals as goal

pub overflow_sub-result : goal.overflow_sub-result
overflow_sub-result c = rw c.count_free.ensures (free_within (passes c.if-not-clear_beyond.ensures refl) c.requires.words)

pub returns : goal.returns
returns c = rest_decides (passes c.if-not-clear_beyond.ensures refl) c.requires.words c.count_free.ensures
