-- Each turn stores the two numbers of one frame (proofs/Filling.antt).
use Rattle.std.proofs.Common.{arith}
use Rattle.wal.proofs.Reach.{reach_within}
use Rattle.wal.proofs.Filling.{filling_starts, filling_more}
use Rattle.wal.proofs.list.list_frames.Goals as goal

pub loop-i-init : goal.loop-i-init
loop-i-init c = filling_starts (reach_within _ _ _ c.if-not-reaches.ensures) c.length-length.ensures

pub loop-i-preserved : goal.loop-i-preserved
loop-i-preserved c = filling_more c.loop-i.invariant (omega arith) (omega arith) c.number_at.ensures c.number_at-in-loop-i.ensures
