-- What was counted, with the frames still to come, is the whole, and none is still to come where the scan stops (proofs/Turns.antt).
use Rattle.wal_frames.proofs.Turns.{reading_none, reading_more, reading_done, further}
use Rattle.wal_frames.proofs.scanning.scan_frames.Goals as goal

pub loop-frame-init : goal.loop-frame-init
loop-frame-init c = reading_none c.start-s.ensures c.requires

pub loop-frame-smaller : goal.loop-frame-smaller
loop-frame-smaller c = further c.loop-frame.invariant c.in-Some.ensures c.add_frame-s.ensures

pub loop-frame-preserved : goal.loop-frame-preserved
loop-frame-preserved c = reading_more c.loop-frame.invariant c.in-Some.ensures c.add_frame-s.ensures

pub returns : goal.returns
returns c = reading_done c.loop-frame.invariant c.in_default.ensures
