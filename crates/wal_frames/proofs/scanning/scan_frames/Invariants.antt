-- Each turn counts one valid frame more (proofs/Turns.antt), and the end of what was read moves on.
use Rattle.std.proofs.Common.{length, ◌-◌}
use Rattle.wal_frames.proofs.Turns.{Reading}
use Rattle.wal_frames.proofs.scanning.scan_frames.Given as goal

abbrev pub invariant-loop-frame : goal.invariant-loop-frame
invariant-loop-frame l = Reading l.fn.header l.log l.s

abbrev pub decreases-loop-frame : goal.decreases-loop-frame
decreases-loop-frame l = length l.log - l.s.end
