-- Each read that goes on brings a byte or more, and none goes past the piece.
use Rattle.std.proofs.Common.{length, ◌-◌, ◌≤◌}
use Rattle.input.proofs.reading.fill.Given as goal

abbrev pub invariant-loop-count : goal.invariant-loop-count
invariant-loop-count g l = l.count ≤ length l.piece

abbrev pub decreases-loop-count : goal.decreases-loop-count
decreases-loop-count g l = length l.piece - l.count
