-- A space and a number take at most 21 bytes.
use Rattle.std.proofs.Common.{◌+◌, ◌*◌, ◌≤◌}
use Rattle.replay.proofs.line.write_handles.Given as goal

abbrev pub invariant-loop-handle : goal.invariant-loop-handle
invariant-loop-handle g l = l.output.end ≤ l.initial.output.end + 21 * l.handle-index
