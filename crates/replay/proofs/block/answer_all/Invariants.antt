-- The output has room for the lines of one record more after each.
use Rattle.std.proofs.Common.{◌≤◌}
use Rattle.replay.proofs.block.answer_all.Given as goal

abbrev pub invariant-loop-record : goal.invariant-loop-record
invariant-loop-record g l = l.output.end ≤ 128000
