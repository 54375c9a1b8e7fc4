-- The number stays one that a page can have, or 0.
use Rattle.std.proofs.Common.{◌≤◌}
use Rattle.page_check.proofs.asking.page_number.Given as goal

abbrev pub invariant-loop-byte : goal.invariant-loop-byte
invariant-loop-byte l = l.number ≤ 4294967294
