-- A page takes at most 84 bytes.
use Rattle.std.proofs.Common.{◌+◌, ◌*◌, ◌≤◌}
use Rattle.replay.proofs.state.write_pages.Given as goal

abbrev pub invariant-loop-page : goal.invariant-loop-page
invariant-loop-page g l = l.output.end ≤ l.initial.output.end + 84 * l.page-index
