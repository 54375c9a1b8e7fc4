-- The output has room for the totals. Fewer pages were checked than the next one's number says.
use Rattle.std.proofs.Common.{◌+◌, ◌<◌, ◌≤◌}
use Rattle.page_check.proofs.listing.check_pages.Given as goal

abbrev pub invariant-loop-number : goal.invariant-loop-number
invariant-loop-number g l = (l.output.end ≤ 110000) × (l.totals.yes + l.totals.no < l.number)
