-- The output has room for the summary. The counts stay below the offset, so that one frame more can be counted; each frame brings the end of the longest file nearer.
use Rattle.std.proofs.Common.{◌≡◌, ◌-◌, ◌≤◌}
use Rattle.wal_scan.proofs.scanning.scan.Given as goal

abbrev pub invariant-loop-summary : goal.invariant-loop-summary
invariant-loop-summary g l = record {
  own : l.summary.header ≡ l.log.header;
  room : l.output.end ≤ 110000;
  few : l.summary.frames ≤ l.summary.end;
  fewer : l.summary.commits ≤ l.summary.frames;
}

abbrev pub decreases-loop-summary : goal.decreases-loop-summary
decreases-loop-summary g l = 9223372036854775807 - l.summary.end
