use Rattle.std.proofs.Common.{arith, codes}
use Rattle.text.proofs.Putting.{fits, words_end, with_long_number}
use Rattle.wal_scan.proofs.lines.write_counts.Goals as goal

pub returns : goal.returns
returns g c =
    let line = with_long_number (codes "frames: ") c.args.frames _ _ (omega (arith, c.ranges.frames)) (with_long_number (codes "\ncommits: ") c.args.commits _ _ (omega (arith, c.ranges.commits)) (words_end (codes "\n"))) in
    fits (λ o. o.end) _ _ _ _ _ _ (omega arith) c.requires line c.writeln.ensures.writes
