use Rattle.std.proofs.Common.{arith, codes}
use Rattle.text.proofs.Putting.{fits, words_end, with_number, with_long_number}
use Rattle.wal_scan.proofs.lines.write_commit.Goals as goal

pub returns : goal.returns
returns g c =
    let line = with_long_number (codes "last commit: frame ") c.args.frame _ _ (omega (arith, c.ranges.frame)) (with_number (codes ", ") c.args.pages _ _ (omega (arith, c.ranges.pages)) (words_end (codes " pages\n"))) in
    fits (λ o. o.end) _ _ _ _ _ _ (omega arith) c.requires line c.writeln.ensures.writes
