use Rattle.std.proofs.Common.{arith, codes}
use Rattle.text.proofs.Putting.{fits, words_end, with_number, with_long_number}
use Rattle.wal_scan.proofs.lines.write_end.Goals as goal

pub returns : goal.returns
returns g c =
    let line = with_long_number (codes "end offset: ") c.args.end _ _ (omega (arith, c.ranges.end)) (with_number (codes " bytes\nend sums: ") c.args.s0 _ _ (omega (arith, c.ranges.s0)) (with_number (codes " ") c.args.s1 _ _ (omega (arith, c.ranges.s1)) (words_end (codes "\n")))) in
    fits (λ o. o.end) _ _ _ _ _ _ (omega arith) c.requires line c.writeln.ensures.writes
