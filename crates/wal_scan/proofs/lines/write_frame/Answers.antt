use Rattle.std.proofs.Common.{arith, codes}
use Rattle.text.proofs.Putting.{fits, words_end, with_number, with_long_number}
use Rattle.wal_scan.proofs.lines.write_frame.Goals as goal

pub returns : goal.returns
returns g c =
    let line = with_long_number (codes "frame ") c.args.number _ _ (omega (arith, c.ranges.number)) (with_number (codes ": page ") c.args.page _ _ (omega (arith, c.ranges.page)) (with_number (codes ", commit size ") c.args.commit _ _ (omega (arith, c.ranges.commit)) (words_end (codes " pages\n")))) in
    fits (λ o. o.end) _ _ _ _ _ _ (omega arith) c.requires line c.writeln.ensures.writes
