use Rattle.std.proofs.Common.{arith, codes}
use Rattle.text.proofs.Putting.{fits, words_end, with_number}
use Rattle.wal_scan.proofs.lines.write_page_size.Goals as goal

pub returns : goal.returns
returns g c =
    fits (λ o. o.end) _ _ _ _ _ _ (omega arith) c.requires (with_number (codes "page size: ") _ _ _ (omega (arith, c.ranges.size)) (words_end (codes " bytes\n"))) c.writeln.ensures.writes
