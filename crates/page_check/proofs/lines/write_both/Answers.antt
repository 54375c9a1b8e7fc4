use Rattle.std.proofs.Common.{arith, codes}
use Rattle.text.proofs.Putting.{fits, words_end, with_number}
use Rattle.page_check.proofs.lines.write_both.Goals as goal

pub returns : goal.returns
returns g c =
    let line = with_number (codes "page size: ") c.args.page_size _ _ (omega (arith, c.ranges.page_size)) (with_number (codes " bytes\nreserved: ") c.args.reserved _ _ (omega (arith, c.ranges.reserved)) (words_end (codes " bytes\n"))) in
    fits (λ o. o.end) _ _ _ _ _ _ (omega arith) c.requires line c.writeln.ensures.writes
