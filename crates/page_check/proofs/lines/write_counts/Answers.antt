use Rattle.std.proofs.Common.{arith, codes}
use Rattle.text.proofs.Putting.{fits, words_end, with_number}
use Rattle.page_check.proofs.lines.write_counts.Goals as goal

pub returns : goal.returns
returns g c =
    let line = with_number (codes "pages: ") c.args.pages _ _ (omega (arith, c.ranges.pages)) (with_number (codes "\nyes: ") c.args.yes _ _ (omega (arith, c.ranges.yes)) (with_number (codes "\nno: ") c.args.no _ _ (omega (arith, c.ranges.no)) (words_end (codes "\n")))) in
    fits (λ o. o.end) _ _ _ _ _ _ (omega arith) c.requires line c.writeln.ensures.writes
