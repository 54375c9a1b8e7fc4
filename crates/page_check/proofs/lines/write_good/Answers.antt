use Rattle.std.proofs.Common.{arith, codes}
use Rattle.text.proofs.Putting.{fits, words_end, with_number}
use Rattle.page_check.proofs.lines.write_good.Goals as goal

pub returns : goal.returns
returns g c =
    let line = with_number (codes "page ") c.args.number _ _ (omega (arith, c.ranges.number)) (words_end (codes ": yes\n")) in
    fits (λ o. o.end) _ _ _ _ _ _ (omega arith) c.requires line c.writeln.ensures.writes
