use Rattle.std.proofs.Common.{arith, codes}
use Rattle.text.proofs.Putting.{fits, words_end, with_number, with_long_number, with_text}
use Rattle.btree_format.specs.Rules.{name}
use Rattle.page_check.proofs.Names.{name_short}
use Rattle.page_check.proofs.lines.write_bad.Goals as goal

pub returns : goal.returns
returns g c =
    let line =
    with_number (codes "page ") c.args.number _ _ (omega (arith, c.ranges.number))
    (with_text (codes ": no: ") (name c.args.fault) _ _ _ (name_short c.args.fault)
    (with_long_number (codes ", offset ") c.args.offset _ _ (omega (arith, c.ranges.offset)) (words_end (codes "\n")))) in
    fits (λ o. o.end) _ _ _ _ _ _ (omega arith) c.requires line c.writeln.ensures.writes
