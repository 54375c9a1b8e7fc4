use Rattle.std.proofs.Common.{arith, codes}
use Rattle.text.proofs.Putting.{fits, number_end, with_number, with_long_number}
use Rattle.replay.proofs.line.write_numbers.Goals as goal

pub returns : goal.returns
returns g c =
    let line = with_number (codes "") c.args.code _ _ (omega (arith, c.ranges.code)) (with_number (codes " ") c.args.value _ _ (omega (arith, c.ranges.value)) (with_long_number (codes " ") c.args.passed _ _ (omega (arith, c.ranges.passed)) (number_end (codes " ") c.args.held (omega (arith, c.ranges.held))))) in
    fits (λ o. o.end) _ _ _ _ _ _ (omega arith) c.requires line c.write.ensures.writes
