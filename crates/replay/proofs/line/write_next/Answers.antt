use Rattle.std.proofs.Common.{arith, codes}
use Rattle.text.proofs.Putting.{fits, number_end}
use Rattle.replay.proofs.line.write_next.Goals as goal

pub returns : goal.returns
returns g c =
    let line = number_end (codes " ") c.args.number (omega (arith, c.ranges.number)) in
    fits (λ o. o.end) _ _ _ _ _ _ (omega arith) c.requires line c.write.ensures.writes
