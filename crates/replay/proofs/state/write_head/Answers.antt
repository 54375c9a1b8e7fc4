use Rattle.std.proofs.Common.{arith, codes}
use Rattle.text.proofs.Putting.{fits, number_end, with_number}
use Rattle.replay.proofs.state.write_head.Goals as goal

pub returns : goal.returns
returns g c =
    let line = with_number (codes "- ") c.args.capacity _ _ (omega (arith, c.ranges.capacity)) (with_number (codes " ") c.args.spill _ _ (omega (arith, c.ranges.spill)) (with_number (codes " ") c.args.estimate _ _ (omega (arith, c.ranges.estimate)) (number_end (codes " ") c.args.held (omega (arith, c.ranges.held))))) in
    fits (λ o. o.end) _ _ _ _ _ _ (omega arith) c.requires line c.write.ensures.writes
