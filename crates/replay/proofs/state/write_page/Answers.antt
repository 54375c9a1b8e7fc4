use Rattle.std.proofs.Common.{arith, codes}
use Rattle.text.proofs.Putting.{fits, long_number_end, with_long_number}
use Rattle.replay.proofs.state.write_page.Goals as goal

pub returns : goal.returns
returns g c =
    let line = with_long_number (codes " ") c.args.key _ _ (omega (arith, c.ranges.key)) (with_long_number (codes ":") c.args.handle _ _ (omega (arith, c.ranges.handle)) (with_long_number (codes ":") c.args.uses _ _ (omega (arith, c.ranges.uses)) (long_number_end (codes ":") c.args.holders (omega (arith, c.ranges.holders))))) in
    fits (λ o. o.end) _ _ _ _ _ _ (omega arith) c.requires line c.write.ensures.writes
