use Rattle.std.proofs.Common.{arith, codes}
use Rattle.text.proofs.Putting.{fits, words_end}
use Rattle.replay.proofs.line.write_bad.Goals as goal

pub returns : goal.returns
returns g c =
    let line = words_end (codes "bad\n") in
    fits (λ o. o.end) _ _ _ _ _ _ (omega arith) c.requires line c.writeln.ensures.writes
