use Rattle.std.proofs.Common.{arith, codes}
use Rattle.text.proofs.Putting.{fits, words_end}
use Rattle.wal_scan.proofs.lines.write_last.Goals as goal

pub returns-in-None : goal.returns-in-None
returns-in-None g c = fits (λ o. o.end) _ _ _ _ _ _ (omega arith) c.requires (words_end (codes "last commit: none\n")) c.writeln.ensures.writes
