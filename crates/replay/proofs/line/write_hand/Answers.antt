use Rattle.std.proofs.Common.{arith, codes}
use Rattle.text.proofs.Putting.{fits, words_end}
use Rattle.replay.proofs.line.write_hand.Goals as goal

pub returns-in-None : goal.returns-in-None
returns-in-None g c = fits (λ o. o.end) _ _ _ _ _ _ (omega arith) c.requires (words_end (codes " -")) c.write.ensures.writes
