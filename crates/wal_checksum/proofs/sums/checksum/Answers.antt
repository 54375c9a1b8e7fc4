-- Each turn sums one pair (proofs/Summing.antt).
use Rattle.wal_checksum.proofs.Summing.{summing_begins, summing_more, summing_done}
use Rattle.wal_checksum.proofs.sums.checksum.Goals as goal

pub loop-i-init : goal.loop-i-init
loop-i-init c = summing_begins

pub loop-i-preserved : goal.loop-i-preserved
loop-i-preserved c = summing_more c.loop-i.invariant c.loop-i-test.true c.word_at.ensures c.word_at-in-loop-i.ensures c.add_pair-s.ensures

pub returns : goal.returns
returns c = summing_done c.loop-i.invariant c.loop-i-test.false
