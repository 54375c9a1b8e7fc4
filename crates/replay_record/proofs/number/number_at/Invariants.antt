-- Each turn reads the next lower byte.
use Rattle.replay_record.proofs.Reading.{Read}
use Rattle.replay_record.proofs.number.number_at.Given as goal

abbrev pub invariant-loop-i : goal.invariant-loop-i
invariant-loop-i l = Read l.bytes l.at l.width l.i l.n
