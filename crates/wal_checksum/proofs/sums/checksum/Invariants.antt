-- Each turn sums one pair (proofs/Summing.antt).
use Rattle.wal_checksum.proofs.Summing.{Summing}
use Rattle.wal_checksum.proofs.sums.checksum.Given as goal

abbrev pub invariant-loop-i : goal.invariant-loop-i
invariant-loop-i l = Summing l.big l.bytes l.at l.pairs l.initial.s l.i l.s
