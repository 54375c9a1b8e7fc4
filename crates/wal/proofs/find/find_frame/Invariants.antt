-- The committed frames lie within the log, and each turn looks at the next below (proofs/Descent.antt).
use Rattle.wal.proofs.Descent.{Descent}
use Rattle.wal.proofs.find.find_frame.Given as goal

abbrev pub invariant-loop-earlier : goal.invariant-loop-earlier
invariant-loop-earlier l = Descent l.page l.fn.summary l.log l.length l.committed l.earlier
