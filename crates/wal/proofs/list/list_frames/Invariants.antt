-- At each turn the frames before this one are in the lists (proofs/Filling.antt).
use Rattle.wal.proofs.Filling.{Filling}
use Rattle.wal.proofs.list.list_frames.Given as goal

abbrev pub invariant-loop-i : goal.invariant-loop-i
invariant-loop-i l = Filling l.length l.log l.count l.fn.pages l.fn.sizes l.pages l.sizes l.i
