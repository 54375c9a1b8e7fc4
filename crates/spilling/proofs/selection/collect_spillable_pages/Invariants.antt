-- What is listed are the pages met so far that may be spilled; the walk ends when there are enough, or no more.
use Rattle.spilling.proofs.Selecting.{Selecting}
use Rattle.spilling.proofs.selection.collect_spillable_pages.Given as goal

abbrev pub invariant-loop-s : goal.invariant-loop-s
invariant-loop-s l = Selecting l.slots l.by_key l.fn.list l.held l.most l.s-index l.listed l.list
