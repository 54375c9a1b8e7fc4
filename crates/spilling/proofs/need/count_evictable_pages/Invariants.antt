-- The count is that of the pages met so far, and at the end the walk has met them all.
use Rattle.model.specs.Cache.{page_may_go}
use Rattle.spilling.proofs.Walking.{Met}
use Rattle.spilling.proofs.need.count_evictable_pages.Given as goal

abbrev pub invariant-loop-s : goal.invariant-loop-s
invariant-loop-s l = Met page_may_go l.slots l.by_key l.held l.s-index l.count
