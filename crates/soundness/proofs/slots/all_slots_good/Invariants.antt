-- Every slot that was passed is as its mark says.
use lib.ListN.{get_or}
use Rattle.free_marks.specs.Marks.{bit_at}
use Rattle.pool.specs.Slots.{entries, blank}
use Rattle.soundness.specs.Checks.{SlotGood}
use Rattle.soundness.proofs.Passes.{Upto}
use Rattle.soundness.proofs.slots.all_slots_good.Given as goal

abbrev pub invariant-loop-s : goal.invariant-loop-s
invariant-loop-s l = Upto (λ j. SlotGood (bit_at l.marks j) (get_or (entries l.slots) j blank)) 0 l.s
