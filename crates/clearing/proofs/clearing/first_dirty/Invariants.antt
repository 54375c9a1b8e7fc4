-- Every page that the walk has passed is clean.
use Rattle.clearing.proofs.Hindered.{Clean}
use Rattle.clearing.proofs.clearing.first_dirty.Given as goal

abbrev pub invariant-loop-s : goal.invariant-loop-s
invariant-loop-s l = Clean l.memory.slots.now l.memory.by_key.now l.n l.s-index
