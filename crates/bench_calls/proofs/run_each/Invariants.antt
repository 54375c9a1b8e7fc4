-- Each turn is a record, and the next one finds sound memory, in the same slices.
use Rattle.memory.specs.Memory.{memory_in, SameSlices}
use Rattle.memory.specs.Holds.{Sound}
use Rattle.bench_calls.proofs.run_each.Given as goal

abbrev pub invariant-loop-bytes : goal.invariant-loop-bytes
invariant-loop-bytes l = Sound (memory_in l.memory) l.now × SameSlices l.initial.memory l.memory
