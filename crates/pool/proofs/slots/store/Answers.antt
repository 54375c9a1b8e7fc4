-- The words that are stored are those of the entry, whose fields fit their places because they are numbers of their widths.
use Rattle.std.proofs.Common.{arith, length-set}
use Rattle.pool.proofs.Packing.{entries_length, stored}
use Rattle.pool.proofs.slots.store.Goals as goal

pub bounds-slots-at : goal.bounds-slots-at
bounds-slots-at c = omega (arith, entries_length c.args.slots.now, c.requires)

pub bounds-slots-at-2 : goal.bounds-slots-at-2
bounds-slots-at-2 c = simp length-set (omega (arith, entries_length c.args.slots.now, c.requires))

pub bounds-slots-at-3 : goal.bounds-slots-at-3
bounds-slots-at-3 c = simp length-set (omega (arith, entries_length c.args.slots.now, c.requires))

pub bounds-slots-at-4 : goal.bounds-slots-at-4
bounds-slots-at-4 c = simp length-set (omega (arith, entries_length c.args.slots.now, c.requires))

pub returns : goal.returns
returns c = stored c.args.slots.now c.args.s.0 c.args.e c.requires (omega (arith, c))
