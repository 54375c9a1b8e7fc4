-- A word is read below the length because its slot is, and its fields are those that `decode` cuts out of it.
use Rattle.std.proofs.Common.{arith, sym}
use Rattle.pool.specs.Slots.{decode}
use Rattle.pool.proofs.Packing.{entries_length, entries_at}
use Rattle.pool.proofs.slots.load.Goals as goal

pub bounds-slots-at : goal.bounds-slots-at
bounds-slots-at c = omega (arith, entries_length c.args.slots.now, c.requires)

pub bounds-slots-at-2 : goal.bounds-slots-at-2
bounds-slots-at-2 c = omega (arith, entries_length c.args.slots.now, c.requires)

pub bounds-slots-at-3 : goal.bounds-slots-at-3
bounds-slots-at-3 c = omega (arith, entries_length c.args.slots.now, c.requires)

pub bounds-slots-at-4 : goal.bounds-slots-at-4
bounds-slots-at-4 c = omega (arith, entries_length c.args.slots.now, c.requires)

pub returns : goal.returns
unfolding decode
returns c = sym (entries_at c.args.slots.now c.args.s.0 c.requires)
