-- A slot is blank exactly if its four words are zero, since packing is a bijection.
use Rattle.std.proofs.Common.{arith}
use Rattle.pool.proofs.Packing.{entries_length, blank_tested}
use Rattle.pool.proofs.slots.is_blank.Goals as goal

pub bounds-slots-at : goal.bounds-slots-at
bounds-slots-at c = omega (arith, entries_length c.args.slots.now, c.requires)

pub bounds-slots-at-2 : goal.bounds-slots-at-2
bounds-slots-at-2 c = omega (arith, entries_length c.args.slots.now, c.requires)

pub bounds-slots-at-3 : goal.bounds-slots-at-3
bounds-slots-at-3 c = omega (arith, entries_length c.args.slots.now, c.requires)

pub bounds-slots-at-4 : goal.bounds-slots-at-4
bounds-slots-at-4 c = omega (arith, entries_length c.args.slots.now, c.requires)

pub returns : goal.returns
returns c = blank_tested c.args.slots.now c.args.s.0 c.requires
