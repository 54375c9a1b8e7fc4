-- Each turn reads the next lower byte.
use Prim.Native.Nat.{◌+◌, ◌-◌}
use native.Mathlib.Omega.{arith}
use Rattle.replay_record.proofs.Reading.{read_none, read_room, read_more}
use Rattle.replay_record.proofs.number.number_at.Goals as goal

pub loop-i-init : goal.loop-i-init
loop-i-init c = read_none _ _ _

pub overflow_mul-n : goal.overflow_mul-n
overflow_mul-n c = omega (arith, read_room c.requires c.loop-i.invariant c.loop-i-test.true)

pub overflow_add-n-in-loop-i : goal.overflow_add-n-in-loop-i
overflow_add-n-in-loop-i c =
    omega (arith, read_room c.requires c.loop-i.invariant c.loop-i-test.true, c.type_inv.bytes (c.args.at + (c.loop-i.i - 1)))

pub loop-i-preserved : goal.loop-i-preserved
loop-i-preserved c = read_more c.loop-i.invariant c.loop-i-test.true (c.type_inv.bytes _).fits
