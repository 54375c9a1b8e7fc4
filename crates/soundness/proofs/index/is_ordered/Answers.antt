-- Each slot is looked up before its name is read, and each name is at least one more than the last.
use native.Mathlib.Omega.{arith}
use lib.Seq.{length-take-le}
use Rattle.std.proofs.Common.{◌<◌}
use Rattle.std.proofs.lemmas.List.{get_or-take}
use Rattle.soundness.proofs.Ordering.{ordered_low, ordered_more}
use Rattle.soundness.proofs.index.is_ordered.Goals as goal

pub returns-then-x-least : goal.returns-then-x-least
returns-then-x-least c =
    let inside : c.loop-s.s-index < c.args.n = omega (arith, length-take-le c.args.n c.args.order.now c.requires.fits) in
    let here = get_or-take c.args.n c.args.order.now c.loop-s.s-index 0 inside in
    ordered_low c.loop-s.invariant inside (rw here at c.is_free.ensures) (rw here at c.name-x.ensures) c.if-x-least.true

pub loop-s-preserved : goal.loop-s-preserved
loop-s-preserved c =
    let inside : c.loop-s.s-index < c.args.n = omega (arith, length-take-le c.args.n c.args.order.now c.requires.fits) in
    let here = get_or-take c.args.n c.args.order.now c.loop-s.s-index 0 inside in
    ordered_more c.loop-s.invariant inside (rw here at c.is_free.ensures) (rw here at c.name-x.ensures) c.if-is_free.false (rw (← here) (omega arith)) (omega arith)
