-- Bytes that are bad, memory that is not sound, and else what the record asks for.
use Rattle.std.proofs.Common.{ap}
use native.Mathlib.Omega.{arith}
use mathlib.Core.Bool.{not}
use mathlib.Core.Path.{refl, sym}
use Rattle.contract.proofs.Calling.{words_typed}
use Rattle.apply.proofs.Applying.{applied_unsound, applied_ran}
use Rattle.apply.proofs.apply.Goals as goal

pub returns-then-not-is_ready-clause-applied : goal.returns-then-not-is_ready-clause-applied
returns-then-not-is_ready-clause-applied c =
    applied_unsound (sym c.in-Some.ensures) (rw c.view.ensures at c.is_ready.ensures) (ap not c.if-not-is_ready.true)
    (words_typed c.words_fit.ensures (omega (arith, c.well_formed))) refl c.plain-then-not-is_ready.ensures

pub returns-clause-applied : goal.returns-clause-applied
returns-clause-applied c =
    applied_ran (sym c.in-Some.ensures) (rw c.view.ensures at c.is_ready.ensures) (ap not c.if-not-is_ready.false)
    (words_typed c.words_fit.ensures (omega (arith, c.well_formed))) c.words_fit-2.ensures.marks c.dispatch-answered.ensures.ran
