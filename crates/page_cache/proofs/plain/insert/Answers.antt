-- The memory is tested, and the call is refused or comes to the model's step.
use Rattle.std.proofs.Common.{ap}
use native.Mathlib.Omega.{arith}
use mathlib.Core.Bool.{not}
use Rattle.contract.proofs.Calling.{tested_refused, tested_acted}
use Rattle.page_cache.proofs.plain.insert.Goals as goal

pub returns-then-not-is_sound-clause-called : goal.returns-then-not-is_sound-clause-called
returns-then-not-is_sound-clause-called c =
    tested_refused c.view.ensures c.is_sound.ensures.decides c.is_sound.ensures.words (omega (arith, c.well_formed)) (ap not c.if-not-is_sound.true) c.plain.ensures

pub returns-clause-called : goal.returns-clause-called
returns-clause-called c =
    tested_acted c.view.ensures c.is_sound.ensures.decides c.is_sound.ensures.words (omega (arith, c.well_formed)) c.words_fit.ensures
    (ap not c.if-not-is_sound.false) c.insert_page-answered.ensures.outcome
