-- The memory is tested, and the call is refused or comes to the model's step, which lists nothing.
use Rattle.std.proofs.Common.{ap}
use borrow.Author.Rules.{rules}
use native.Mathlib.Omega.{arith}
use Rattle.contract.proofs.Calling.{lent_typed, call_acted}
use Rattle.contract.proofs.Quiet.{quiet_comes, quiet_write}
use mathlib.Core.Bool.{not}
use Rattle.page_cache.proofs.writing.write_record.Goals as goal

pub returns : goal.returns
returns c =
    call_acted c.is_sound.ensures.decides (lent_typed (λ k. search rules) (λ k. search rules) (omega (arith, c.well_formed)))
    (record { each = λ k. search rules }) (ap not c.if-not-is_sound.false) (λ d h. quiet_comes (quiet_write _ _) d (c.write_record.ensures _ _ d h))
