-- The memory is tested, and the call is refused or comes to the model's step, which lists nothing.
use Rattle.std.proofs.Common.{ap, refl}
use native.Mathlib.Omega.{arith}
use mathlib.Core.Bool.{not}
use Rattle.contract.proofs.Calling.{tested_refused, tested_acted}
use Rattle.contract.proofs.Quiet.{quiet_comes, quiet_dirty}
use Rattle.page_cache.proofs.dirty.notify_page_dirty.Goals as goal

pub returns-then-not-is_sound : goal.returns-then-not-is_sound
returns-then-not-is_sound c =
    tested_refused refl c.is_sound.ensures.decides c.is_sound.ensures.words (omega (arith, c.well_formed)) (ap not c.if-not-is_sound.true) c.plain.ensures

pub returns : goal.returns
returns c =
    tested_acted refl c.is_sound.ensures.decides c.is_sound.ensures.words (omega (arith, c.well_formed)) c.is_sound.ensures.words
    (ap not c.if-not-is_sound.false) (λ d h. quiet_comes (quiet_dirty _) d (c.notify_page_dirty.ensures _ _ d h))
