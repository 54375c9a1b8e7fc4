-- Each answer is given after the tests that it follows from.
use mathlib.Core.Path.{refl}
use Rattle.pool.proofs.Decides.{fails, passes}
use Rattle.listing.specs.Outcome.{all_listed, not_sound, too_short}
use Rattle.listing.proofs.testing.admit.Goals as goal

pub returns-then-not-is_sound : goal.returns-then-not-is_sound
returns-then-not-is_sound c = not_sound (fails c.if-not-is_sound.ensures.decides refl)

pub returns-then-room-head : goal.returns-then-room-head
returns-then-room-head c = too_short (record { sound = passes c.if-not-is_sound.ensures.decides refl; short = c.if-room-head.true })

pub returns : goal.returns
returns c = all_listed (record { sound = passes c.if-not-is_sound.ensures.decides refl; room = c.if-room-head.false; count = refl })
