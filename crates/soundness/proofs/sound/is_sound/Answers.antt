-- Each pass may refuse, since sound memory passes them all; and if none refuses, they come to soundness.
use Rattle.std.proofs.Common.{refl}
use Rattle.pool.proofs.Decides.{passes, refuses}
use Rattle.soundness.proofs.Joining.{sound_checked, readable, keys_orderable, handles_orderable, last_decides}
use Rattle.soundness.proofs.sound.is_sound.Goals as goal

pub returns-then-not-marks_agree-clause-decides : goal.returns-then-not-marks_agree-clause-decides
returns-then-not-marks_agree-clause-decides c = refuses c.if-not-marks_agree.ensures refl (λ s. (sound_checked s).marks)

pub is_ring-requires : goal.is_ring-requires
is_ring-requires c = readable (passes c.if-not-lengths_agree.ensures refl)

pub returns-then-not-is_ring-clause-decides : goal.returns-then-not-is_ring-clause-decides
returns-then-not-is_ring-clause-decides c = refuses c.if-not-is_ring.ensures refl (λ s. (sound_checked s).ring)

pub lists-requires : goal.lists-requires
lists-requires c = keys_orderable (passes c.if-not-lengths_agree.ensures refl) (passes c.if-not-in_range.ensures refl)

pub returns-then-not-lists-clause-decides : goal.returns-then-not-lists-clause-decides
returns-then-not-lists-clause-decides c = refuses c.if-not-lists.ensures refl (λ s. (sound_checked s).keys)

pub lists-requires-2 : goal.lists-requires-2
lists-requires-2 c = handles_orderable (passes c.if-not-lengths_agree.ensures refl) (passes c.if-not-in_range.ensures refl)

pub returns-then-not-lists-2-clause-decides : goal.returns-then-not-lists-2-clause-decides
returns-then-not-lists-2-clause-decides c = refuses c.if-not-lists-2.ensures refl (λ s. (sound_checked s).handles)

pub all_slots_good-requires : goal.all_slots_good-requires
all_slots_good-requires c = readable (passes c.if-not-lengths_agree.ensures refl)

pub returns-clause-decides : goal.returns-clause-decides
returns-clause-decides c =
    last_decides
    (passes c.if-not-lengths_agree.ensures refl)
    (passes c.if-not-in_range.ensures refl)
    (passes c.if-not-marks_agree.ensures refl)
    (passes c.if-not-is_ring.ensures refl)
    (passes c.if-not-lists.ensures refl)
    (passes c.if-not-lists-2.ensures refl)
    c.all_slots_good.ensures
