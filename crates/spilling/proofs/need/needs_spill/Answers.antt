-- The tests are those of the rule, read off the head, and the count is made only if none of them says no.
use mathlib.Core.Path.{refl}
use Rattle.spilling.proofs.Needing.{awake, needs_idle, needs_room, needs_count}
use Rattle.spilling.proofs.need.needs_spill.Goals as goal

pub returns-then-head-threshold : goal.returns-then-head-threshold
returns-then-head-threshold c = λ by_handle marks cache g. needs_idle g c.spill_threshold-threshold.ensures c.if-head-threshold.true

pub returns-then-needed-room : goal.returns-then-needed-room
returns-then-needed-room c = λ by_handle marks cache g.
    needs_room g c.spill_threshold-threshold.ensures (awake _ _ _ c.if-head-threshold.false) c.empty_slots.ensures c.if-needed-room.true

pub returns : goal.returns
returns c = λ by_handle marks cache g.
    needs_count g c.spill_threshold-threshold.ensures (awake _ _ _ c.if-head-threshold.false) c.empty_slots.ensures c.if-needed-room.false
    (c.count_evictable_pages.ensures by_handle marks _ cache g refl)
