-- The sweep finds a page, which is the first of the row that it leaves, and that page is removed; or it finds none, and has
-- come round to the hand.
use Rattle.memory.specs.Memory.{memory_in}
use Rattle.eviction.proofs.Turning.{Ended, holds_turned}
use Rattle.eviction.proofs.Demand.{end_stands, end_removable, full_refuses, found_takes}
use Rattle.eviction.proofs.evicting.evict_one.Goals as goal
use Rattle.eviction.proofs.evicting.evict_one.Goals.{After-sweep-found}

-- what the sweep left
ended : (c : After-sweep-found) → Ended (memory_in c.args.memory.now) c.args.head c.sweep-found.new.slots c.sweep-found.result
ended c = record { some_held = c.requires.some_held; long = c.sweep-found.auto.slots; swept = c.sweep-found.ensures }

pub returns-then-not-found-clause-outcome : goal.returns-then-not-found-clause-outcome
returns-then-not-found-clause-outcome c = λ w H.
    full_refuses H (ended (goal.at.returns-then-not-found-clause-outcome c).After-sweep-found) c.if-not-found.true

pub remove_at_slot-left-requires : goal.remove_at_slot-left-requires
remove_at_slot-left-requires c = end_removable c.requires.sound.holds (ended (goal.at.remove_at_slot-left-requires c).After-sweep-found)

pub returns-clause-outcome : goal.returns-clause-outcome
returns-clause-outcome c = λ w H.
    let d = ended (goal.at.returns-clause-outcome c).After-sweep-found in
    found_takes H d c.if-not-found.false c.load.ensures
    (c.remove_at_slot-left.ensures.removed _ _ _ (holds_turned H d) (end_stands H d))
