-- Another capacity (01, rule 10).
use Rattle.std.specs.Prelude.{Bool, true, false, List, ℕ, ◌≤◌, length}
use Rattle.page.specs.declared.cache.PageCache.{PageCache}
use Rattle.memory.specs.Memory.{Memory}
use Rattle.answer.specs.Answer.{ReadyToCall}
use Rattle.answer.specs.declared.answer.Answer.TheVariants.{Done, PendingEvictions}
use Rattle.answer.specs.declared.answered.Answered.{Answered}
use Rattle.eviction.specs.declared.making_room.Room as code

-- the memory is sound, the list is as long as held, and the capacity is at most S
pub record Resizable (m : Memory) (head : PageCache) (list : List ℕ) (capacity : ℕ) : Type 0 where
  pub ready : ReadyToCall m head list
  pub within : capacity ≤ length m.by_key

-- the head with another capacity
abbrev pub head_for : ℕ → PageCache → PageCache
head_for capacity head = record {
  capacity = capacity;
  held = head.held;
  hand = head.hand;
  spill = head.spill;
  estimate = head.estimate;
}

-- the answer after the evictions: on Full 10, and the capacity stays
abbrev pub resized_as : Bool → code.Room → ℕ → Answered
resized_as true room capacity = record { answer = PendingEvictions; passed = room.passed; listed = room.listed; head = room.head }
resized_as false room capacity = record { answer = Done 0; passed = room.passed; listed = room.listed; head = head_for capacity room.head }
