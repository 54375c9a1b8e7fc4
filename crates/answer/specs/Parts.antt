-- The contract of a call that looks at one page in its place (`peek`, `release_page`, the notices, the record write) and is lent two parts of the
-- memory for it, the slots and the index by key: whatever the other parts are, it came to the outcome of the model's `step`.
use Rattle.std.specs.Prelude.{List, ℕ}
use Rattle.page.specs.declared.cache.PageCache.{PageCache}
use Rattle.model.specs.Cache.{Cache}
use Rattle.model.specs.Call.{Call}
use Rattle.model.specs.Step.{step}
use Rattle.memory.specs.Memory.{memory_of}
use Rattle.memory.specs.Holds.{Holds, Sound}
use Rattle.answer.specs.Answer.{Follows}
use Rattle.answer.specs.declared.answered.Answered.{Answered}

-- they are parts of a sound memory
pub record SoundParts (slots by_key : List ℕ) (head : PageCache) : Type 0 where
  pub by_handle : List ℕ
  pub marks : List ℕ
  pub sound : Sound (memory_of slots by_key by_handle marks) head

-- whatever the other parts are, and for every cache that the memory holds: the call came to the outcome that the model's step has
abbrev pub FollowsStep : Call → (slots by_key : List ℕ) → PageCache → (slots' : List ℕ) → Answered → Type 0
FollowsStep call slots by_key head slots' r =
    (by_handle marks : List ℕ) (c : Cache) → Holds (memory_of slots by_key by_handle marks) head c
    → Follows (step call c) (memory_of slots' by_key by_handle marks) r
