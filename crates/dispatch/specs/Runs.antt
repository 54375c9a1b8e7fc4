-- What a replay record comes to (01, "The replay program").
use Rattle.std.specs.Prelude.{◌≡◌, ℕ, ◌≤◌, length, Ok, Err}
use Rattle.page.specs.declared.cache.PageCache.{PageCache}
use Rattle.model.specs.Cache.{Cache}
use Rattle.model.specs.Step.{step}
use Rattle.memory.specs.Memory.{Memory}
use Rattle.memory.specs.Holds.{Holds, Sound}
use Rattle.creating.specs.Creation as creation_of
use Rattle.creating.specs.Creation.{Creates}
use Rattle.creating.specs.declared.creating.CreationError.TheVariants as creation_error
use Rattle.answer.specs.Answer.{MatchesOutcome, plainly}
use Rattle.answer.specs.declared.answer.Answer.TheVariants.{Done, BadLengths, TooLarge, BadReplay}
use Rattle.answer.specs.declared.answered.Answered.{Answered}
use Rattle.contract.specs.Called.{State}
use Rattle.replay_record.specs.Request.{Request, none, creation, call, last_operation, request_of}
use Rattle.replay_record.specs.declared.record.Record.{Record}

-- the operations from 1 on are calls, and those ask for sound memory
pub record Runnable (operation : ℕ) (m : Memory) (head : PageCache) : Type 0 where
  pub sound : 1 ≤ operation → operation ≤ last_operation → Sound m head

-- ── a creation ───────────────────────────────────────────────────────────────
-- 01's answer: done, with the new cache's head; or refused, and the head stays
abbrev pub answered_as : creation_of.Creation → PageCache → Answered
answered_as (Ok new) head = plainly (Done 0) new
answered_as (Err creation_error.BadLengths) head = plainly BadLengths head
answered_as (Err creation_error.TooLarge) head = plainly TooLarge head

-- the memory is that of a new cache, or nothing is altered; and the answer says which
pub record Makes (capacity : ℕ) (m : Memory) (head : PageCache) (m' : Memory) (r : Answered) : Type 0 where
  pub made : creation_of.Creation
  pub creates : Creates m capacity made m'
  pub answer : r ≡ answered_as made head

-- the list stays as it was
pub record Creation (capacity : ℕ) (before : State) (head : PageCache) (after : State) (r : Answered) : Type 0 where
  pub makes : Makes capacity before.memory head after.memory r
  pub list : after.list ≡ before.list

-- ── a bad record ─────────────────────────────────────────────────────────────
-- 17, and nothing is altered
pub record Refuses (before : State) (head : PageCache) (after : State) (r : Answered) : Type 0 where
  pub state : after ≡ before
  pub answer : r ≡ plainly BadReplay head

-- ── any request, on memory that is sound if a call is asked for ──────────────
abbrev pub Runs : Request → (before : State) (head : PageCache) (after : State) (r : Answered) → Type 0
Runs none before head after r = Refuses before head after r
Runs (creation capacity) before head after r = Creation capacity before head after r
Runs (call x) before head after r =
    (c : Cache) → Holds before.memory head c → MatchesOutcome (step x c) before.list after.memory after.list r

-- the contract of `dispatch`: what the record asks for, with a list of that length, is carried out
pub record Ran (asked : Record) (before : State) (head : PageCache) (after : State) (r : Answered) : Type 0 where
  pub runs : Runs (request_of asked (length before.list)) before head after r
