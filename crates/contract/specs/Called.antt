-- What a public call does, to any memory (01, "Answer codes" and "What the contracts have to say").
use Rattle.std.specs.Prelude.{List, [], ◌∷◌, ◌++◌, ◌≡◌, ℕ, ◌<◌, ◌^◌}
use Rattle.page.specs.declared.cache.PageCache.{PageCache}
use Rattle.free_marks.specs.Marks.{Wide}
use Rattle.model.specs.Cache.{Cache, fresh}
use Rattle.model.specs.Call.{Call}
use Rattle.model.specs.Step.{step}
use Rattle.memory.specs.Memory.{Memory}
use Rattle.memory.specs.Holds.{Holds, Sound}
use Rattle.answer.specs.Answer.{MatchesOutcome, plainly}
use Rattle.answer.specs.declared.answer.Answer.TheVariants.{NotSound}
use Rattle.answer.specs.declared.answered.Answered.{Answered}

-- what is lent to a call: the memory, and a list for handles (an empty one for a call that lists nothing)
pub record State : Type 0 where
  pub memory : Memory
  pub list : List ℕ

abbrev pub lent : Memory → List ℕ → State
lent m list = record { memory = m; list = list }

-- either the memory is not sound: 1, and nothing is altered; or the call comes to the model's step from the cache that the
-- memory holds: the answer, what stands in the list, and the memory after it
pub data CallEffect (call : Call) (before : State) (head : PageCache) (after : State) (r : Answered) : Type 0 where
  refuses : (Sound before.memory head → ⊥) → after ≡ before → r ≡ plainly NotSound head → CallEffect call before head after r
  acts : Sound before.memory head
      → ((c : Cache) → Holds before.memory head c → MatchesOutcome (step call c) before.list after.memory after.list r)
      → CallEffect call before head after r

-- what is lent is in range for its types: slots and marks are numbers of 64 bits, and the estimate is one of 32
pub record Typed (m : Memory) (head : PageCache) : Type 0 where
  pub slots : Wide m.slots
  pub marks : Wide m.marks
  pub estimate : head.estimate < 2 ^ 32

-- the contract of a public call
pub record Called (call : Call) (before : State) (head : PageCache) (after : State) (r : Answered) : Type 0 where
  pub typed : Typed before.memory head
  -- the marks stay numbers of 64 bits
  pub wide : Wide after.memory.marks
  pub effect : CallEffect call before head after r

-- nothing is altered: neither memory nor list, and the head comes back as it was
pub record Unaltered (before : State) (head₀ : PageCache) (after : State) (r : Answered) : Type 0 where
  pub state : after ≡ before
  pub head : r.head ≡ head₀

-- ── from creation ────────────────────────────────────────────────────────────
-- the memory and the head after calls, one after another, on memory that nothing else changed since its creation
pub data History (size capacity : ℕ) : List Call → Memory → PageCache → Type 0 where
  created : {m : Memory} {head : PageCache} → Holds m head (fresh size capacity) → History size capacity [] m head
  called : {calls : List Call} {m m' : Memory} {head : PageCache} {list list' : List ℕ} {r : Answered} (call : Call)
      → History size capacity calls m head → Called call (lent m list) head (lent m' list') r
      → History size capacity (calls ++ call ∷ []) m' r.head
