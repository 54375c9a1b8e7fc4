-- 01's number and value for each answer, and what it means that a call came to an outcome of the model.
use Rattle.std.specs.Prelude.{◌≡◌, List, ◌++◌, ℕ, ◌≤◌, length, drop, Result, Ok, Err}
use Rattle.page.specs.declared.cache.PageCache.{PageCache}
use Rattle.page.specs.declared.names.PageCacheKey.{PageCacheKey}
use Rattle.page.specs.declared.record.Hindrance.{Hindrance}
use Rattle.page.specs.declared.record.Hindrance.TheVariants as hindrance
use Rattle.model.specs.Call.{Outcome}
use Rattle.memory.specs.Memory.{Memory}
use Rattle.memory.specs.Holds.{Holds, Sound}
use Rattle.answer.specs.declared.answer.Answer.{Answer}
use Rattle.answer.specs.declared.answer.Answer.TheVariants.{Done, NotSound, BadRecord, ShortList, Absent, Locked, Dirty, Pinned, Full, KeyExists, PendingEvictions, OtherPage, HandleElsewhere, NoSlot, Empty, TooLarge, BadLengths, BadReplay, NotNeeded, NoneSelected, HolderLimit}
use Rattle.answer.specs.declared.answered.Answered.{Answered}

-- 01's answer codes
abbrev pub code_of : Answer → ℕ
code_of (Done v) = 0
code_of NotSound = 1
code_of BadRecord = 2
code_of ShortList = 3
code_of Absent = 4
code_of (Locked k) = 5
code_of (Dirty k) = 6
code_of (Pinned k) = 7
code_of Full = 8
code_of KeyExists = 9
code_of PendingEvictions = 10
code_of OtherPage = 11
code_of HandleElsewhere = 12
code_of NoSlot = 13
code_of Empty = 14
code_of TooLarge = 15
code_of BadLengths = 16
code_of BadReplay = 17
code_of NotNeeded = 18
code_of NoneSelected = 19
code_of HolderLimit = 20

-- found handle, replaced handle, refusing key, number selected, else 0
abbrev pub value_of : Answer → ℕ
value_of (Done v) = v
value_of (Locked k) = k.0
value_of (Dirty k) = k.0
value_of (Pinned k) = k.0
value_of _ = 0

-- the answer to a deletion of which a page's record says this
abbrev pub refused_as : PageCacheKey → Result Unit Hindrance → Answer
refused_as key (Ok granted) = Done 0
refused_as key (Err hindrance.Locked) = Locked key
refused_as key (Err hindrance.Dirty) = Dirty key
refused_as key (Err hindrance.Pinned) = Pinned key

-- an answer with nothing passed and nothing listed
abbrev pub plainly : Answer → PageCache → Answered
plainly a head = record { answer = a; passed = 0; listed = 0; head = head }

-- the call came to the outcome: what is answered, and the cache that the memory and the head now hold
pub record Follows (o : Outcome) (m : Memory) (r : Answered) : Type 0 where
  pub code : code_of r.answer ≡ o.code
  pub value : value_of r.answer ≡ o.value
  pub passed : r.passed ≡ o.passed
  pub listed : r.listed ≡ length o.listed
  pub holds : Holds m r.head o.cache

-- the handles stand in the first places of the list, in their order; other places keep their values
pub record Wrote (handles before after : List ℕ) : Type 0 where
  pub list : after ≡ handles ++ drop (length handles) before

-- both, for a call that is lent a list
pub record MatchesOutcome (o : Outcome) (before : List ℕ) (m : Memory) (after : List ℕ) (r : Answered) : Type 0 where
  pub follows : Follows o m r
  pub wrote : Wrote o.listed before after

-- what the calls below the soundness test stand on: sound memory, and a list as long as held
pub record ReadyToCall (m : Memory) (head : PageCache) (list : List ℕ) : Type 0 where
  pub sound : Sound m head
  pub long : head.held ≤ length list
