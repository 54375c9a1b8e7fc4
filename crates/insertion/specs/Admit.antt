-- What the admission of a page asks of the memory and what it comes to: the model's rules 5 and 7, of every cache that the
-- memory holds.
use Rattle.std.specs.Prelude.{◌≡◌, List, ℕ, ◌+◌, ◌≤◌, length}
use Rattle.page.specs.Cache.{max_slots}
use Rattle.page.specs.Record.{all_flags}
use Rattle.page.specs.declared.cache.PageCache.{PageCache}
use Rattle.model.specs.Cache.{Cache}
use Rattle.model.specs.Call.{Outcome, listing}
use Rattle.model.specs.Limits.{CacheInvariant}
use Rattle.model.specs.Rules.{admit}
use Rattle.memory.specs.Memory.{Memory}
use Rattle.memory.specs.Holds.{Holds}
use Rattle.answer.specs.Answer.{Wrote, MatchesOutcome}
use Rattle.answer.specs.declared.answered.Answered.{Answered}
use Rattle.moves.specs.declared.finding.Gaps.{Gaps}
use Rattle.moves.specs.Moves.{NewNames, Unseated, GapsOf}
use Rattle.insertion.specs.declared.mode.NewPage.{NewPage}
use Rattle.insertion.specs.Mode.{insertion_of}

-- the key and the handle are new to the cache
abbrev pub New : NewPage → Cache → Type 0
New asked c = NewNames asked.key.0 asked.handle.0 c.row

-- the key is absent: the model's rule
abbrev pub admitting : NewPage → Cache → Outcome
admitting asked = admit asked.key.0 asked.handle.0 asked.page (insertion_of asked.mode)

-- the memory holds a cache within its limits; the gaps are those of the key and the handle, which are new to it; the record is good;
-- the list has `listed` handles already, and after them a place for every page that is held
pub record Admissible (m : Memory) (head : PageCache) (list : List ℕ) (listed : ℕ) (gaps : Gaps) (asked : NewPage) : Type 0 where
  pub cache : Cache
  pub holds : Holds m head cache
  pub kept : CacheInvariant cache
  pub right : GapsOf m head.held asked.key.0 asked.handle.0 gaps
  pub flags : asked.page.flags ≤ all_flags
  pub places : listed + head.held ≤ length list
  pub few : listed + head.held ≤ max_slots

-- the page is admitted as the model says, and the handles of evicted pages are listed after those that the list has already
pub record Admits (m : Memory) (head : PageCache) (list : List ℕ) (listed : ℕ) (asked : NewPage) (m' : Memory) (list' : List ℕ) (r : Answered) : Type 0 where
  pub comes : (c : Cache) (gone before : List ℕ) → Holds m head c → CacheInvariant c → New asked c → Wrote gone before list → length gone ≡ listed
      → MatchesOutcome (listing gone (admitting asked c)) before m' list' r

-- the key and the handle are new to the cache. If as many handles are listed as were before, the gaps of before are theirs
pub record KnownBefore (m : Memory) (head : PageCache) (listed count : ℕ) (gaps : Gaps) (asked : NewPage) : Type 0 where
  pub new : Unseated m head asked.key.0 asked.handle.0
  pub still : count ≡ listed → GapsOf m head.held asked.key.0 asked.handle.0 gaps
