-- What an insertion asks of the memory where the key is there, and what it comes to if the key's page is stale: the model's
-- rule 6, of every cache that the memory holds.
use Rattle.std.specs.Prelude.{◌≡◌, false, List, ℕ, ◌≤◌, length}
use Rattle.page.specs.Record.{all_flags}
use Rattle.page.specs.declared.cache.PageCache.{PageCache}
use Rattle.model.specs.Cache.{Cache}
use Rattle.model.specs.Limits.{CacheInvariant}
use Rattle.model.specs.Row.{Entry}
use Rattle.model.specs.Rules.{deleting}
use Rattle.model.specs.Tests.{under_other}
use Rattle.memory.specs.Memory.{Memory}
use Rattle.memory.specs.Holds.{Holds}
use Rattle.answer.specs.Answer.{MatchesOutcome}
use Rattle.answer.specs.declared.answered.Answered.{Answered}
use Rattle.moves.specs.Moves.{StandsAt}
use Rattle.insertion.specs.declared.mode.NewPage.{NewPage}
use Rattle.insertion.specs.Admit.{admitting}

-- the handle stands under no other key
abbrev pub Free : NewPage → Cache → Type 0
Free asked c = under_other asked.key.0 asked.handle.0 c.row ≡ false

-- the memory holds a cache within its limits that has the key's page at slot s; the handle stands under no other key; the
-- record is good, and the list is as long as held
pub record KeyFound (m : Memory) (head : PageCache) (list : List ℕ) (s : ℕ) (asked : NewPage) : Type 0 where
  pub cache : Cache
  pub entry : Entry
  pub holds : Holds m head cache
  pub kept : CacheInvariant cache
  pub stands : StandsAt cache.row asked.key.0 s entry
  pub free : Free asked cache
  pub flags : asked.page.flags ≤ all_flags
  pub long : head.held ≤ length list

-- the page is deleted, and the new one goes in as under an absent key; or rule 8 refuses
pub record InsertsStale (m : Memory) (head : PageCache) (list : List ℕ) (s : ℕ) (asked : NewPage) (m' : Memory) (list' : List ℕ) (r : Answered) : Type 0 where
  pub comes : (c : Cache) (e : Entry) → Holds m head c → CacheInvariant c → StandsAt c.row asked.key.0 s e → Free asked c
      → MatchesOutcome (deleting e.page (admitting asked) c) list m' list' r
