-- What a hit asks of the memory, and what it comes to (01, rule 9).
use Rattle.std.specs.Prelude.{◌≡◌, Bool, List, ℕ, get_or}
use Rattle.page.specs.declared.cache.PageCache.{PageCache}
use Rattle.page.specs.declared.entry.PageCacheEntry.{PageCacheEntry}
use Rattle.pool.specs.Slots.{blank, entries}
use Rattle.model.specs.Cache.{Cache}
use Rattle.model.specs.Row.{Entry}
use Rattle.model.specs.Rules.{hit}
use Rattle.memory.specs.Memory.{memory_of}
use Rattle.memory.specs.Holds.{Holds}
use Rattle.answer.specs.Answer.{Follows}
use Rattle.answer.specs.declared.answered.Answered.{Answered}
use Rattle.moves.specs.Moves.{StandsAt}

-- with some other parts the memory holds a cache with an entry at slot s, which is the one that was loaded
pub record CanHit (slots : List ℕ) (head : PageCache) (s : ℕ) (e : PageCacheEntry) : Type 0 where
  pub by_key : List ℕ
  pub by_handle : List ℕ
  pub marks : List ℕ
  pub cache : Cache
  pub key : ℕ
  pub entry : Entry
  pub holds : Holds (memory_of slots by_key by_handle marks) head cache
  pub stands : StandsAt cache.row key s entry
  pub loaded : e ≡ get_or (entries slots) s blank

-- whatever the other parts are, the page at slot s is hit, with a touch if asked
abbrev pub Hits : (slots : List ℕ) → PageCache → ℕ → Bool → (slots' : List ℕ) → Answered → Type 0
Hits slots head s touch slots' r =
    (by_key by_handle marks : List ℕ) (c : Cache) (key : ℕ) (e : Entry)
    → Holds (memory_of slots by_key by_handle marks) head c → StandsAt c.row key s e
    → Follows (hit key touch e.page c) (memory_of slots' by_key by_handle marks) r
