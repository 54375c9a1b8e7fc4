-- One eviction, in the words of demand 3.
use Rattle.std.specs.Prelude.{ℕ, ◌≤◌, Result, Ok, Err}
use Rattle.page.specs.declared.cache.PageCache.{PageCache}
use Rattle.page.specs.declared.names.PageHandle.{PageHandle}
use Rattle.model.specs.Cache.{Cache}
use Rattle.model.specs.Evictions.{OneGoes, NoneGoes}
use Rattle.memory.specs.Memory.{Memory}
use Rattle.memory.specs.Holds.{Holds, Sound}
use Rattle.eviction.specs.declared.evicting.Evicted.{Evicted}
use Rattle.eviction.specs.declared.evicting.Full.{Full}

-- the memory is sound, and something is held
pub record Occupied (m : Memory) (head : PageCache) : Type 0 where
  pub sound : Sound m head
  pub some_held : 1 ≤ head.held

-- a page was taken by demand 3, and the memory holds the cache that it left
pub record Takes (c : Cache) (m' : Memory) (gone : PageHandle) (count : ℕ) (head' : PageCache) : Type 0 where
  pub left : Cache
  pub goes : OneGoes c gone.0 count left
  pub holds : Holds m' head' left

-- no page may go, and the memory holds the cache that it held
pub record Refuses (c : Cache) (m' : Memory) (count : ℕ) (head : PageCache) : Type 0 where
  pub none : NoneGoes c count
  pub holds : Holds m' head c

-- what the answer to one eviction from the cache c says
abbrev pub EvictionOf : Cache → Memory → PageCache → Result Evicted Full → Type 0
EvictionOf c m' head (Ok r) = Takes c m' r.handle r.passed r.head
EvictionOf c m' head (Err r) = Refuses c m' r.passed head
