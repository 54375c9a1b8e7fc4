-- Evictions until there is room, with the list of the handles that went (01, rule 5 and "Answer codes").
use Rattle.std.specs.Prelude.{◌≡◌, List, ◌++◌, ℕ, ◌+◌, ◌≤◌, length, take, drop}
use Rattle.page.specs.declared.cache.PageCache.{PageCache}
use Rattle.model.specs.Rooms.{Room}
use Rattle.memory.specs.Memory.{Memory}
use Rattle.memory.specs.Holds.{Holds, Sound}
use Rattle.eviction.specs.declared.making_room.Room as code

-- the memory is sound, and the list has a place for every page that is held, after those that are listed already
pub record ReadyToEvict (m : Memory) (head : PageCache) (list : List ℕ) (listed : ℕ) : Type 0 where
  pub sound : Sound m head
  pub places : listed + head.held ≤ length list

-- the evictions came to what the model's come to: the answers, the cache that is left, and the handles that went, in
-- order, after those that were listed; other places of the list keep their values
pub record Made (room : Room) (list : List ℕ) (from : ℕ) (m' : Memory) (list' : List ℕ) (r : code.Room) : Type 0 where
  pub full : r.full ≡ room.full
  pub passed : r.passed ≡ room.passed
  pub holds : Holds m' r.head room.cache
  pub listed : r.listed ≡ from + length room.gone
  pub handles : list' ≡ take from list ++ room.gone ++ drop (from + length room.gone) list
