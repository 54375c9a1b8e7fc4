-- Rule 8 at a slot: what a deletion asks of the memory and of the list, and what it leaves of them.
use Rattle.std.specs.Prelude.{◌≡◌, List, ℕ, ◌<◌, length, set, Result, Ok, Err}
use Rattle.page.specs.Record.{deletable}
use Rattle.page.specs.declared.cache.PageCache.{PageCache}
use Rattle.page.specs.declared.record.Hindrance.{Hindrance}
use Rattle.model.specs.Cache.{Cache, leave}
use Rattle.model.specs.Row.{Page}
use Rattle.memory.specs.Memory.{Memory}
use Rattle.memory.specs.Holds.{Holds}
use Rattle.answer.specs.Answer.{refused_as}
use Rattle.answer.specs.declared.answer.Answer.{Answer}
use Rattle.moves.specs.Moves.{Removable}

-- the memory holds a cache with an entry at slot s, and the list has the place
pub record CanDelete (m : Memory) (head : PageCache) (s : ℕ) (list : List ℕ) (place : ℕ) : Type 0 where
  pub removable : Removable m head s
  pub within : place < length list

-- the page may be deleted: the cache is left without it, and its handle stands at the place of the list
pub record Goes (c : Cache) (p : Page) (list : List ℕ) (place : ℕ) (m' : Memory) (list' : List ℕ) (head' : PageCache) : Type 0 where
  pub may : deletable p.state ≡ Ok tt
  pub holds : Holds m' head' (leave p c)
  pub listed : list' ≡ set list place p.handle

-- it may not: the first of locked, dirty, pinned is answered with the page's key, and nothing is altered
pub record Stays (p : Page) (m : Memory) (list : List ℕ) (m' : Memory) (list' : List ℕ) (a : Answer) : Type 0 where
  pub why : Hindrance
  pub hindered : deletable p.state ≡ Err why
  pub because : a ≡ refused_as (record { 0 = p.key }) (Err why)
  pub kept : m' ≡ m
  pub list_kept : list' ≡ list

-- what the deletion of the page p from the cache c comes to
abbrev pub DeletionOf : Cache → Page → Memory → List ℕ → ℕ → Memory → List ℕ → Result PageCache Answer → Type 0
DeletionOf c p m list place m' list' (Ok head') = Goes c p list place m' list' head'
DeletionOf c p m list place m' list' (Err a) = Stays p m list m' list' a
