-- The two parts of the memory that a spill reads, and what is selected from them.
use Rattle.std.specs.Prelude.{◌≡◌, List, map, ℕ, ◌≤◌, length}
use Rattle.page.specs.declared.cache.PageCache.{PageCache}
use Rattle.model.specs.Row.{Page}
use Rattle.memory.specs.Memory.{memory_of}
use Rattle.memory.specs.Holds.{Sound}
use Rattle.answer.specs.Answer.{Wrote}

-- they are parts of a sound memory that holds `held` pages
pub record PartsOfSound (slots by_key : List ℕ) (held : ℕ) : Type 0 where
  pub by_handle : List ℕ
  pub marks : List ℕ
  pub head : PageCache
  pub sound : Sound (memory_of slots by_key by_handle marks) head
  pub same : head.held ≡ held

-- and the list is as long as held
pub record CanListSelected (slots by_key : List ℕ) (held : ℕ) (list : List ℕ) : Type 0 where
  pub readable : PartsOfSound slots by_key held
  pub long : held ≤ length list

-- the handles of the pages stand in the first places of the list, and r is their number
pub record Selected (pages : List Page) (before after : List ℕ) (r : ℕ) : Type 0 where
  pub number : r ≡ length pages
  pub wrote : Wrote (map (λ p. p.handle) pages) before after
