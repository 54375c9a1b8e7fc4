-- The sweeping deletions (01, rule 11).
use Rattle.std.specs.Prelude.{◌≡◌, Bool, false, List, ℕ, ◌≤◌, ◌<◌, ltb, get_or}
use Rattle.page.specs.declared.cache.PageCache.{PageCache}
use Rattle.page.specs.declared.entry.PageCacheEntry.{PageCacheEntry}
use Rattle.pool.specs.Slots.{blank, entries}
use Rattle.model.specs.Row.{Page}
use Rattle.memory.specs.Memory.{Memory}
use Rattle.memory.specs.Holds.{seen}
use Rattle.answer.specs.Answer.{ReadyToCall}

-- a key above the limit
abbrev pub key_above : ℕ → Page → Bool
key_above limit p = ltb limit p.key

-- the page that the index has at place i
abbrev pub page_at : (slots by_key : List ℕ) → ℕ → Page
page_at slots by_key i = (seen (get_or by_key i 0) (get_or (entries slots) (get_or by_key i 0) blank)).page

-- no page before place `from` passes the test
abbrev pub NoneBefore : (slots by_key : List ℕ) → (Page → Bool) → ℕ → Type 0
NoneBefore slots by_key test from = (k : ℕ) → k < from → test (page_at slots by_key k) ≡ false

-- the place is at most n, and no key before it is above the limit
pub record FirstAbove (slots by_key : List ℕ) (n limit from : ℕ) : Type 0 where
  pub within : from ≤ n
  pub none : NoneBefore slots by_key (key_above limit) from

-- the memory is sound and the list is as long as held; the place is one of the index, or its end
pub record Walkable (m : Memory) (head : PageCache) (list : List ℕ) (from : ℕ) : Type 0 where
  pub ready : ReadyToCall m head list
  pub within : from ≤ head.held

-- what is answered for an entry is what the test says of its page, and no page before place `from` passes it
pub record Chooses (answers : PageCacheEntry → Bool → Type 0) (m : Memory) (from : ℕ) (test : Page → Bool) : Type 0 where
  pub told : (e : PageCacheEntry) (answer : Bool) (s : ℕ) → answers e answer → answer ≡ test (seen s e).page
  pub none : NoneBefore m.slots m.by_key test from
