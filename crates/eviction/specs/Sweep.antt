-- A look and a sweep over the entries of the slots (01, rule 3).
use Rattle.std.specs.Prelude.{◌≡◌, Bool, true, false, List, ◌∷◌, ℕ, suc, ◌*◌, length, get_or, set, Option, Some, None}
use Rattle.std.proofs.Math.Option.{none, some}
use Rattle.page.specs.Entry.{ref_max, with_uses}
use Rattle.page.specs.declared.entry.PageCacheEntry.{PageCacheEntry}
use Rattle.page.specs.declared.names.Slot.{Slot}
use Rattle.ring_links.specs.Links.{next_at}
use Rattle.ring_links.specs.Ring.{has}
use Rattle.pool.specs.Slots.{blank}
use Rattle.sorted_index.specs.Names.{names}
use Rattle.sorted_index.specs.declared.search.By.{By}
use Rattle.model.specs.Cache.{page_may_go}
use Rattle.model.specs.Row.{Entry, Each}
use Rattle.model.specs.Sweep.{Swept, lower, goes_now, looks}
use Rattle.memory.specs.Holds.{EntryGood, Seated, seen, row_of}
use Rattle.eviction.specs.declared.sweeping.Swept as code

-- the model's entry for the one that stands at slot s
abbrev pub seen_at : List PageCacheEntry → ℕ → Entry
seen_at es s = seen s (get_or es s blank)

-- ── a look ───────────────────────────────────────────────────────────────────
-- a page that may go with count 0 is taken; as yet nothing is changed
pub record TakenAt (es : List PageCacheEntry) (s : ℕ) (es' : List PageCacheEntry) : Type 0 where
  pub goes : goes_now page_may_go (seen_at es s) ≡ true
  pub same : es' ≡ es

-- any other page loses 1 if it may go, no other entry is changed, and the slot after it is next
pub record PassedAt (es : List PageCacheEntry) (s : ℕ) (es' : List PageCacheEntry) (answer : Slot) : Type 0 where
  pub stays : goes_now page_may_go (seen_at es s) ≡ false
  pub loses : es' ≡ set es s (with_uses (get_or es s blank) (lower page_may_go 1 (seen_at es s)).uses)
  pub next : answer.0 ≡ next_at es s

-- what a look at slot s says
abbrev pub LookedAt : List PageCacheEntry → ℕ → List PageCacheEntry → Option Slot → Type 0
LookedAt es s es' None = TakenAt es s es'
LookedAt es s es' (Some next) = PassedAt es s es' next

-- ── a sweep ──────────────────────────────────────────────────────────────────
-- the ring begins at the hand
pub record Sweepable (es : List PageCacheEntry) (hand : ℕ) : Type 0 where
  pub rest : List ℕ
  pub seated : Seated es (hand ∷ rest)

-- the model's result of a sweep that ends at slot `at`, with the rest of the seats after it: if a page was found, the one at
-- that slot is taken, and else none
abbrev pub comes_to : Bool → List PageCacheEntry → ℕ → List ℕ → ℕ → Swept
comes_to true es at rest passed = record { victim = some (seen_at es at).page; passed = passed; row = row_of es rest }
comes_to false es at rest passed = record { victim = none; passed = passed; row = row_of es (at ∷ rest) }

-- the ring had these seats and now begins at slot `at`
pub record Turned (es : List PageCacheEntry) (seats : List ℕ) (es' : List PageCacheEntry) (at : ℕ) : Type 0 where
  pub rest : List ℕ
  pub seated : Seated es' (at ∷ rest)
  -- the slots are the same
  pub size : length (at ∷ rest) ≡ length seats
  pub same : (k : ℕ) → has k (at ∷ rest) ≡ has k seats
  -- all keys and handles are as they were
  pub named : (by : By) → names by es' ≡ names by es
  -- the entries are within their limits, if they were before
  pub good : Each EntryGood (row_of es seats) → Each EntryGood (row_of es' (at ∷ rest))

-- the ring begins where the sweep ended, and 4 * held looks of the model come to what the sweep says
pub record SweptFrom (es : List PageCacheEntry) (seats : List ℕ) (held : ℕ) (es' : List PageCacheEntry) (r : code.Swept) : Type 0 where
  pub turned : Turned es seats es' r.at.0
  pub came : looks page_may_go (suc ref_max * held) (row_of es seats) ≡ comes_to r.found es' r.at.0 turned.rest r.passed

-- the same, whatever seats the ring has from the hand on
abbrev pub SweptAs : List PageCacheEntry → ℕ → ℕ → List PageCacheEntry → code.Swept → Type 0
SweptAs es hand held es' r = (rest : List ℕ) → Seated es (hand ∷ rest) → SweptFrom es (hand ∷ rest) held es' r
