-- What the moves ask of the memory and what they make of it. Each asks for memory that holds a cache, and then says, of every
-- cache that it holds, which cache it holds afterwards: a change that the model has a word for.
use Rattle.std.specs.Prelude.{◌≡◌, true, false, List, ◌≢◌, ℕ, ◌≤◌, ◌<◌, length, Result, Ok, Err}
use Rattle.std.proofs.Math.Option.{none, some}
use Rattle.page.specs.Record.{all_flags}
use Rattle.page.specs.declared.cache.PageCache.{PageCache}
use Rattle.page.specs.declared.entry.PageCacheEntry.{PageCacheEntry}
use Rattle.page.specs.declared.record.PageRecord.{PageRecord}
use Rattle.pool.specs.Slots.{entries}
use Rattle.ring_links.specs.Links.{Linkable}
use Rattle.sorted_index.specs.Names.{names}
use Rattle.sorted_index.specs.Index.{Miss}
use Rattle.sorted_index.specs.declared.search.By.{By}
use Rattle.sorted_index.specs.declared.search.By.TheVariants.{Key, Handle}
use Rattle.model.specs.Cache.{Cache, held_in, new_page, enter, leave, touch, rewrite, replace}
use Rattle.model.specs.Row.{Entry, Row, Each, find}
use Rattle.model.specs.Tests.{under_other}
use Rattle.memory.specs.Memory.{Memory, memory_of}
use Rattle.memory.specs.Holds.{Holds}
use Rattle.page.specs.declared.names.Slot.{Slot}
use Rattle.moves.specs.declared.finding.HandleSeat.{HandleSeat}
use Rattle.moves.specs.declared.finding.HandleSeat.TheVariants.{Elsewhere, UnderKey, Nowhere}
use Rattle.moves.specs.declared.finding.Gaps.{Gaps}

-- the entry that the row has under the key stands at slot s
pub record StandsAt (row : Row) (key s : ℕ) (e : Entry) : Type 0 where
  pub found : find key row ≡ some e
  pub slot : e.page.slot ≡ s

-- ── search ───────────────────────────────────────────────────────────────────
-- the row has an entry under the key, at slot s
pub record KeyAt (row : Row) (key s : ℕ) : Type 0 where
  pub entry : Entry
  pub stands : StandsAt row key s entry

-- the answer is the slot of the entry under the key, or that there is none
abbrev pub SeatIs : Row → ℕ → Result Slot ℕ → Type 0
SeatIs row key (Ok s) = KeyAt row key s.0
SeatIs row key (Err gap) = find key row ≡ none

-- the gap that a name which no slot has would go into, in the index that goes by such names
abbrev pub GapIn : By → (slots order : List ℕ) (held name gap : ℕ) → Type 0
GapIn by slots order held name gap = Miss (names by (entries slots)) order held name gap

abbrev pub SeatGap : (slots by_key : List ℕ) (held key : ℕ) → Result Slot ℕ → Type 0
SeatGap slots by_key held key (Ok s) = Unit
SeatGap slots by_key held key (Err gap) = GapIn Key slots by_key held key gap

-- the answer is right for every cache of `held` pages that a memory with these slots and this index by key holds
pub record Seats (by_key slots : List ℕ) (held key : ℕ) (r : Result Slot ℕ) : Type 0 where
  pub seat : (by_handle marks : List ℕ) (head : PageCache) (c : Cache) → Holds (memory_of slots by_key by_handle marks) head c → head.held ≡ held
      → SeatIs c.row key r
  pub gap : SeatGap slots by_key held key r

-- the handle stands under another key, by the test for code 12; or under none but this one, whose entry is at slot s; or nowhere
abbrev pub HandleIs : Row → (key handle : ℕ) → HandleSeat → Type 0
HandleIs row key handle Elsewhere = under_other key handle row ≡ true
HandleIs row key handle (UnderKey s) = KeyAt row key s.0 × (under_other key handle row ≡ false)
HandleIs row key handle (Nowhere gap) = Each (λ x. handle ≢ x.page.handle) row

abbrev pub HandleSeatGap : (slots by_handle : List ℕ) (held handle : ℕ) → HandleSeat → Type 0
HandleSeatGap slots by_handle held handle Elsewhere = Unit
HandleSeatGap slots by_handle held handle (UnderKey s) = Unit
HandleSeatGap slots by_handle held handle (Nowhere gap) = GapIn Handle slots by_handle held handle gap

-- the same for an index by handle
pub record SeatsHandle (by_handle slots : List ℕ) (held key handle : ℕ) (r : HandleSeat) : Type 0 where
  pub seat : (by_key marks : List ℕ) (head : PageCache) (c : Cache) → Holds (memory_of slots by_key by_handle marks) head c → head.held ≡ held
      → HandleIs c.row key handle r
  pub gap : HandleSeatGap slots by_handle held handle r

-- ── removal ──────────────────────────────────────────────────────────────────
-- the memory holds a cache with an entry at slot s
pub record Removable (m : Memory) (head : PageCache) (s : ℕ) : Type 0 where
  pub cache : Cache
  pub key : ℕ
  pub entry : Entry
  pub holds : Holds m head cache
  pub stands : StandsAt cache.row key s entry

-- that entry is gone
abbrev pub Removes : Memory → PageCache → ℕ → Memory → PageCache → Type 0
Removes m head s m' head' = (c : Cache) (key : ℕ) (e : Entry) → Holds m head c → StandsAt c.row key s e → Holds m' head' (leave e.page c)

-- ── a new page ───────────────────────────────────────────────────────────────
-- no entry of the row has the key or the handle
pub record NewNames (key handle : ℕ) (row : Row) : Type 0 where
  pub keys : Each (λ x. key ≢ x.page.key) row
  pub handles : Each (λ x. handle ≢ x.page.handle) row

-- with some marks the memory holds a cache to which the key and the handle are new
pub record Unseated (m : Memory) (head : PageCache) (key handle : ℕ) : Type 0 where
  pub marks : List ℕ
  pub cache : Cache
  pub holds : Holds (memory_of m.slots m.by_key m.by_handle marks) head cache
  pub new : NewNames key handle cache.row

-- the gaps that they go into
pub record GapsOf (m : Memory) (held key handle : ℕ) (gaps : Gaps) : Type 0 where
  pub of_key : GapIn Key m.slots m.by_key held key gaps.key
  pub of_handle : GapIn Handle m.slots m.by_handle held handle gaps.handle

-- the memory holds a cache which has a slot to spare, and the gaps are those of the key and the handle; the record is good
pub record Placeable (m : Memory) (head : PageCache) (gaps : Gaps) (key handle : ℕ) (page : PageRecord) : Type 0 where
  pub cache : Cache
  pub holds : Holds m head cache
  pub right : GapsOf m head.held key handle gaps
  pub room : held_in cache < cache.size
  pub flags : page.flags ≤ all_flags

-- the new page has entered
abbrev pub Places : Memory → PageCache → (key handle : ℕ) → PageRecord → Memory → PageCache → Type 0
Places m head key handle page m' head' =
    (c : Cache) → Holds m head c → NewNames key handle c.row → Holds m' head' (enter (new_page key handle page c) c)

-- the slots that putting an entry in at slot s writes exist
pub record Seatable (es : List PageCacheEntry) (head : PageCache) (s : ℕ) : Type 0 where
  pub slot : s < length es
  pub linkable : head.held ≢ 0 → Linkable es head.hand.0 s

-- ── a page in its place ──────────────────────────────────────────────────────
-- whatever the other parts are, the page at slot s has been touched
abbrev pub Touches : (slots : List ℕ) (s : ℕ) (slots' : List ℕ) → Type 0
Touches slots s slots' =
    (by_key by_handle marks : List ℕ) (head : PageCache) (c : Cache) (key : ℕ) (e : Entry)
    → Holds (memory_of slots by_key by_handle marks) head c → StandsAt c.row key s e
    → Holds (memory_of slots' by_key by_handle marks) head (touch key c)

-- the slot exists, and the record is good
pub record Rewritable (slots : List ℕ) (s : ℕ) (page : PageRecord) : Type 0 where
  pub slot : s < length (entries slots)
  pub flags : page.flags ≤ all_flags

-- whatever the other parts are, the page at slot s has the record
abbrev pub Rewrites : (slots : List ℕ) (s : ℕ) → PageRecord → (slots' : List ℕ) → Type 0
Rewrites slots s page slots' =
    (by_key by_handle marks : List ℕ) (head : PageCache) (c : Cache) (key : ℕ) (e : Entry)
    → Holds (memory_of slots by_key by_handle marks) head c → StandsAt c.row key s e
    → Holds (memory_of slots' by_key by_handle marks) head (rewrite key page c)

-- with some other parts the memory holds a cache with an entry at slot s, and the handle stands under no other key
pub record Replaceable (slots by_handle : List ℕ) (head : PageCache) (s handle : ℕ) (page : PageRecord) : Type 0 where
  pub by_key : List ℕ
  pub marks : List ℕ
  pub cache : Cache
  pub key : ℕ
  pub entry : Entry
  pub holds : Holds (memory_of slots by_key by_handle marks) head cache
  pub stands : StandsAt cache.row key s entry
  pub free : under_other key handle cache.row ≡ false
  pub flags : page.flags ≤ all_flags

-- whatever the other parts are, the page at slot s has the handle and the record
abbrev pub Replaces : (slots by_handle : List ℕ) → PageCache → (s handle : ℕ) → PageRecord → (slots' by_handle' : List ℕ) → PageCache → Type 0
Replaces slots by_handle head s handle page slots' by_handle' head' =
    (by_key marks : List ℕ) (c : Cache) (key : ℕ) (e : Entry) → Holds (memory_of slots by_key by_handle marks) head c
    → StandsAt c.row key s e → under_other key handle c.row ≡ false
    → Holds (memory_of slots' by_key by_handle' marks) head' (replace e.page handle page c)
