-- What each pass of the soundness test finds out. `Checked` is all of it, and comes to the same as `Sound`
-- (proofs/Joining.antt).
use Rattle.std.specs.Prelude.{◌≡◌, List, ℕ, ◌+◌, ◌*◌, ◌/◌, ◌≤◌, ◌<◌, length, get_or}
use Rattle.page.specs.Cache.{max_slots}
use Rattle.page.specs.Entry.{ref_max}
use Rattle.page.specs.Record.{all_flags}
use Rattle.page.specs.declared.cache.PageCache.{PageCache}
use Rattle.page.specs.declared.entry.PageCacheEntry.{PageCacheEntry}
use Rattle.page.specs.All.{All}
use Rattle.ring_links.specs.Links.{nexts, prevs}
use Rattle.free_marks.specs.Marks.{bit_at, free_slots}
use Rattle.ring_links.specs.Ring.{Apart, Round, first_of}
use Rattle.pool.specs.Slots.{blank, entries}
use Rattle.sorted_index.specs.Index.{name_at}
use Rattle.sorted_index.specs.Names.{names}
use Rattle.sorted_index.specs.declared.search.By.TheVariants.{Key, Handle}
use Rattle.memory.specs.Memory.{Memory}
use Rattle.memory.specs.Holds.{Lengths}

-- ── lengths and head ─────────────────────────────────────────────────────────
-- there are 1 to 4,096 slots, as many as the index by key has places, and the other parts agree
pub record Agreeing (m : Memory) : Type 0 where
  pub lengths : Lengths m (length m.by_key)
  pub some : 1 ≤ length m.by_key
  pub most : length m.by_key ≤ max_slots

-- the head's numbers are in range for a pool of that size
pub record InRange (head : PageCache) (size : ℕ) : Type 0 where
  pub capacity : head.capacity ≤ size
  pub held : head.held ≤ size
  pub spill : head.spill ≤ 1

-- ── marks ────────────────────────────────────────────────────────────────────
-- there are as many words of marks as the slots need, and at most 4,096 slots
pub record MarksFit (marks : List ℕ) (size : ℕ) : Type 0 where
  pub words : length marks ≡ (size + 63) / 64
  pub most : size ≤ max_slots

-- no mark stands beyond the last slot
pub record Beyond (marks : List ℕ) (size : ℕ) : Type 0 where
  pub clear : (k : ℕ) → size ≤ k → bit_at marks k ≡ 0

-- every slot is free or held
pub record Counted (marks : List ℕ) (size held : ℕ) : Type 0 where
  pub beyond : Beyond marks size
  pub count : free_slots marks + held ≡ size

-- ── slots that may be looked at ──────────────────────────────────────────────
-- the slots below the size have an entry and a mark
pub record SlotsReadable (slots marks : List ℕ) (size : ℕ) : Type 0 where
  pub each_entry : size ≡ length (entries slots)
  pub each_mark : size ≤ 64 * length marks

pub record SlotReadable (slots marks : List ℕ) (s : ℕ) : Type 0 where
  pub entry : s < length (entries slots)
  pub mark : s / 64 < length marks

-- slot s is one of the pool's, and is not marked as free
pub record Taken (marks : List ℕ) (size s : ℕ) : Type 0 where
  pub inside : s < size
  pub held : bit_at marks s ≡ 0

-- ── the ring ─────────────────────────────────────────────────────────────────
-- the links lead from the hand through n different slots, none of them free, and back to the hand
pub record Walked (es : List PageCacheEntry) (marks : List ℕ) (n hand : ℕ) : Type 0 where
  pub seats : List ℕ
  pub long : length seats ≡ n
  pub first : hand ≡ first_of seats
  pub round : Round (nexts es) (prevs es) seats
  pub apart : Apart seats
  pub taken : All (Taken marks (length es)) seats

-- at least one slot is held, and the hand is in range
pub record Walkable (slots marks : List ℕ) (size n hand : ℕ) : Type 0 where
  pub readable : SlotsReadable slots marks size
  pub some : 1 ≤ n
  pub inside : hand < size

-- ── an index ─────────────────────────────────────────────────────────────────
-- the order has a place for each slot, and n of them are to be used
pub record Orderable (order slots marks : List ℕ) (n : ℕ) : Type 0 where
  pub readable : SlotsReadable slots marks (length order)
  pub fits : n ≤ length order

-- the first n places hold slots that are not free, by strictly ascending names
pub record Ordered (col order marks : List ℕ) (n : ℕ) : Type 0 where
  pub taken : (i : ℕ) → i < n → Taken marks (length order) (get_or order i 0)
  pub up : (i : ℕ) → i + 1 < n → name_at col order i < name_at col order (i + 1)

-- the places from n on are zero
abbrev pub Clear : List ℕ → ℕ → Type 0
Clear order n = (i : ℕ) → n ≤ i → i < length order → get_or order i 0 ≡ 0

pub record IndexGood (col order marks : List ℕ) (n : ℕ) : Type 0 where
  pub ordered : Ordered col order marks n
  pub clear : Clear order n

-- ── slots ────────────────────────────────────────────────────────────────────
-- what the entry of a held slot has to be
pub record HeldEntryGood (e : PageCacheEntry) : Type 0 where
  pub uses : e.uses ≤ ref_max
  pub flags : e.page.flags ≤ all_flags
  pub spare : e.spare ≡ 0

-- a held slot has a good entry, and a free one is all zero
pub record SlotGood (mark : ℕ) (e : PageCacheEntry) : Type 0 where
  pub held : mark ≡ 0 → HeldEntryGood e
  pub free : mark ≡ 1 → e ≡ blank

abbrev pub AllSlotsGood : List PageCacheEntry → List ℕ → ℕ → Type 0
AllSlotsGood es marks size = (s : ℕ) → s < size → SlotGood (bit_at marks s) (get_or es s blank)

-- ── all of the test ──────────────────────────────────────────────────────────
pub record Checked (m : Memory) (head : PageCache) : Type 0 where
  pub agreeing : Agreeing m
  pub range : InRange head (length m.by_key)
  pub marks : Counted m.marks (length m.by_key) head.held
  pub ring : Walked (entries m.slots) m.marks head.held head.hand.0
  pub keys : IndexGood (names Key (entries m.slots)) m.by_key m.marks head.held
  pub handles : IndexGood (names Handle (entries m.slots)) m.by_handle m.marks head.held
  pub slots : AllSlotsGood (entries m.slots) m.marks (length m.by_key)
