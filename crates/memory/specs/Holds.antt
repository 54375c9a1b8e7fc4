-- What it means that the lent memory holds a cache, and that it is sound (01, "Memory, pages and numbers").
use Rattle.std.specs.Prelude.{◌≡◌, cond, List, map, ℕ, ◌+◌, ◌*◌, ◌/◌, ◌≤◌, ◌<◌, length, get_or}
use Rattle.page.specs.Cache.{max_slots}
use Rattle.page.specs.Entry.{ref_max}
use Rattle.page.specs.Record.{all_flags}
use Rattle.page.specs.declared.cache.PageCache.{PageCache}
use Rattle.page.specs.declared.entry.PageCacheEntry.{PageCacheEntry}
use Rattle.ring_links.specs.Links.{RingOf}
use Rattle.free_marks.specs.Marks.{bit_at}
use Rattle.ring_links.specs.Ring.{has, Out, first_of}
use Rattle.pool.specs.Slots.{blank, entries}
use Rattle.sorted_index.specs.Listed.{Listed}
use Rattle.sorted_index.specs.Names.{names}
use Rattle.sorted_index.specs.declared.search.By.TheVariants.{Key, Handle}
use Rattle.model.specs.Cache.{Cache}
use Rattle.model.specs.Row.{Entry, Row, Each}
use Rattle.memory.specs.Memory.{Memory}

-- lent parts have agreeing lengths, for S slots
pub record Lengths (m : Memory) (size : ℕ) : Type 0 where
  pub slots : length m.slots ≡ 4 * size
  pub by_key : length m.by_key ≡ size
  pub by_handle : length m.by_handle ≡ size
  pub marks : length m.marks ≡ (size + 63) / 64

-- the seats, held slots in sweep order from the hand, form one ring; a free slot is all zero; no slot has a spare byte set
pub record Seated (es : List PageCacheEntry) (seats : List ℕ) : Type 0 where
  pub ring : RingOf es seats
  pub vacant : (k : ℕ) → Out k seats → get_or es k blank ≡ blank
  pub spare : (k : ℕ) → (get_or es k blank).spare ≡ 0

-- the model's entry for the one that stands at slot s
abbrev pub seen : ℕ → PageCacheEntry → Entry
seen s e = record { page = record { slot = s; key = e.key.0; handle = e.handle.0; state = e.page }; uses = e.uses }

abbrev pub row_of : List PageCacheEntry → List ℕ → Row
row_of es seats = map (λ s. seen s (get_or es s blank)) seats

-- marks name exactly the free slots; unused bits are 0
pub record Marked (marks : List ℕ) (size : ℕ) (seats : List ℕ) : Type 0 where
  pub inside : (k : ℕ) → k < size → bit_at marks k ≡ cond (has k seats) 0 1
  pub beyond : (k : ℕ) → size ≤ k → bit_at marks k ≡ 0

-- held is the ring's length; the hand is in the ring, or is none, and then 0; the spill switch is 0 or 1
pub record Headed (head : PageCache) (c : Cache) (seats : List ℕ) : Type 0 where
  pub held : head.held ≡ length seats
  pub hand : head.hand.0 ≡ first_of seats
  pub capacity : head.capacity ≡ c.capacity
  pub spill : head.spill ≡ cond c.spill 1 0
  pub estimate : head.estimate ≡ c.estimate

-- a page record is good, and a use count is 0 to 3
pub record EntryGood (e : Entry) : Type 0 where
  pub flags : e.page.state.flags ≤ all_flags
  pub uses : e.uses ≤ ref_max

-- a pool has 1 to 4,096 slots, and capacity is 0 to S
pub record Limits (c : Cache) : Type 0 where
  pub some : 1 ≤ c.size
  pub most : c.size ≤ max_slots
  pub capacity : c.capacity ≤ c.size
  pub good : Each EntryGood c.row

-- the memory and the head hold the cache
pub record Holds (m : Memory) (head : PageCache) (c : Cache) : Type 0 where
  pub seats : List ℕ
  pub lengths : Lengths m c.size
  pub seated : Seated (entries m.slots) seats
  pub row : c.row ≡ row_of (entries m.slots) seats
  pub keys : Listed (names Key (entries m.slots)) m.by_key seats
  pub handles : Listed (names Handle (entries m.slots)) m.by_handle seats
  pub marked : Marked m.marks c.size seats
  pub headed : Headed head c seats
  pub limits : Limits c

-- memory is sound if it holds some cache
pub record Sound (m : Memory) (head : PageCache) : Type 0 where
  pub cache : Cache
  pub holds : Holds m head cache
