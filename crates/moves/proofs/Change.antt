-- The memory with a page changed in its place. A store that keeps the slot's links keeps the ring, and one that keeps a name
-- keeps the index by it: so the memory holds the row with that entry changed.
use mathlib.Core.Path.{◌≡◌, refl, sym, ap, ◌∙◌}
use mathlib.Core.Bool.{false}
use mathlib.Core.List.{List, ◌∷◌, ◌++◌}
use mathlib.Core.Option.{some}
use Prim.Native.Nat.{ℕ, ◌+◌, ◌≤◌, ◌<◌}
use native.Mathlib.Nat.{min-le_left}
use lib.ListN.{length, get_or, set}
use Rattle.page.specs.Entry.{ref_max, with_uses, raised}
use Rattle.page.specs.Record.{all_flags}
use Rattle.page.specs.declared.cache.PageCache.{PageCache}
use Rattle.page.specs.declared.entry.PageCacheEntry.{PageCacheEntry}
use Rattle.page.specs.declared.names.PageCacheKey.{PageCacheKey}
use Rattle.page.specs.declared.names.PageHandle.{PageHandle}
use Rattle.page.specs.declared.record.PageRecord.{PageRecord}
use Rattle.pool.specs.Slots.{blank, entries}
use Rattle.sorted_index.specs.Names.{names}
use Rattle.sorted_index.specs.Listed.{Listed}
use Rattle.sorted_index.specs.declared.search.By.TheVariants.{Key, Handle}
use Rattle.sorted_index.proofs.Listed.{listed_kept}
use Rattle.model.specs.Cache.{Cache, with_row, with_estimate, touch, rewritten, rewrite}
use Rattle.model.specs.Row.{Entry, Row, Each, find, change}
use Rattle.model.specs.Sweep.{touched}
use Rattle.model.specs.Tests.{under_other}
use Rattle.model.proofs.ByKey.{find_stands, stands_changed, stands_find}
use Rattle.memory.specs.Memory.{Memory, memory_of}
use Rattle.memory.specs.Holds.{seen, row_of, Seated, EntryGood, Holds}
use Rattle.memory.proofs.Columns.{written_store, bare_here, row_else, row_append}
use Rattle.memory.proofs.Seats.{seated_store, out_parts}
use Rattle.memory.proofs.Standing.{Standing, standing_has, each_found, each_change, holds_standing, found_inside, found_alone, found_good}
use Rattle.moves.specs.Moves.{StandsAt}
use Rattle.moves.proofs.Search.{Fits, under_each, each_under}

-- an entry was stored at slot s
pub record Stored (slots : List ℕ) (s : ℕ) (x : PageCacheEntry) (slots' : List ℕ) : Type 0 where
  pub long : length slots' ≡ length slots
  pub written : entries slots' ≡ set (entries slots) s x

-- the entry with another record
abbrev with_page : PageCacheEntry → PageRecord → PageCacheEntry
with_page e page = record {
  key = e.key;
  handle = e.handle;
  page = page;
  uses = e.uses;
  spare = e.spare;
  next = e.next;
  prev = e.prev;
}

-- the head with another estimate
abbrev pub head_counting : PageCache → ℕ → PageCache
head_counting head estimate = record {
  capacity = head.capacity;
  held = head.held;
  hand = head.hand;
  spill = head.spill;
  estimate = estimate;
}

-- x stands where `old` stood: between the same neighbours, under the same key
pub record InPlace (old x : PageCacheEntry) : Type 0 where
  pub next : x.next ≡ old.next
  pub prev : x.prev ≡ old.prev
  pub spare : x.spare ≡ old.spare
  pub key : x.key ≡ old.key

-- ── the slots ────────────────────────────────────────────────────────────────
module _ {m : Memory} {head : PageCache} {c : Cache} {key s : ℕ} {e : Entry} (H : Holds m head c) (at : StandsAt c.row key s e) where
  abbrev es : List PageCacheEntry
  es = entries m.slots

  abbrev k : Standing es H.seats c.row key s e
  k = holds_standing H key at.found at.slot

  inside : s < length es
  inside = found_inside H key at.found at.slot

  module _ {x : PageCacheEntry} {slots' : List ℕ} (st : Stored m.slots s x slots') (p : InPlace (get_or (entries m.slots) s blank) x) where
    seated_changed : Seated (entries slots') H.seats
    seated_changed =
        rw st.written
        (seated_store es s x inside (standing_has k) p.next p.prev (p.spare ∙ H.seated.spare s) H.seated)

    keys_changed : Listed (names Key (entries slots')) m.by_key H.seats
    keys_changed = rw st.written (listed_kept Key es s H.keys x (ap (λ (y : PageCacheKey). y.0) p.key))

    row_changed : (f : Entry → Entry) → f e ≡ seen s x → change key f c.row ≡ row_of (entries slots') H.seats
    row_changed f now =
        let w = written_store es s x in
        let parts = out_parts s k.front k.back (found_alone H key at.found at.slot) in
        let here : seen s (get_or (set es s x) s blank) ≡ f e = ap {B = Entry} (seen s) (bare_here w inside) ∙ sym now in
        let front : row_of (set es s x) k.front ≡ row_of es k.front = row_else w k.front parts.0 in
        let back : row_of (set es s x) k.back ≡ row_of es k.back = row_else w k.back parts.1 in
        let parted : row_of (entries slots') H.seats ≡ row_of (set es s x) (k.front ++ s ∷ k.back) = λ i. row_of (st.written i) (k.seats_are i) in
        k.change_is f ∙ sym (parted ∙ row_append (set es s x) k.front (s ∷ k.back) ∙ (λ i. front i ++ here i ∷ back i))

    -- the head but for its estimate, the marks and the index by key stay; the index by handle is any that lists the seats by the new handles
    pub changed : {head' : PageCache} {by_handle' : List ℕ} (f : Entry → Entry) (n : ℕ) → f e ≡ seen s x → EntryGood (f e) → head' ≡ head_counting head n
        → length by_handle' ≡ length m.by_handle → Listed (names Handle (entries slots')) by_handle' H.seats
        → Holds (memory_of slots' m.by_key by_handle' m.marks) head' (with_estimate n (with_row (change key f c.row) c))
    changed f n now good head_is long handles = record {
      seats = H.seats;
      lengths = record {
        slots = st.long ∙ H.lengths.slots;
        by_key = H.lengths.by_key;
        by_handle = long ∙ H.lengths.by_handle;
        marks = H.lengths.marks;
      };
      seated = seated_changed;
      row = row_changed f now;
      keys = keys_changed;
      handles = handles;
      marked = H.marked;
      headed = rw head_is (record {
        held = H.headed.held;
        hand = H.headed.hand;
        capacity = H.headed.capacity;
        spill = H.headed.spill;
        estimate = refl;
      });
      limits = record {
        some = H.limits.some;
        most = H.limits.most;
        capacity = H.limits.capacity;
        good = each_change EntryGood key c.row e f at.found good H.limits.good;
      };
    }

    -- and with the same handle it stays too
    changed_alone : (f : Entry → Entry) → f e ≡ seen s x → EntryGood (f e) → x.handle ≡ (get_or (entries m.slots) s blank).handle
        → Holds (memory_of slots' m.by_key m.by_handle m.marks) head (with_row (change key f c.row) c)
    changed_alone f now good same =
        changed f c.estimate now good (λ i. head_counting head (H.headed.estimate i)) refl
        (rw st.written (listed_kept Handle es s H.handles x (ap (λ (y : PageHandle). y.0) same)))

-- ── a touch and a rewriting ──────────────────────────────────────────────────
module _ {slots by_key by_handle marks : List ℕ} {head : PageCache} {c : Cache} {key s : ℕ} {e : Entry}
    (H : Holds (memory_of slots by_key by_handle marks) head c) (at : StandsAt c.row key s e) where
  entry_is : e ≡ seen s (get_or (entries slots) s blank)
  entry_is = (holds_standing H key at.found at.slot).entry_is

  good_e : EntryGood e
  good_e = found_good H key at.found at.slot

  pub touched_at : {slots' : List ℕ} → Stored slots s (with_uses (get_or (entries slots) s blank) (raised (get_or (entries slots) s blank).uses)) slots'
      → Holds (memory_of slots' by_key by_handle marks) head (touch key c)
  touched_at st =
      changed_alone H at st (record { next = refl; prev = refl; spare = refl; key = refl }) touched (ap {B = Entry} touched entry_is)
      (record { flags = good_e.flags; uses = min-le_left ref_max (e.uses + 1) }) refl

  pub rewritten_at : {slots' : List ℕ} {page : PageRecord} → page.flags ≤ all_flags
      → Stored slots s (with_page (get_or (entries slots) s blank) page) slots'
      → Holds (memory_of slots' by_key by_handle marks) head (rewrite key page c)
  rewritten_at {page = page} flags st =
      changed_alone H at st (record { next = refl; prev = refl; spare = refl; key = refl }) (rewritten page) (ap {B = Entry} (rewritten page) entry_is)
      (record { flags = flags; uses = good_e.uses }) refl

-- ── one change after another ─────────────────────────────────────────────────
-- an entry that keeps its key and its slot stands where it stood
stands_still : {row : Row} {key s : ℕ} {e : Entry} → StandsAt row key s e → (f : Entry → Entry) → (f e).page.key ≡ e.page.key
    → (f e).page.slot ≡ e.page.slot → StandsAt (change key f row) key s (f e)
stands_still {row} {key} {s} {e} at f same_key same_slot =
    let there = find_stands key row e at.found in
    record {
      found = stands_find key (change key f row) (f e) (stands_changed key row e there f (same_key ∙ there.named));
      slot = same_slot ∙ at.slot;
    }

pub stands_touched : {row : Row} {key s : ℕ} {e : Entry} → StandsAt row key s e → StandsAt (change key touched row) key s (touched e)
stands_touched at = stands_still at touched refl refl

pub stands_rewritten : {row : Row} {key s : ℕ} {e : Entry} (state : PageRecord) → StandsAt row key s e
    → StandsAt (change key (rewritten state) row) key s (rewritten state e)
stands_rewritten state at = stands_still at (rewritten state) refl refl

-- and a touch leaves its handle where it stood
pub free_touched : (key handle : ℕ) (row : Row) (e : Entry) → find key row ≡ some e → under_other key handle row ≡ false
    → under_other key handle (change key touched row) ≡ false
free_touched key handle row e found free =
    let all : Each (Fits key handle) row = under_each key handle row free in
    let one : Fits key handle e = each_found (Fits key handle) key row e found all in
    each_under key handle (change key touched row) (each_change (Fits key handle) key row e touched found one all)
