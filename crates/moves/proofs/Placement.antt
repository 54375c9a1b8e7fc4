-- The memory with a new page. Each part takes the lowest free slot in by a law of its own: the ring opens after the hand, each
-- index lists it at its gap, its mark is cleared, and the head counts it. So the memory holds the row that the page has entered.
use mathlib.Core.Path.{◌≡◌, refl, sym, ap, ◌∙◌, subst}
use mathlib.Core.Bool.{Bool, true, false, cond}
use mathlib.Core.List.{List, [], ◌∷◌}
use mathlib.Core.Logic.{◌≢◌}
use Prim.Native.Nat.{ℕ, suc, ◌/◌, ◌≤◌, ◌<◌, zero-le}
use native.Mathlib.Omega.{arith}
use lib.Dec.{eqb}
use lib.ListN.{length, get_or, length-map}
use borrow.Author.Tests.{eq-eqb, ne_eqb}
use Rattle.page.specs.Cache.{max_slots}
use Rattle.page.specs.Entry.{new_entry}
use Rattle.page.specs.Record.{all_flags}
use Rattle.page.specs.declared.cache.PageCache.{PageCache}
use Rattle.page.specs.declared.entry.PageCacheEntry.{PageCacheEntry}
use Rattle.page.specs.declared.names.PageCacheKey.{PageCacheKey}
use Rattle.page.specs.declared.names.PageHandle.{PageHandle}
use Rattle.page.specs.declared.names.Slot.{Slot}
use Rattle.page.specs.declared.record.PageRecord.{PageRecord}
use Rattle.pool.specs.Slots.{blank, entries}
use Rattle.ring_links.specs.Ring.{Out, first_of}
use Rattle.ring_links.specs.Links.{RingOf, Linkable, linked_first, linked_after}
use Rattle.free_marks.specs.Marks.{MarkedAs, SomeFree, LowestFree}
use Rattle.ring_links.proofs.Columns.{linkable}
use Rattle.sorted_index.specs.Names.{name_of, names}
use Rattle.sorted_index.specs.Index.{Miss, CanInsert}
use Rattle.sorted_index.specs.Listed.{Listed, Fresh, EnlistedAt}
use Rattle.sorted_index.specs.declared.search.By.{By}
use Rattle.sorted_index.specs.declared.search.By.TheVariants.{Key, Handle}
use Rattle.sorted_index.proofs.Listed.{listed_seats}
use Rattle.model.specs.Cache.{Cache, held_in, lowest_free, enter_row, new_page, enter}
use Rattle.model.specs.Row.{Entry, Row}
use Rattle.model.proofs.Numbers.{each_enter}
use Rattle.memory.specs.Memory.{Memory}
use Rattle.memory.specs.Holds.{seen, row_of, Seated, Headed, EntryGood, Holds}
use Rattle.memory.proofs.OnceKept.{holds_held}
use Rattle.memory.proofs.Columns.{Written, written_first, written_after, names_written, bare_here, bare_else, row_else}
use Rattle.memory.proofs.Seats.{new_seats, has_new, seated_first, seated_after}
use Rattle.memory.proofs.Marks.{marked_seats, marked_in, mark_inside, some_free, lowest_inside, lowest_out, lowest_is}
use Rattle.memory.proofs.Standing.{holds_size}
use Rattle.moves.specs.declared.finding.Gaps.{Gaps}
use Rattle.moves.specs.Counting.{counted_in}
use Rattle.moves.specs.Heads.{head_with, seated_at}
use Rattle.moves.specs.Moves.{GapsOf, Seatable}

-- ── a new seat ───────────────────────────────────────────────────────────────
length_new : (s : ℕ) (seats : List ℕ) → length (new_seats s seats) ≡ suc (length seats)
length_new s [] = refl
length_new s (hand ∷ seats) = refl

-- the hand of the ring with it
hand_with : (s : ℕ) (seats : List ℕ) {held hand : ℕ} → held ≡ length seats → hand ≡ first_of seats
    → cond (eqb held 0) s hand ≡ first_of (new_seats s seats)
hand_with s [] {held} q f = rw (eq-eqb held 0 q)
hand_with s (h ∷ seats) {held} q f = rw (ne_eqb held 0 (λ z. omega arith)) f

module _ (es : List PageCacheEntry) (head : PageCache) (s : ℕ) (e : PageCacheEntry) where
  written_at : Written es s e (seated_at es head s e)
  written_at = go (eqb head.held 0)
    where
      go : (first : Bool) → Written es s e (cond first (linked_first es s e) (linked_after es head.hand.0 s e))
      go true = written_first es s e
      go false = written_after es head.hand.0 s e

  seated_at_lem : s < length es → e.spare ≡ 0 → (seats : List ℕ) → Seated es seats → Out s seats → head.held ≡ length seats
      → head.hand.0 ≡ first_of seats → Seated (seated_at es head s e) (new_seats s seats)
  seated_at_lem inside spare [] g out q f = rw (eq-eqb head.held 0 q) (seated_first es s e inside spare g)
  seated_at_lem inside spare (hand ∷ seats) g out q f =
      rw (ne_eqb head.held 0 (λ z. omega arith), f) (seated_after es s e inside spare hand seats out g)

-- the row with the new entry
module _ {es : List PageCacheEntry} {s : ℕ} {e : PageCacheEntry} {es' : List PageCacheEntry}
    (w : Written es s e es') (inside : s < length es) (uses : e.uses ≡ 0) where
  new_entry_lem : seen s (get_or es' s blank) ≡ record { page = (seen s e).page; uses = 0 }
  new_entry_lem = ap {B = Entry} (seen s) (bare_here w inside) ∙ (λ i. record { page = (seen s e).page; uses = uses i })

  row_with : (seats : List ℕ) → Out s seats → enter_row (seen s e).page (row_of es seats) ≡ row_of es' (new_seats s seats)
  unfolding enter_row
  row_with [] out = λ i. sym new_entry_lem i ∷ []
  row_with (hand ∷ seats) out =
      let first : seen hand (get_or es hand blank) ≡ seen hand (get_or es' hand blank) =
      ap {B = Entry} (seen hand) (sym (bare_else w hand (λ q. out.0 (sym q)))) in
      let rest : row_of es seats ≡ row_of es' seats = sym (row_else w seats out.1) in
      λ i. first i ∷ sym new_entry_lem i ∷ rest i

-- ── what the calls leave, one after another ──────────────────────────────────
pub record PutTogether (m : Memory) (head : PageCache) (gaps : Gaps) (key : PageCacheKey) (handle : PageHandle) (page : PageRecord)
    (m' : Memory) (head' : PageCache) : Type 0 where
  pub slot : Slot
  pub estimate : ℕ
  pub entry : PageCacheEntry
  pub slots_kept : length m'.slots ≡ length m.slots
  pub keys_kept : length m'.by_key ≡ length m.by_key
  pub handles_kept : length m'.by_handle ≡ length m.by_handle
  pub lowest : LowestFree m.marks slot.0
  pub taken : MarkedAs 0 m.marks slot.0 m'.marks
  pub by_key : EnlistedAt m.by_key head.held gaps.key slot.0 m'.by_key
  pub by_handle : EnlistedAt m.by_handle head.held gaps.handle slot.0 m'.by_handle
  pub made : entry ≡ new_entry key handle page
  pub seated : entries m'.slots ≡ seated_at (entries m.slots) head slot.0 entry
  pub counted : estimate ≡ counted_in key.0 page head.estimate
  pub head_is : head' ≡ head_with head slot.0 estimate

-- ── a slot to spare ──────────────────────────────────────────────────────────
module _ {m : Memory} {head : PageCache} {c : Cache} (H : Holds m head c) where
  abbrev es : List PageCacheEntry
  es = entries m.slots

  -- ── what the code asks ─────────────────────────────────────────────────────
  module _ (room : held_in c < c.size) where
    pub spare_mark : SomeFree m.marks
    spare_mark = some_free es H.marked H.limits.most H.lengths.marks (omega (arith, holds_held H, H.headed.held))

    pub held_small : head.held < max_slots
    held_small = omega (arith, holds_held H, H.limits.most)

    module _ {gaps : Gaps} {key handle : ℕ} (right : GapsOf m head.held key handle gaps) where
      pub by_key_room : CanInsert m.by_key head.held gaps.key
      by_key_room = record { place = right.of_key.within; room = omega (arith, holds_held H, H.lengths.by_key) }

      pub by_handle_room : CanInsert m.by_handle head.held gaps.handle
      by_handle_room = record { place = right.of_handle.within; room = omega (arith, holds_held H, H.lengths.by_handle) }

  module _ {s : ℕ} (lowest : LowestFree m.marks s) where
    free_inside : s < length es
    free_inside = omega (arith, lowest_inside es H.marked lowest, holds_size H)

    pub free_marked : s / 64 < length m.marks
    free_marked = mark_inside m.marks (lowest_inside es H.marked lowest) H.lengths.marks

    pub free_seatable : Seatable (entries m.slots) head s
    free_seatable = record { slot = free_inside; linkable = go H.seats H.seated.ring H.headed.held H.headed.hand }
      where
        go : (seats : List ℕ) → RingOf es seats → head.held ≡ length seats → head.hand.0 ≡ first_of seats → head.held ≢ 0
            → Linkable es head.hand.0 s
        go [] ring q f some = absurd (some q)
        go (hand ∷ seats) ring q f some = rw f (linkable ring free_inside)

  -- ── what the code leaves ───────────────────────────────────────────────────
  module _ {gaps : Gaps} {key : PageCacheKey} {handle : PageHandle} {page : PageRecord} {m' : Memory} {head' : PageCache}
      (right : GapsOf m head.held key.0 handle.0 gaps) (flags : page.flags ≤ all_flags)
      (t : PutTogether m head gaps key handle page m' head') where
    abbrev s : ℕ
    s = t.slot.0

    abbrev e : PageCacheEntry
    e = new_entry key handle page

    entries_are : entries m'.slots ≡ seated_at es head s e
    entries_are = t.seated ∙ ap {B = List PageCacheEntry} (seated_at es head s) t.made

    w : Written es s e (seated_at es head s e)
    w = written_at es head s e

    inside : s < length es
    inside = free_inside t.lowest

    out : Out s H.seats
    out = lowest_out es H.marked t.lowest

    lowest_row : s ≡ lowest_free c.row
    lowest_row = lowest_is es H.marked t.lowest ∙ ap lowest_free (sym H.row)

    listed_in : (by : By) {order order' : List ℕ} {gap : ℕ} → Listed (names by es) order H.seats
        → Miss (names by es) order head.held (name_of by e) gap → EnlistedAt order head.held gap s order'
        → Listed (names by (entries m'.slots)) order' (new_seats s H.seats)
    listed_in by listed miss enlisted =
        let fresh : Fresh (names by es) H.seats s = record { inside = simp length-map inside; out = out } in
        rw (entries_are, names_written w by)
        (listed_seats (enlisted _ H.seats _ listed (sym H.headed.held) fresh miss) (length_new s H.seats) (λ k. has_new k s H.seats))

    pub placed : Holds m' head' (enter (new_page key.0 handle.0 page c) c)
    placed = record {
      seats = new_seats s H.seats;
      lengths = record {
        slots = t.slots_kept ∙ H.lengths.slots;
        by_key = t.keys_kept ∙ H.lengths.by_key;
        by_handle = t.handles_kept ∙ H.lengths.by_handle;
        marks = t.taken.long ∙ H.lengths.marks;
      };
      seated = rw entries_are (seated_at_lem es head s e inside refl H.seats H.seated out H.headed.held H.headed.hand);
      row =
          rw entries_are
          (ap {B = Row} (λ (k : ℕ). enter_row (seen k e).page c.row) (sym lowest_row) ∙ ap {B = Row} (enter_row (seen s e).page) H.row
          ∙ row_with w inside refl H.seats out);
      keys = listed_in Key H.keys right.of_key t.by_key;
      handles = listed_in Handle H.handles right.of_handle t.by_handle;
      marked = marked_seats (marked_in (lowest_inside es H.marked t.lowest) H.marked t.taken) (λ k. has_new k s H.seats);
      headed = subst (λ (h : PageCache). Headed h (enter (new_page key.0 handle.0 page c) c) (new_seats s H.seats))
          (sym t.head_is) (record {
            held = omega (arith, H.headed.held, length_new s H.seats);
            hand = hand_with s H.seats H.headed.held H.headed.hand;
            capacity = H.headed.capacity;
            spill = H.headed.spill;
            estimate = rw (← H.headed.estimate) t.counted;
          });
      limits = record {
        some = H.limits.some;
        most = H.limits.most;
        capacity = H.limits.capacity;
        good = each_enter EntryGood (new_page key.0 handle.0 page c) c.row (record { flags = flags; uses = zero-le }) H.limits.good;
      };
    }
