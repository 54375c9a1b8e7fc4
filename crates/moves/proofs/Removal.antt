-- The memory without a page. Each part leaves the page's slot out by a law of its own: the ring closes over it, each index no
-- longer lists it, its mark is set, and the head forgets it. So the memory holds the row without that entry.
use mathlib.Core.Path.{◌≡◌, refl, sym, ap, ◌∙◌, subst}
use mathlib.Core.Bool.{cond}
use mathlib.Core.List.{List, [], ◌∷◌, ◌++◌}
use mathlib.Core.Logic.{◌≢◌}
use Prim.Native.Nat.{ℕ, ◌/◌, ◌≤◌, ◌<◌}
use native.Mathlib.Omega.{arith}
use lib.Dec.{eqb}
use lib.ListN.{length, get_or, length-append}
use borrow.Author.Tests.{eq-eqb, ne_eqb}
use Rattle.page.specs.declared.cache.PageCache.{PageCache}
use Rattle.page.specs.declared.entry.PageCacheEntry.{PageCacheEntry}
use Rattle.page.specs.declared.names.Slot.{Slot}
use Rattle.pool.specs.Slots.{blank, entries}
use Rattle.ring_links.specs.Ring.{Out, Apart, first_of}
use Rattle.ring_links.specs.Links.{Unlinkable, Unlinked}
use Rattle.free_marks.specs.Marks.{MarkedAs}
use Rattle.ring_links.proofs.Rings as rings
use Rattle.ring_links.proofs.Columns.{next_at_lem, unlinkable}
use Rattle.sorted_index.specs.Names.{name_of, names}
use Rattle.sorted_index.specs.Listed.{Listed, Unlisted}
use Rattle.sorted_index.specs.declared.search.By.{By}
use Rattle.sorted_index.specs.declared.search.By.TheVariants.{Key, Handle}
use Rattle.sorted_index.proofs.Names.{name_read}
use Rattle.sorted_index.proofs.Listed.{listed_unlinked}
use Rattle.model.specs.Cache.{Cache, leave}
use Rattle.model.specs.Row.{Entry, Row, without}
use Rattle.memory.specs.Memory.{Memory}
use Rattle.memory.specs.Holds.{Seated, Marked, EntryGood, Holds}
use Rattle.memory.proofs.Columns.{written_unlinked, row_else}
use Rattle.memory.proofs.Seats.{seated_unlinked}
use Rattle.memory.proofs.Marks.{marked_out, mark_inside}
use Rattle.memory.proofs.Standing.{Standing, standing_front, each_without, holds_size, holds_standing, found_inside, found_seated, found_held, found_alone}
use Rattle.moves.specs.Counting.{counted_out}
use Rattle.moves.specs.Heads.{head_without}
use Rattle.moves.specs.Moves.{StandsAt}

-- ── the hand ─────────────────────────────────────────────────────────────────
not_first : (t s : ℕ) (front back : List ℕ) → Out t (front ++ s ∷ back) → t ≡ s → ⊥
not_first t s [] back out q = out.0 q
not_first t s (x ∷ front) back out q = not_first t s front back out.1 q

-- it stays, moves on to the slot after, or is none
hand_without : (s : ℕ) (front back : List ℕ) {held hand after : ℕ} → held ≡ length (front ++ s ∷ back) → hand ≡ first_of (front ++ s ∷ back)
    → after ≡ first_of ((back ++ front) ++ s ∷ []) → Apart (front ++ s ∷ back)
    → cond (eqb held 1) 0 (cond (eqb hand s) after hand) ≡ first_of (front ++ back)
hand_without s [] [] {held} q f n apart = rw (eq-eqb held 1 q)
hand_without s [] (x ∷ back) {held} {hand} q f n apart = rw (ne_eqb held 1 (λ e. omega arith), eq-eqb hand s f) n
hand_without s (t ∷ front) back {held} {hand} q f n apart =
    let others : held ≢ 1 = λ e. omega (arith, length-append front (s ∷ back)) in
    let elsewhere : hand ≢ s = λ e. not_first t s front back apart.0 (sym f ∙ e) in
    rw (ne_eqb held 1 others, ne_eqb hand s elsewhere) f

-- ── what the calls leave, one after another ──────────────────────────────────
pub record TakenApart (m : Memory) (head : PageCache) (s : ℕ) (m' : Memory) (head' : PageCache) : Type 0 where
  pub stored : PageCacheEntry
  pub after : Slot
  pub estimate : ℕ
  pub slots_kept : length m'.slots ≡ length m.slots
  pub keys_kept : length m'.by_key ≡ length m.by_key
  pub handles_kept : length m'.by_handle ≡ length m.by_handle
  pub loaded : stored ≡ get_or (entries m.slots) s blank
  pub by_key : Unlisted (names Key (entries m.slots)) m.by_key head.held stored.key.0 m'.by_key
  pub by_handle : Unlisted (names Handle (entries m.slots)) m.by_handle head.held stored.handle.0 m'.by_handle
  pub unlinked : Unlinked (entries m.slots) s (entries m'.slots) after
  pub freed : MarkedAs 1 m.marks s m'.marks
  pub counted : estimate ≡ counted_out stored.key.0 stored.page head.estimate
  pub head_is : head' ≡ head_without head s after.0 estimate

-- ── the page at slot s ───────────────────────────────────────────────────────
module _ {m : Memory} {head : PageCache} {c : Cache} {key s : ℕ} {e : Entry} (H : Holds m head c) (at : StandsAt c.row key s e) where
  abbrev es : List PageCacheEntry
  es = entries m.slots

  abbrev k : Standing es H.seats c.row key s e
  k = holds_standing H key at.found at.slot

  g : Seated es (k.front ++ s ∷ k.back)
  g = found_seated H key at.found at.slot

  held : head.held ≡ length (k.front ++ s ∷ k.back)
  held = found_held H key at.found at.slot

  -- ── what the code asks ─────────────────────────────────────────────────────
  pub slot_inside : s < length (entries m.slots)
  slot_inside = found_inside H key at.found at.slot

  pub slot_unlinkable : Unlinkable (entries m.slots) s
  slot_unlinkable = unlinkable k.front k.back g.ring

  slot_size : s < c.size
  slot_size = omega (arith, slot_inside, holds_size H)

  pub slot_marked : s / 64 < length m.marks
  slot_marked = mark_inside m.marks slot_size H.lengths.marks

  pub some_held : 1 ≤ head.held
  some_held = omega (arith, held, length-append k.front (s ∷ k.back))

  -- ── what the code leaves ───────────────────────────────────────────────────
  gone : Out s (k.front ++ k.back)
  gone = found_alone H key at.found at.slot

  module _ {m' : Memory} {head' : PageCache} (t : TakenApart m head s m' head') where
    listed_out : (by : By) {order order' : List ℕ} → Listed (names by es) order H.seats
        → Unlisted (names by es) order head.held (name_of by t.stored) order'
        → Listed (names by (entries m'.slots)) order' (k.front ++ k.back)
    listed_out by {order} listed out =
        let seats : Listed (names by es) order (k.front ++ s ∷ k.back) = subst (Listed (names by es) order) k.seats_are listed in
        let named : get_or (names by es) s 0 ≡ name_of by t.stored = sym (name_read es s {by = by} refl t.loaded) in
        rw t.unlinked.out (listed_unlinked by es s (out k.front s k.back seats g.ring.apart (sym held) named) gone)

    after_is : t.after.0 ≡ first_of ((k.back ++ k.front) ++ s ∷ [])
    after_is =
        t.unlinked.after ∙ sym (next_at_lem es s)
        ∙ sym (ap first_of (rings.turn_to (k.back ++ k.front) (standing_front k H.seated.ring)).parts)

    pub removed : Holds m' head' (leave e.page c)
    removed = record {
      seats = k.front ++ k.back;
      lengths = record {
        slots = t.slots_kept ∙ H.lengths.slots;
        by_key = t.keys_kept ∙ H.lengths.by_key;
        by_handle = t.handles_kept ∙ H.lengths.by_handle;
        marks = t.freed.long ∙ H.lengths.marks;
      };
      seated = rw t.unlinked.out (seated_unlinked es s k.front k.back slot_inside g);
      row =
          rw t.unlinked.out
          (ap {B = Row} (λ (x : ℕ). without x c.row) k.key_is ∙ k.without_is
          ∙ sym (row_else (written_unlinked es s) (k.front ++ k.back) gone));
      keys = listed_out Key H.keys t.by_key;
      handles = listed_out Handle H.handles t.by_handle;
      marked = marked_out slot_size k.front k.back (subst (Marked m.marks c.size) k.seats_are H.marked) gone t.freed;
      headed = rw t.head_is (record {
        held = omega (arith, held, length-append k.front (s ∷ k.back), length-append k.front k.back);
        hand = hand_without s k.front k.back held (H.headed.hand ∙ ap first_of k.seats_are) after_is g.ring.apart;
        capacity = H.headed.capacity;
        spill = H.headed.spill;
        estimate = rw (k.entry_is, ← t.loaded, ← H.headed.estimate) t.counted;
      });
      limits = record {
        some = H.limits.some;
        most = H.limits.most;
        capacity = H.limits.capacity;
        good = rw k.key_is (each_without EntryGood key c.row e at.found H.limits.good);
      };
    }
