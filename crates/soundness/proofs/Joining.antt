-- The passes together say exactly that the memory is sound. The ring and each index have `held` different unmarked slots, and no
-- more slots are unmarked: so each of the three has exactly the unmarked slots. The other way round, memory that holds a cache
-- passes each of them.
use mathlib.Core.Path.{◌≡◌, refl, sym, ap, ◌∙◌, subst}
use mathlib.Core.Bool.{Bool, true, false, cond, true≢false}
use mathlib.Core.Logic.{⊎_elim}
use mathlib.Core.List.{List, [], ◌∷◌}
use Prim.Native.Nat.{ℕ, zero, suc, ◌+◌, ◌≤◌, ◌<◌}
use native.Mathlib.Omega.{arith}
use lib.Dec.{eqb}
use lib.ListN.{length, get_or, take, length-map, get_or-eq_default}
use lib.Seq.{get_or-take, length-take-le}
use borrow.Author.Tests.{eq-eqb, eqb-true, eqb-false}
use Rattle.page.specs.declared.cache.PageCache.{PageCache}
use Rattle.page.specs.declared.entry.PageCacheEntry.{PageCacheEntry}
use Rattle.page.specs.All.{All}
use Rattle.page.proofs.Each.{each_weaken}
use Rattle.free_marks.specs.Marks.{bit_at}
use Rattle.free_marks.proofs.Marking.{bit_one}
use Rattle.ring_links.specs.Ring.{has, Out, Apart, Below}
use Rattle.pool.specs.Slots.{blank, entries}
use Rattle.pool.specs.Decides.{Decides}
use Rattle.ring_links.proofs.Columns.{next_at_lem, prev_at_lem}
use Rattle.pool.proofs.Packing.{entries_whole}
use Rattle.pool.proofs.Decides.{decides_as}
use Rattle.sorted_index.specs.Index.{Index}
use Rattle.sorted_index.specs.Listed.{Listed}
use Rattle.sorted_index.specs.Names.{names, name_of}
use Rattle.sorted_index.specs.declared.search.By.{By}
use Rattle.sorted_index.specs.declared.search.By.TheVariants.{Key, Handle}
use Rattle.sorted_index.proofs.Lists.{all_of}
use Rattle.sorted_index.proofs.Membership.{has_out, out_has, has_skip}
use Rattle.sorted_index.proofs.Ascending.{ascending, asc_apart, index_places, index_clear}
use Rattle.sorted_index.proofs.Listed.{listed_index, place_seat}
use Rattle.model.specs.Cache.{Cache}
use Rattle.model.specs.Row.{Each}
use Rattle.memory.specs.Memory.{Memory}
use Rattle.memory.specs.Holds.{Lengths, Seated, row_of, Marked, EntryGood, Holds, Sound}
use Rattle.memory.proofs.Rows.{each_seat, seat_each}
use Rattle.memory.proofs.Seats.{blank_spare}
use Rattle.memory.proofs.Standing.{holds_size}
use Rattle.soundness.specs.Checks.{Agreeing, InRange, MarksFit, Beyond, Counted, SlotsReadable, Taken, Walked, Orderable, IndexGood, HeldEntryGood, AllSlotsGood, Checked}
use Rattle.soundness.proofs.Passes.{lt_or_le}
use Rattle.soundness.proofs.Counting.{count_below, all_has, has_all, covers, as_many}
use Rattle.soundness.proofs.Tally.{unmarked, unmarked_rest}

-- ── rows of slots ────────────────────────────────────────────────────────────
-- a list of slots below the size has none from the size on
has_below : (size : ℕ) (l : List ℕ) → Below size l → (k : ℕ) → size ≤ k → has k l ≡ false
has_below size [] g k h = refl
has_below size (a ∷ l) g k h = has_skip k a l (λ e. omega (arith, g.0)) ∙ has_below size l g.1 k h

blank_next : blank.next.0 ≡ 0
unfolding blank
blank_next = refl

blank_prev : blank.prev.0 ≡ 0
unfolding blank
blank_prev = refl

-- a number that is 0 or 1, as a switch
switched : (n : ℕ) → n ≤ 1 → n ≡ cond (eqb n 1) 1 0
switched zero h = refl
switched (suc n) h = let q : suc n ≡ 1 = omega arith in rw q

switch_limit : (b : Bool) → cond b 1 0 ≤ 1
switch_limit true = omega arith
switch_limit false = omega arith

-- ── all passes say yes: the memory is sound ──────────────────────────────────
module _ (m : Memory) (head : PageCache) (ch : Checked m head) where
  abbrev es : List PageCacheEntry
  es = entries m.slots

  abbrev size : ℕ
  size = length m.by_key

  abbrev seats : List ℕ
  seats = ch.ring.seats

  es_long : length es ≡ size
  es_long = entries_whole size m.slots ch.agreeing.lengths.slots

  -- `held` different unmarked slots are all the unmarked ones
  all_unmarked : (l : List ℕ) → Apart l → All (Taken m.marks size) l → length l ≡ head.held → (k : ℕ) → k < size → has k l ≡ unmarked m.marks k
  all_unmarked l d g e =
      covers l (unmarked m.marks) size d (each_weaken _ _ (λ k t. (t.inside, eq-eqb (bit_at m.marks k) 0 t.held)) l g)
      (omega (arith, e, ch.marks.count, unmarked_rest ch.marks.beyond ch.agreeing.lengths.marks))

  seats_taken : All (Taken m.marks size) seats
  seats_taken = subst (λ (s : ℕ). All (Taken m.marks s) seats) es_long ch.ring.taken

  seats_below : Below size seats
  seats_below = each_weaken _ _ (λ k t. t.inside) seats seats_taken

  seats_unmarked : (k : ℕ) → k < size → has k seats ≡ unmarked m.marks k
  seats_unmarked = all_unmarked seats ch.ring.apart seats_taken ch.ring.long

  vacant : (k : ℕ) → Out k seats → get_or es k blank ≡ blank
  vacant k o = ⊎_elim
      (λ (l : k < size). (ch.slots k l).free (bit_one m.marks k (λ z. true≢false (sym (eq-eqb (bit_at m.marks k) 0 z) ∙ sym (seats_unmarked k l) ∙ has_out k seats o))))
      (λ (l : size ≤ k). get_or-eq_default es blank (omega (arith, es_long)))
      (lt_or_le k size)

  filled : (k : ℕ) → has k seats ≡ true → HeldEntryGood (get_or es k blank)
  filled k e = let t = all_has (Taken m.marks size) seats seats_taken k e in (ch.slots k t.inside).held t.held

  spare : (k : ℕ) → (get_or es k blank).spare ≡ 0
  spare k = go (has k seats) refl
    where
      go : (b : Bool) → has k seats ≡ b → (get_or es k blank).spare ≡ 0
      go true e = (filled k e).spare
      go false e = ap (λ (x : PageCacheEntry). x.spare) (vacant k (out_has k seats e)) ∙ blank_spare

  seated : Seated es seats
  seated = record {
    ring = record {
      same = length-map es (λ (e : PageCacheEntry). e.prev.0) ∙ sym (length-map es (λ (e : PageCacheEntry). e.next.0));
      apart = ch.ring.apart;
      inside = subst (λ (s : ℕ). Below s seats) (sym (length-map es (λ (e : PageCacheEntry). e.next.0) ∙ es_long)) seats_below;
      round = ch.ring.round;
      free_next = λ k o. next_at_lem es k ∙ ap (λ (x : PageCacheEntry). x.next.0) (vacant k o) ∙ blank_next;
      free_prev = λ k o. prev_at_lem es k ∙ ap (λ (x : PageCacheEntry). x.prev.0) (vacant k o) ∙ blank_prev;
    };
    vacant = vacant;
    spare = spare;
  }

  module _ (by : By) (order : List ℕ) (long : length order ≡ size) (g : IndexGood (names by es) order m.marks head.held) where
    abbrev used : List ℕ
    used = take head.held order

    used_long : length used ≡ head.held
    used_long = length-take-le head.held order (omega (arith, ch.range.held))

    place_taken : (i : ℕ) → i < head.held → Taken m.marks size (get_or order i 0)
    place_taken i h = subst (λ (s : ℕ). Taken m.marks s (get_or order i 0)) long (g.ordered.taken i h)

    used_taken : All (Taken m.marks size) used
    used_taken = all_of (Taken m.marks size) used
        (λ i h. let l : i < head.held = omega (arith, used_long) in subst (Taken m.marks size) (sym (get_or-take head.held order i 0 l)) (place_taken i l))

    index : Index (names by es) order head.held
    index = index_places (names by es) order head.held (omega (arith, ch.range.held))
        (λ i h. omega (arith, (place_taken i h).inside, length-map es (name_of by), es_long)) g.ordered.up g.clear

    same : (k : ℕ) → has k used ≡ has k seats
    same k = ⊎_elim
        (λ (l : k < size). all_unmarked used (asc_apart (names by es) used index.asc) used_taken used_long k l ∙ sym (seats_unmarked k l))
        (λ (l : size ≤ k). has_below size used (each_weaken _ _ (λ k t. t.inside) used used_taken) k l ∙ sym (has_below size seats seats_below k l))
        (lt_or_le k size)

    listed : Listed (names by es) order seats
    listed = record {
      index = subst (λ (n : ℕ). Index (names by es) order n) (sym ch.ring.long) index;
      same = subst (λ (n : ℕ). (k : ℕ) → has k (take n order) ≡ has k seats) (sym ch.ring.long) same;
    }

  marked : Marked m.marks size seats
  marked = record { inside = λ k l. go k (has k seats) (sym (seats_unmarked k l)); beyond = ch.marks.beyond.clear }
    where
      go : (k : ℕ) (b : Bool) → unmarked m.marks k ≡ b → bit_at m.marks k ≡ cond b 0 1
      go k true e = eqb-true _ _ e
      go k false e = bit_one m.marks k (eqb-false _ _ e)

  holding : Cache
  holding = record { size = size; capacity = head.capacity; spill = eqb head.spill 1; estimate = head.estimate; row = row_of es seats }

  holds : Holds m head holding
  unfolding holding
  holds = record {
    seats = seats;
    lengths = ch.agreeing.lengths;
    seated = seated;
    row = refl;
    keys = listed Key m.by_key refl ch.keys;
    handles = listed Handle m.by_handle ch.agreeing.lengths.by_handle ch.handles;
    marked = marked;
    headed = record { held = sym ch.ring.long; hand = ch.ring.first; capacity = refl; spill = switched head.spill ch.range.spill; estimate = refl };
    limits = record {
      some = ch.agreeing.some;
      most = ch.agreeing.most;
      capacity = ch.range.capacity;
      good = seat_each EntryGood es seats (λ k h. record { flags = (filled k h).flags; uses = (filled k h).uses });
    };
  }

  checked_sound : Sound m head
  checked_sound = record { cache = holding; holds = holds }

-- ── the memory is sound: all passes say yes ──────────────────────────────────
module _ {m : Memory} {head : PageCache} {c : Cache} (hd : Holds m head c) where
  abbrev sound_es : List PageCacheEntry
  sound_es = entries m.slots

  seat_below : Below c.size hd.seats
  seat_below =
      subst (λ (s : ℕ). Below s hd.seats) (length-map sound_es (λ (e : PageCacheEntry). e.next.0) ∙ holds_size hd) hd.seated.ring.inside

  seat_taken : (k : ℕ) → has k hd.seats ≡ true → Taken m.marks c.size k
  seat_taken k e =
      let l : k < c.size = all_has (λ k. k < c.size) hd.seats seat_below k e in
      record { inside = l; held = hd.marked.inside k l ∙ ap (λ (b : Bool). cond b 0 1) e }

  -- an unmarked slot is a seat, and a marked one is not
  unmarked_seat : (k : ℕ) → k < c.size → bit_at m.marks k ≡ 0 → has k hd.seats ≡ true
  unmarked_seat k l z = go (has k hd.seats) (sym (hd.marked.inside k l) ∙ z)
    where
      go : (b : Bool) → ◌≡◌ {A = ℕ} (cond b 0 1) 0 → b ≡ true
      go true e = refl
      go false e = absurd (omega arith)

  marked_none : (k : ℕ) → k < c.size → bit_at m.marks k ≡ 1 → has k hd.seats ≡ false
  marked_none k l z = go (has k hd.seats) (sym (hd.marked.inside k l) ∙ z)
    where
      go : (b : Bool) → ◌≡◌ {A = ℕ} (cond b 0 1) 1 → b ≡ false
      go true e = absurd (omega arith)
      go false e = refl

  sound_lists : (by : By) (order : List ℕ) → length order ≡ c.size → Listed (names by sound_es) order hd.seats → IndexGood (names by sound_es) order m.marks head.held
  sound_lists by order long l =
      let index = listed_index l (sym hd.headed.held) in
      record {
        ordered = record {
          taken = λ i h. subst (λ (s : ℕ). Taken m.marks s (get_or order i 0)) (sym long) (seat_taken (get_or order i 0) (place_seat l (sym hd.headed.held) i h));
          up = λ i h. (ascending index).up i (i + 1) (omega arith) h;
        };
        clear = index_clear index;
      }

  sound_slots : AllSlotsGood sound_es m.marks c.size
  sound_slots k l = record {
    held = λ z.
        let t = each_seat EntryGood sound_es hd.seats (subst (Each EntryGood) hd.row hd.limits.good) k (unmarked_seat k l z) in
        record { uses = t.uses; flags = t.flags; spare = hd.seated.spare k };
    free = λ z. hd.seated.vacant k (out_has k hd.seats (marked_none k l z));
  }

  sound_range : InRange head c.size
  sound_range = record {
    capacity = omega (arith, hd.limits.capacity, hd.headed.capacity);
    held = omega (arith, hd.headed.held, hd.keys.index.fits, hd.lengths.by_key);
    spill = rw hd.headed.spill (switch_limit c.spill);
  }

  sound_marks : Counted m.marks c.size head.held
  sound_marks = record {
    beyond = none_beyond;
    count = omega (arith, all_seats, hd.headed.held, unmarked_rest none_beyond hd.lengths.marks);
  }
    where
      none_beyond : Beyond m.marks c.size
      none_beyond = record { clear = hd.marked.beyond }

      all_seats : count_below c.size (unmarked m.marks) ≡ length hd.seats
      all_seats = as_many hd.seats (unmarked m.marks) c.size hd.seated.ring.apart
          (has_all _ hd.seats (λ k e. ((seat_taken k e).inside, eq-eqb (bit_at m.marks k) 0 (seat_taken k e).held)))
          (λ k l t. unmarked_seat k l (eqb-true _ _ t))

  sound_ring : Walked sound_es m.marks head.held head.hand.0
  sound_ring = record {
    seats = hd.seats;
    long = sym hd.headed.held;
    first = hd.headed.hand;
    round = hd.seated.ring.round;
    apart = hd.seated.ring.apart;
    taken = has_all _ hd.seats (λ k e. subst (λ (s : ℕ). Taken m.marks s k) (sym (holds_size hd)) (seat_taken k e));
  }

  holds_checked : Checked m head
  holds_checked =
      let size = sym hd.lengths.by_key in
      record {
        agreeing = record {
          lengths = subst (Lengths m) size hd.lengths;
          some = subst (λ (s : ℕ). 1 ≤ s) size hd.limits.some;
          most = omega (arith, hd.limits.most, hd.lengths.by_key);
        };
        range = subst (InRange head) size sound_range;
        marks = subst (λ (s : ℕ). Counted m.marks s head.held) size sound_marks;
        ring = sound_ring;
        keys = sound_lists Key m.by_key hd.lengths.by_key hd.keys;
        handles = sound_lists Handle m.by_handle hd.lengths.by_handle hd.handles;
        slots = subst (AllSlotsGood sound_es m.marks) size sound_slots;
      }

pub sound_checked : {m : Memory} {head : PageCache} → Sound m head → Checked m head
sound_checked s = holds_checked s.holds

-- the lengths agree of memory that holds a cache
pub holds_agreeing : {m : Memory} {head : PageCache} {c : Cache} → Holds m head c → Agreeing m
holds_agreeing {m} H = record {
  lengths = rw H.lengths.by_key H.lengths;
  some = omega (arith, H.lengths.by_key, H.limits.some);
  most = omega (arith, H.lengths.by_key, H.limits.most);
}

-- ── the test as a whole ──────────────────────────────────────────────────────
module _ {m : Memory} (a : Agreeing m) where
  pub marks_fit : MarksFit m.marks (length m.by_key)
  marks_fit = record { words = a.lengths.marks; most = a.most }

  pub readable : SlotsReadable m.slots m.marks (length m.by_key)
  readable = record {
    each_entry = sym (entries_whole (length m.by_key) m.slots a.lengths.slots);
    each_mark = omega (arith, a.lengths.marks);
  }

  module _ {head : PageCache} (r : InRange head (length m.by_key)) where
    pub keys_orderable : Orderable m.by_key m.slots m.marks head.held
    keys_orderable = record { readable = readable; fits = r.held }

    pub handles_orderable : Orderable m.by_handle m.slots m.marks head.held
    handles_orderable = record {
      readable = subst (SlotsReadable m.slots m.marks) (sym a.lengths.by_handle) readable;
      fits = omega (arith, r.held, a.lengths.by_handle);
    }

    -- all passes but the last said yes: the last one decides
    pub last_decides : {answer : Bool} → Counted m.marks (length m.by_key) head.held
        → Walked (entries m.slots) m.marks head.held head.hand.0
        → IndexGood (names Key (entries m.slots)) m.by_key m.marks head.held
        → IndexGood (names Handle (entries m.slots)) m.by_handle m.marks head.held
        → Decides answer (AllSlotsGood (entries m.slots) m.marks (length m.by_key)) → Decides answer (Sound m head)
    last_decides marks ring keys handles t = decides_as t
        (λ s. checked_sound m head record { agreeing = a; range = r; marks = marks; ring = ring; keys = keys; handles = handles; slots = s })
        (λ s. (sound_checked s).slots)
