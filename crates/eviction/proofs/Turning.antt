-- The memory after a sweep holds the cache that it held, with the row turned to where the sweep ended: a sweep changes use
-- counts alone, and the indexes and marks know nothing of those, nor of where the ring begins.
use mathlib.Core.Path.{◌≡◌, refl, sym, ap, ◌∙◌, subst}
use mathlib.Core.List.{List, [], ◌∷◌}
use Prim.Native.Nat.{ℕ, suc, ◌*◌, ◌≤◌}
use native.Mathlib.Omega.{arith}
use lib.ListN.{length}
use Rattle.page.specs.Entry.{ref_max}
use Rattle.page.specs.declared.cache.PageCache.{PageCache}
use Rattle.page.specs.declared.entry.PageCacheEntry.{PageCacheEntry}
use Rattle.page.specs.declared.names.Slot.{Slot}
use Rattle.ring_links.specs.Ring.{has, first_of}
use Rattle.pool.specs.Slots.{entries}
use Rattle.sorted_index.specs.declared.search.By.TheVariants.{Key, Handle}
use Rattle.sorted_index.proofs.Listed.{listed_seats}
use Rattle.model.specs.Cache.{Cache, with_row, page_may_go}
use Rattle.model.specs.Rooms.{sweep_of}
use Rattle.model.specs.Row.{Row, Each}
use Rattle.model.specs.Sweep.{Swept, looks, sweep}
use Rattle.memory.specs.Memory.{Memory}
use Rattle.memory.specs.Holds.{Seated, row_of, EntryGood, Holds}
use Rattle.memory.proofs.Marks.{marked_seats}
use Rattle.memory.proofs.OnceKept.{holds_held}
use Rattle.eviction.specs.Sweep.{comes_to, SweptFrom, SweptAs}
use Rattle.eviction.specs.declared.sweeping.Swept as code

-- the memory with other slots
abbrev pub with_slots : List ℕ → Memory → Memory
with_slots slots m = record { slots = slots; by_key = m.by_key; by_handle = m.by_handle; marks = m.marks }

-- the head with another hand
abbrev pub with_hand : Slot → PageCache → PageCache
with_hand hand head = record { capacity = head.capacity; held = head.held; hand = hand; spill = head.spill; estimate = head.estimate }

-- ── the ring from the hand on ────────────────────────────────────────────────
abbrev after_first : List ℕ → List ℕ
after_first [] = []
after_first (s ∷ seats) = seats

first_and_rest : (seats : List ℕ) → 1 ≤ length seats → seats ≡ first_of seats ∷ after_first seats
first_and_rest [] h = absurd (omega arith)
first_and_rest (s ∷ seats) h = refl

module _ {m : Memory} {head : PageCache} {c : Cache} (H : Holds m head c) (some_held : 1 ≤ head.held) where
  abbrev others : List ℕ
  others = after_first H.seats

  seats_are : H.seats ≡ head.hand.0 ∷ others
  seats_are =
      first_and_rest H.seats (omega (arith, H.headed.held)) ∙ ap {B = List ℕ} (λ s. s ∷ others) (sym H.headed.hand)

  seated_from_hand : Seated (entries m.slots) (head.hand.0 ∷ others)
  seated_from_hand = subst (Seated (entries m.slots)) seats_are H.seated

  pub row_from_hand : c.row ≡ row_of (entries m.slots) (head.hand.0 ∷ others)
  row_from_hand = H.row ∙ ap {B = Row} (row_of (entries m.slots)) seats_are

-- ── after a sweep ────────────────────────────────────────────────────────────
-- a sweep from the hand has left these slots and given this answer
pub record Ended (m : Memory) (head : PageCache) (slots' : List ℕ) (r : code.Swept) : Type 0 where
  pub some_held : 1 ≤ head.held
  pub long : length slots' ≡ length m.slots
  pub swept : SweptAs (entries m.slots) head.hand.0 head.held (entries slots') r

module _ {m : Memory} {head : PageCache} {c : Cache} (H : Holds m head c) {slots' : List ℕ} {r : code.Swept} (d : Ended m head slots' r) where
  abbrev es' : List PageCacheEntry
  es' = entries slots'

  pub came_from : SweptFrom (entries m.slots) (head.hand.0 ∷ others H d.some_held) head.held es' r
  came_from = d.swept (others H d.some_held) (seated_from_hand H d.some_held)

  -- the seats that follow the one where the sweep ended
  abbrev pub following : List ℕ
  following = came_from.turned.rest

  -- the sweep is the model's
  pub sweep_came : sweep_of c ≡ comes_to r.found es' r.at.0 following r.passed
  unfolding sweep
  sweep_came =
      ap {B = Swept} (λ n. looks page_may_go (suc ref_max * n) c.row) (holds_held H)
      ∙ ap {B = Swept} (looks page_may_go (suc ref_max * head.held)) (row_from_hand H d.some_held) ∙ came_from.came

  same_seats : (k : ℕ) → has k (r.at.0 ∷ following) ≡ has k H.seats
  same_seats k = came_from.turned.same k ∙ ap (has k) (sym (seats_are H d.some_held))

  as_many : length (r.at.0 ∷ following) ≡ length H.seats
  as_many = came_from.turned.size ∙ ap length (sym (seats_are H d.some_held))

  pub holds_turned : Holds (with_slots slots' m) (with_hand r.at head) (with_row (row_of es' (r.at.0 ∷ following)) c)
  holds_turned = record {
    seats = r.at.0 ∷ following;
    lengths = record {
      slots = d.long ∙ H.lengths.slots;
      by_key = H.lengths.by_key;
      by_handle = H.lengths.by_handle;
      marks = H.lengths.marks;
    };
    seated = came_from.turned.seated;
    row = refl;
    keys = rw (came_from.turned.named Key) (listed_seats H.keys as_many same_seats);
    handles = rw (came_from.turned.named Handle) (listed_seats H.handles as_many same_seats);
    marked = marked_seats H.marked same_seats;
    headed = record {
      held = H.headed.held ∙ sym as_many;
      hand = refl;
      capacity = H.headed.capacity;
      spill = H.headed.spill;
      estimate = H.headed.estimate;
    };
    limits = record {
      some = H.limits.some;
      most = H.limits.most;
      capacity = H.limits.capacity;
      good = came_from.turned.good (subst (Each EntryGood) (row_from_hand H d.some_held) H.limits.good);
    };
  }
