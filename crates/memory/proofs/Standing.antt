-- Where an entry of the row stands. The row is read off the seats one by one, so a split of the row is a split of the seats,
-- and finding, changing and removing by key speak of one seat.
use mathlib.Core.Path.{◌≡◌, refl, sym, ap, ◌∙◌, subst}
use mathlib.Core.Bool.{true}
use mathlib.Core.List.{List, [], ◌∷◌, ◌++◌, nil≢cons, head-eq_of_cons-eq, tail-eq_of_cons-eq}
use mathlib.Core.Logic.{⊎_elim}
use mathlib.Core.Option.{some}
use Prim.Native.Nat.{ℕ, ◌<◌}
use lib.ListN.{length, get_or, length-map}
use Rattle.page.specs.declared.cache.PageCache.{PageCache}
use Rattle.page.specs.declared.entry.PageCacheEntry.{PageCacheEntry}
use Rattle.page.proofs.Each.{each_middle, each_remove, each_place}
use Rattle.pool.specs.Slots.{blank, entries}
use Rattle.ring_links.specs.Ring.{has, Out}
use Rattle.ring_links.specs.Links.{RingOf}
use Rattle.ring_links.proofs.Rings as rings
use Rattle.ring_links.proofs.Rows.{Stands as SlotStands, stands as slot_stands}
use Rattle.pool.proofs.Packing.{entries_whole}
use Rattle.sorted_index.specs.Names.{names}
use Rattle.sorted_index.specs.Index.{Index}
use Rattle.sorted_index.specs.declared.search.By.TheVariants.{Key, Handle}
use Rattle.sorted_index.proofs.Membership.{mid_has, apart_mid}
use Rattle.sorted_index.proofs.Listed.{listed_index}
use Rattle.model.specs.Cache.{Cache}
use Rattle.model.specs.Row.{Entry, Row, Each, find, change, without}
use Rattle.model.specs.Limits.{Apart}
use Rattle.model.proofs.ByKey.{Stands, find_stands, stands_find, stands_without, stands_change, apart_stands}
use Rattle.memory.specs.Memory.{Memory}
use Rattle.memory.specs.Holds.{seen, row_of, Seated, EntryGood, Holds}
use Rattle.memory.proofs.Columns.{row_append}
use Rattle.memory.proofs.OnceKept.{holds_keys_apart}
use Rattle.memory.proofs.Seats.{in_out}

-- ── a split of the row is a split of the seats ───────────────────────────────
record Cut (es : List PageCacheEntry) (seats : List ℕ) (s : ℕ) (before : Row) (e : Entry) (after : Row) : Type 0 where
  front : List ℕ
  back : List ℕ
  seats_are : seats ≡ front ++ s ∷ back
  before_is : before ≡ row_of es front
  entry_is : e ≡ seen s (get_or es s blank)
  after_is : after ≡ row_of es back

cut : (es : List PageCacheEntry) (s : ℕ) (seats : List ℕ) (before : Row) (e : Entry) (after : Row) → row_of es seats ≡ before ++ e ∷ after
    → e.page.slot ≡ s → Cut es seats s before e after
cut es s [] [] e after q slot = absurd (nil≢cons q)
cut es s [] (x ∷ before) e after q slot = absurd (nil≢cons q)
cut es s (t ∷ seats) [] e after q slot =
    let same : t ≡ s = ap (λ (x : Entry). x.page.slot) (head-eq_of_cons-eq q) ∙ slot in
    record {
      front = [];
      back = seats;
      seats_are = ap {B = List ℕ} (λ (k : ℕ). k ∷ seats) same;
      before_is = refl;
      entry_is = sym (head-eq_of_cons-eq q) ∙ ap {B = Entry} (λ (k : ℕ). seen k (get_or es k blank)) same;
      after_is = sym (tail-eq_of_cons-eq q);
    }
cut es s (t ∷ seats) (x ∷ before) e after q slot =
    let rest = cut es s seats before e after (tail-eq_of_cons-eq q) slot in
    record {
      front = t ∷ rest.front;
      back = rest.back;
      seats_are = ap {B = List ℕ} (λ (l : List ℕ). t ∷ l) rest.seats_are;
      before_is = λ i. sym (head-eq_of_cons-eq q) i ∷ rest.before_is i;
      entry_is = rest.entry_is;
      after_is = rest.after_is;
    }

-- ── the entry with a key ─────────────────────────────────────────────────────
-- the seats are split at slot s, where e stands, and that is the place of which finding, changing and removing by key speak
pub record Standing (es : List PageCacheEntry) (seats : List ℕ) (row : Row) (key s : ℕ) (e : Entry) : Type 0 where
  pub front : List ℕ
  pub back : List ℕ
  pub seats_are : seats ≡ front ++ s ∷ back
  pub entry_is : e ≡ seen s (get_or es s blank)
  pub key_is : e.page.key ≡ key
  pub without_is : without key row ≡ row_of es (front ++ back)
  pub change_is : (f : Entry → Entry) → change key f row ≡ row_of es front ++ f e ∷ row_of es back

pub standing : (es : List PageCacheEntry) (seats : List ℕ) (row : Row) (key s : ℕ) (e : Entry) → row ≡ row_of es seats → find key row ≡ some e
    → e.page.slot ≡ s → Standing es seats row key s e
standing es seats row key s e read found slot =
    let f : Stands key row e = find_stands key row e found in
    let k : Cut es seats s f.before e f.after = cut es s seats f.before e f.after (sym read ∙ f.parts) slot in
    record {
      front = k.front;
      back = k.back;
      seats_are = k.seats_are;
      entry_is = k.entry_is;
      key_is = f.named;
      without_is = stands_without key row e f ∙ (λ i. k.before_is i ++ k.after_is i) ∙ sym (row_append es k.front k.back);
      change_is = λ g. stands_change key row e f g ∙ (λ i. k.before_is i ++ g e ∷ k.after_is i);
    }

module _ {es : List PageCacheEntry} {seats : List ℕ} {row : Row} {key s : ℕ} {e : Entry} (k : Standing es seats row key s e) where
  -- its slot is a seat
  pub standing_has : has s seats ≡ true
  standing_has = ap (has s) k.seats_are ∙ mid_has k.front s k.back

  pub standing_front : RingOf es seats → RingOf es (s ∷ k.back ++ k.front)
  standing_front ring = rings.turns k.front (s ∷ k.back) (subst (RingOf es) k.seats_are ring)

  pub standing_inside : RingOf es seats → s < length es
  standing_inside ring = simp length-map at (standing_front ring).inside.0

-- what holds of each entry holds of the one found, and of the others
pub each_found : (P : Entry → Type 0) (key : ℕ) (row : Row) (e : Entry) → find key row ≡ some e → Each P row → P e
each_found P key row e found all =
    let f = find_stands key row e found in
    each_middle P f.before e f.after (subst (Each P) f.parts all)

pub each_without : (P : Entry → Type 0) (key : ℕ) (row : Row) (e : Entry) → find key row ≡ some e → Each P row → Each P (without key row)
each_without P key row e found all =
    let f = find_stands key row e found in
    subst (Each P) (sym (stands_without key row e f)) (each_remove P f.before e f.after (subst (Each P) f.parts all))

pub each_change : (P : Entry → Type 0) (key : ℕ) (row : Row) (e : Entry) (f : Entry → Entry) → find key row ≡ some e → P (f e) → Each P row
    → Each P (change key f row)
each_change P key row e f found new all =
    let t = find_stands key row e found in
    subst (Each P) (sym (stands_change key row e t f))
    (each_place P t.before (f e) t.after new (each_remove P t.before e t.after (subst (Each P) t.parts all)))

-- ── of memory that holds a cache ─────────────────────────────────────────────
module _ {m : Memory} {head : PageCache} {c : Cache} (H : Holds m head c) where
  abbrev es : List PageCacheEntry
  es = entries m.slots

  -- as many entries as slots
  pub holds_size : length (entries m.slots) ≡ c.size
  holds_size = entries_whole c.size m.slots H.lengths.slots

  -- an entry of the row is the one that its key finds, since no two have one key
  pub split_found : (before : Row) (e : Entry) (after : Row) → c.row ≡ before ++ e ∷ after → find e.page.key c.row ≡ some e
  split_found before e after parts =
      let apart : Apart (λ p. p.key) (before ++ e ∷ after) = rw parts at (holds_keys_apart H) in
      rw parts (stands_find e.page.key (before ++ e ∷ after) e (apart_stands before e after apart))

  -- and each seat's entry is found by its key
  pub seat_found : (s : ℕ) → has s H.seats ≡ true
      → find (get_or (entries m.slots) s blank).key.0 c.row ≡ some (seen s (get_or (entries m.slots) s blank))
  seat_found s h = ⊎_elim (λ (out : Out s H.seats). absurd (in_out s H.seats h out))
      (λ (t : SlotStands s H.seats). split_found (row_of es t.before) (seen s (get_or es s blank)) (row_of es t.after)
      (H.row ∙ ap {B = Row} (row_of es) t.parts ∙ row_append es t.before (s ∷ t.after)))
      (slot_stands s H.seats)

  -- ── what its indexes are, at the number that is held ───────────────────────
  pub holds_by_key : Index (names Key (entries m.slots)) m.by_key head.held
  holds_by_key = listed_index H.keys (sym H.headed.held)

  pub holds_by_handle : Index (names Handle (entries m.slots)) m.by_handle head.held
  holds_by_handle = listed_index H.handles (sym H.headed.held)

  module _ (key : ℕ) {s : ℕ} {e : Entry} (found : find key c.row ≡ some e) (slot : e.page.slot ≡ s) where
    pub holds_standing : Standing (entries m.slots) H.seats c.row key s e
    holds_standing = standing es H.seats c.row key s e H.row found slot

    pub found_inside : s < length (entries m.slots)
    found_inside = standing_inside holds_standing H.seated.ring

    -- the seats, split at its slot, which is none of the others
    pub found_seated : Seated (entries m.slots) (holds_standing.front ++ s ∷ holds_standing.back)
    found_seated = subst (Seated es) holds_standing.seats_are H.seated

    pub found_held : head.held ≡ length (holds_standing.front ++ s ∷ holds_standing.back)
    found_held = H.headed.held ∙ ap length holds_standing.seats_are

    pub found_alone : Out s (holds_standing.front ++ holds_standing.back)
    found_alone = apart_mid s holds_standing.front holds_standing.back found_seated.ring.apart

    pub found_good : EntryGood e
    found_good = each_found EntryGood key c.row e found H.limits.good
