-- What a search of an index says of the row. The index lists the seats, a seat's name is its entry's, and no two seats share
-- one: so a name that is found is the entry's, and one that isn't found is no entry's.
use Rattle.std.specs.Prelude.{Result, Ok, Err}
use mathlib.Core.Path.{◌≡◌, refl, sym, ap, ◌∙◌, subst}
use mathlib.Core.Bool.{Bool, true, false, not, ◌&&◌}
use mathlib.Core.List.{List, [], ◌∷◌}
use mathlib.Core.Logic.{◌≢◌}
use mathlib.Core.Option.{none, some}
use Prim.Native.Nat.{ℕ}
use native.Mathlib.Decide.{ℕ_discrete}
use lib.Dec.{eqb}
use lib.ListN.{length, get_or}
use borrow.Author.Tests.{eq-eqb, ne_eqb}
use Rattle.page.specs.declared.cache.PageCache.{PageCache}
use Rattle.page.specs.declared.entry.PageCacheEntry.{PageCacheEntry}
use Rattle.page.specs.declared.names.Slot.{Slot}
use Rattle.page.proofs.Each.{each_weaken}
use Rattle.pool.specs.Slots.{blank, entries}
use Rattle.ring_links.specs.Ring.{has}
use Rattle.sorted_index.specs.Names.{name_of, names}
use Rattle.sorted_index.specs.Index.{Hit}
use Rattle.sorted_index.specs.Listed.{Listed, Absent, GapFor}
use Rattle.sorted_index.specs.declared.search.By.{By}
use Rattle.sorted_index.specs.declared.search.By.TheVariants.{Key, Handle}
use Rattle.sorted_index.proofs.Names.{name_at_lem}
use Rattle.sorted_index.proofs.Listed.{hit_seat, hit_is, miss_absent}
use Rattle.model.specs.Cache.{Cache}
use Rattle.model.specs.Row.{Entry, Row, Each, find}
use Rattle.model.specs.Tests.{under_other}
use Rattle.model.proofs.ByKey.{none_find}
use Rattle.model.proofs.KeptTests.{Under}
use Rattle.model.proofs.KeptTests as tests
use Rattle.memory.specs.Memory.{Memory, memory_of}
use Rattle.memory.specs.Holds.{seen, row_of, Holds}
use Rattle.memory.proofs.Rows.{each_seat, seat_each}
use Rattle.memory.proofs.Standing.{seat_found}
use Rattle.moves.specs.declared.finding.Gaps.{Gaps}
use Rattle.moves.specs.declared.finding.HandleSeat.{HandleSeat}
use Rattle.moves.specs.declared.finding.HandleSeat.TheVariants.{Elsewhere, UnderKey, Nowhere}
use Rattle.moves.specs.Moves.{KeyAt, GapIn, SeatIs, SeatGap, Seats, HandleIs, HandleSeatGap, SeatsHandle, NewNames, GapsOf}

-- ── a handle under another key ───────────────────────────────────────────────
module _ (key handle : ℕ) where
  -- the entry has another handle, or the key
  abbrev pub Fits : Entry → Type 0
  Fits x = x.page.handle ≡ handle → x.page.key ≡ key

  abbrev misfit : Entry → Bool
  misfit x = eqb x.page.handle handle && not (eqb x.page.key key)

  misfit_not : (x : Entry) → Fits x → misfit x ≡ false
  misfit_not x fits = go (ℕ_discrete x.page.handle handle)
    where
      go : Dec (x.page.handle ≡ handle) → misfit x ≡ false
      go (yes q) = rw (eq-eqb x.page.handle handle q, eq-eqb x.page.key key (fits q))
      go (no other) = rw (ne_eqb x.page.handle handle other)

  pub under_each : (row : Row) → under_other key handle row ≡ false → Each Fits row
  under_each row h = each_weaken (Under key handle) Fits (λ x under same. sym (under (sym same))) row (tests.each_under key handle row h)

  pub each_under : (row : Row) → Each Fits row → under_other key handle row ≡ false
  unfolding under_other
  each_under [] all = refl
  each_under (x ∷ row) all = rw (misfit_not x all.0, under_other) (each_under row all.1)

-- ── what is found, and what isn't ────────────────────────────────────────────
module _ {m : Memory} {head : PageCache} {c : Cache} {n : ℕ} (H : Holds m head c) (held : head.held ≡ n) where
  abbrev es : List PageCacheEntry
  es = entries m.slots

  seats_held : length H.seats ≡ n
  seats_held = sym H.headed.held ∙ held

  -- the entry at a seat stands under its key
  seat_key : {key : ℕ} (s : ℕ) → has s H.seats ≡ true → (get_or es s blank).key.0 ≡ key → KeyAt c.row key s
  seat_key s seat named = record {
    entry = seen s (get_or es s blank);
    stands = record { found = subst (λ (k : ℕ). find k c.row ≡ some (seen s (get_or es s blank))) named (seat_found H s seat); slot = refl };
  }

  pub key_hit : {key at : ℕ} → Hit (names Key (entries m.slots)) m.by_key n key at → KeyAt c.row key (get_or m.by_key at 0)
  key_hit {key} {at} hit = seat_key _ (hit_seat H.keys seats_held hit) (sym (name_at_lem Key es (get_or m.by_key at 0)) ∙ hit.same)

  -- a name that has a gap is no seat's, and so no entry's
  gap_new : (by : By) {order : List ℕ} {name gap : ℕ} → Listed (names by es) order H.seats → GapIn by m.slots order n name gap
      → (k : ℕ) → has k H.seats ≡ true → name ≢ name_of by (get_or es k blank)
  gap_new by listed miss k h q = miss_absent listed seats_held miss k h (name_at_lem by es k ∙ sym q)

  key_new : {key gap : ℕ} → GapIn Key m.slots m.by_key n key gap → Each (λ x. key ≢ x.page.key) c.row
  key_new {key} miss =
      subst (Each (λ x. key ≢ x.page.key)) (sym H.row) (seat_each (λ x. key ≢ x.page.key) es H.seats (gap_new Key H.keys miss))

  pub handle_new : {handle gap : ℕ} → GapIn Handle m.slots m.by_handle n handle gap → Each (λ x. handle ≢ x.page.handle) c.row
  handle_new {handle} miss =
      subst (Each (λ x. handle ≢ x.page.handle)) (sym H.row)
      (seat_each (λ x. handle ≢ x.page.handle) es H.seats (gap_new Handle H.handles miss))

  pub key_miss : {key gap : ℕ} → GapIn Key m.slots m.by_key n key gap → find key c.row ≡ none
  key_miss {key} miss = none_find key c.row (key_new miss)

  module _ (key handle : ℕ) where
    each_fits : ((k : ℕ) → has k H.seats ≡ true → Fits key handle (seen k (get_or es k blank))) → under_other key handle c.row ≡ false
    each_fits at_seat = each_under key handle c.row (rw H.row (seat_each (Fits key handle) es H.seats at_seat))

    pub handle_miss : {gap : ℕ} → GapIn Handle m.slots m.by_handle n handle gap → under_other key handle c.row ≡ false
    handle_miss miss = each_fits (λ k h q. absurd (miss_absent H.handles seats_held miss k h (name_at_lem Handle es k ∙ q)))

    -- the handle is one entry's alone, so that entry's key tells
    module _ {at found : ℕ} (hit : Hit (names Handle (entries m.slots)) m.by_handle n handle at)
        (read : found ≡ get_or (names Key (entries m.slots)) (get_or m.by_handle at 0) 0) where
      abbrev s : ℕ
      s = get_or m.by_handle at 0

      seat : has s H.seats ≡ true
      seat = hit_seat H.handles seats_held hit

      key_at : found ≡ (get_or es s blank).key.0
      key_at = read ∙ name_at_lem Key es s

      pub handle_here : found ≡ key → KeyAt c.row key (get_or m.by_handle at 0) × (under_other key handle c.row ≡ false)
      handle_here same = (seat_key s seat (sym key_at ∙ same), each_fits fits)
        where
          fits : (k : ℕ) → has k H.seats ≡ true → Fits key handle (seen k (get_or es k blank))
          fits k h q =
              let here : s ≡ k = hit_is H.handles seats_held hit h (name_at_lem Handle es k ∙ q) in
              sym (ap (λ (j : ℕ). (get_or es j blank).key.0) here) ∙ sym key_at ∙ same

      pub handle_elsewhere_lem : found ≢ key → under_other key handle c.row ≡ true
      handle_elsewhere_lem other = go (under_other key handle c.row) refl
        where
          go : (b : Bool) → under_other key handle c.row ≡ b → b ≡ true
          go true q = refl
          go false q =
              let all : Each (Fits key handle) (row_of es H.seats) = subst (Each (Fits key handle)) H.row (under_each key handle c.row q) in
              absurd (other (key_at ∙ each_seat (Fits key handle) es H.seats all s seat (sym (name_at_lem Handle es s) ∙ hit.same)))

-- ── the gaps of a new page's names ───────────────────────────────────────────
module _ {m : Memory} {head : PageCache} {c : Cache} (H : Holds m head c) {key handle : ℕ} where
  pub gaps_new : {gaps : Gaps} → GapsOf m head.held key handle gaps → NewNames key handle c.row
  gaps_new right = record { keys = key_new H refl right.of_key; handles = handle_new H refl right.of_handle }

  module _ (new : NewNames key handle c.row) where
    -- no seat has the names yet
    key_absent : Absent (names Key (entries m.slots)) H.seats key
    key_absent k h q =
        each_seat (λ x. key ≢ x.page.key) (entries m.slots) H.seats (rw H.row at new.keys) k h (sym q ∙ name_at_lem Key (entries m.slots) k)

    handle_absent : Absent (names Handle (entries m.slots)) H.seats handle
    handle_absent k h q =
        each_seat (λ x. handle ≢ x.page.handle) (entries m.slots) H.seats (rw H.row at new.handles) k h
        (sym q ∙ name_at_lem Handle (entries m.slots) k)

    pub gaps_found : {gaps : Gaps} → GapFor (names Key (entries m.slots)) m.by_key head.held key gaps.key
        → GapFor (names Handle (entries m.slots)) m.by_handle head.held handle gaps.handle
        → GapsOf m head.held key handle gaps
    gaps_found by_key by_handle = record {
      of_key = by_key.miss H.seats H.keys (sym H.headed.held) key_absent;
      of_handle = by_handle.miss H.seats H.handles (sym H.headed.held) handle_absent;
    }

-- ── what a search promises, once its answer is known ─────────────────────────
module _ {by_key slots : List ℕ} {held key : ℕ} {r : Result Slot ℕ} (s : Seats by_key slots held key r) where
  module _ {by_handle marks : List ℕ} {head : PageCache} {c : Cache} (H : Holds (memory_of slots by_key by_handle marks) head c) (h : head.held ≡ held) where
    pub seat_at : {at : Slot} → r ≡ Ok at → KeyAt c.row key at.0
    seat_at q = subst (SeatIs c.row key) q (s.seat by_handle marks head c H h)

    pub seat_absent : {gap : ℕ} → r ≡ Err gap → find key c.row ≡ none
    seat_absent q = subst (SeatIs c.row key) q (s.seat by_handle marks head c H h)

  pub seat_gap : {gap : ℕ} → r ≡ Err gap → GapIn Key slots by_key held key gap
  seat_gap q = subst (SeatGap slots by_key held key) q s.gap

module _ {by_handle slots : List ℕ} {held key handle : ℕ} {r : HandleSeat} (s : SeatsHandle by_handle slots held key handle r) where
  module _ {by_key marks : List ℕ} {head : PageCache} {c : Cache} (H : Holds (memory_of slots by_key by_handle marks) head c) (h : head.held ≡ held) where
    pub seat_elsewhere : r ≡ Elsewhere → under_other key handle c.row ≡ true
    seat_elsewhere q = subst (HandleIs c.row key handle) q (s.seat by_key marks head c H h)

    pub seat_under : {at : Slot} → r ≡ UnderKey at → KeyAt c.row key at.0 × (under_other key handle c.row ≡ false)
    seat_under q = subst (HandleIs c.row key handle) q (s.seat by_key marks head c H h)

  pub seat_nowhere : {gap : ℕ} → r ≡ Nowhere gap → GapIn Handle slots by_handle held handle gap
  seat_nowhere q = subst (HandleSeatGap slots by_handle held handle) q s.gap
