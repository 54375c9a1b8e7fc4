-- What insertion leaves. A new page has a free slot, its key was absent or has just been deleted, and test 12 says that its
-- handle is no other page's. Code 13 comes after an attempt to make room, with held = S: so no page went, neither a stale one
-- nor by a sweep, and a sweep that takes none changes nothing.
use mathlib.Core.Bool.{true, false}
use mathlib.Core.List.{List, [], ◌∷◌, ◌++◌}
use mathlib.Core.Logic.{◌≢◌, inl, inr}
use mathlib.Core.Option.{Option, none, some}
use mathlib.Core.Path.{◌≡◌, refl, ◌∙◌}
use Prim.Native.Nat.{ℕ, suc, ◌-◌, ◌≤◌, ◌<◌, ◌^◌}
use native.Mathlib.Omega.{arith}
use lib.Dec.{eqb, ltb}
use lib.ListN.{length}
use borrow.Author.Tests.{ltb-true, ltb-false}
use Rattle.page.specs.Record.{all_flags, stale}
use Rattle.page.specs.declared.record.PageRecord.{PageRecord}
use Rattle.page.proofs.Each.{each_remove}
use Rattle.model.specs.Row.{Page, Entry, Row, Each, find}
use Rattle.model.specs.Cache.{Cache, held_in, count_in, lowest_free, enter_row, new_page, leave}
use Rattle.model.specs.Call.{Insertion, plain, forced, upsert, Outcome}
use Rattle.model.specs.Rooms.{Room, make_room}
use Rattle.model.specs.Rules.{deleting, place, on_full, in_room, admit, key_exists, present, insert_found, on_insert}
use Rattle.model.specs.Tests.{under_other}
use Rattle.model.specs.Limits.{RecordInRange, EntryInRange, CacheInvariant}
use Rattle.model.proofs.Numbers.{OtherKey, OtherHandle, apart_others}
use Rattle.model.proofs.ByKey.{Stands, stands_without, stands_own, find_stands, find_none}
use Rattle.model.proofs.KeptCases.{either, deleted_or_refused}
use Rattle.model.proofs.KeptSlots.{lowest_bound, lowest_free_lem, free_others}
use Rattle.model.proofs.KeptRows.{New, fits_enter, kept_fits, fits_kept}
use Rattle.model.proofs.KeptRooms.{Makes, make_room_lem, make_room_spare}
use Rattle.model.proofs.KeptSize.{make_room_size}
use Rattle.model.proofs.KeptPages.{count_in_range, leave_kept, without_held, touch_kept, upsert_kept}
use Rattle.model.proofs.KeptTests.{Under, each_under}
use Rattle.model.proofs.KeptLeaves.{Unchanged, Leaves, leaves_same, leaves_done, leaves_listing, leaves_following}

pub no_handles : (handles : List ℕ) → length handles ≤ 0 → handles ≡ []
no_handles [] h = refl
no_handles (x ∷ xs) h = absurd (omega arith)

module _ (key handle : ℕ) (state : PageRecord) where
  -- the arguments are in range
  abbrev Given : Type 0
  Given = (key < 2 ^ 32) × (handle < 2 ^ 32) × RecordInRange state

  -- neither the key nor the handle is in the row
  record Absent (row : Row) : Type 0 where
    keys : Each (OtherKey key) row
    handles : Each (OtherHandle handle) row

  absent_handle : (row : Row) → Each (Under key handle) row → Each (OtherKey key) row → Each (OtherHandle handle) row
  absent_handle [] u o = tt
  absent_handle (e ∷ es) u o = (λ same. o.0 (u.0 same), absent_handle es u.1 o.1)

  absent : (row : Row) → Each (Under key handle) row → Each (OtherKey key) row → Absent row
  absent row u o = record { keys = o; handles = absent_handle row u o }

  -- ── code 13 ────────────────────────────────────────────────────────────────
  -- no slot is free
  forced_code : (c : Cache) → 11 ≤ (on_full key handle state forced c).code → c.size ≤ held_in c
  forced_code c = either (λ (o : Outcome). 11 ≤ o.code → c.size ≤ held_in c) (ltb (held_in c) c.size)
      (λ _ high. absurd (omega arith)) (λ q _. ltb-false (held_in c) c.size q)

  full_code : (how : Insertion) (c : Cache) → 11 ≤ (on_full key handle state how c).code → c.size ≤ held_in c
  full_code plain c = λ high. absurd (omega arith)
  full_code forced c = forced_code c
  full_code upsert c = forced_code c

  -- after the attempt
  room_code : (how : Insertion) (r : Room) → 11 ≤ (in_room key handle state how r).code → r.cache.size ≤ held_in r.cache
  room_code how r = either (λ (o : Outcome). 11 ≤ o.code → r.cache.size ≤ held_in r.cache) r.full
      (λ _. full_code how r.cache) (λ _ high. absurd (omega arith))

  -- and before it
  admit_code : (how : Insertion) (c : Cache) → CacheInvariant c → 11 ≤ (admit key handle state how c).code → c.size ≤ held_in c
  admit_code how c k high = omega (arith, room_code how (make_room c) high, make_room_size c, (make_room_lem c k).count)

  module _ (flags : state.flags ≤ all_flags) where
    -- ── the key is absent ────────────────────────────────────────────────────
    place_kept : (c : Cache) → CacheInvariant c → held_in c < c.size → Absent c.row → Given → CacheInvariant (place key handle state c).cache
    place_kept c k room a g =
        let p : Page = new_page key handle state c in
        let good : EntryInRange c.size (record { page = p; uses = 0 }) = record {
          slot = omega (arith, lowest_bound c.row);
          key = g.0;
          handle = g.1;
          flags = flags;
          fit = g.2;
          uses = omega arith;
        } in
        let new : New p c.row = record {
          slot = free_others (lowest_free c.row) c.row (lowest_free_lem c.row);
          key = a.keys;
          handle = a.handles;
        } in
        let row = fits_enter c.size p c.row room good new (kept_fits c k) in
        fits_kept c (enter_row p c.row) (count_in p c.estimate) k (count_in_range p c.estimate k.estimate) row

    place_leaves : (c : Cache) → CacheInvariant c → held_in c < c.size → Absent c.row → Leaves c 0 Given (place key handle state c)
    place_leaves c k room a = leaves_done c (place key handle state c) (inl refl) (omega arith) (place_kept c k room a)

    forced_leaves : (c : Cache) → CacheInvariant c → Absent c.row → Leaves c 0 Given (on_full key handle state forced c)
    forced_leaves c k a = either (Leaves c 0 Given) (ltb (held_in c) c.size)
        (λ h. place_leaves c k (ltb-true (held_in c) c.size h) a) (λ _. leaves_same c 13 0 k)

    full_leaves : (how : Insertion) (c : Cache) → CacheInvariant c → Absent c.row → Leaves c 0 Given (on_full key handle state how c)
    full_leaves plain c k a = leaves_same c 8 0 k
    full_leaves forced c k a = forced_leaves c k a
    full_leaves upsert c k a = forced_leaves c k a

    admit_leaves : (how : Insertion) (c : Cache) → CacheInvariant c → Absent c.row
        → Leaves c (held_in c) Given (admit key handle state how c)
    admit_leaves how c k a = leaves_following c r m _ unchanged then
      where
        r : Room
        r = make_room c

        m : Makes (c.capacity - 1) c r
        m = make_room_lem c k

        still : Absent r.cache.row
        still = record { keys = m.pages (λ p. key ≢ p.key) a.keys; handles = m.pages (λ p. handle ≢ p.handle) a.handles }

        then : Leaves r.cache 0 Given
            (elim r.full [ true ↦ on_full key handle state how r.cache | false ↦ place key handle state r.cache ])
        then = either (Leaves r.cache 0 Given) r.full (λ _. full_leaves how r.cache m.kept still)
            (λ h. place_leaves r.cache m.kept (omega (arith, make_room_size c, make_room_spare c k h)) still)

        none_went : 11 ≤ (admit key handle state how c).code → r.gone ≡ []
        none_went high = no_handles r.gone (omega (arith, room_code how r high, make_room_size c, m.count, k.held))

        unchanged : 11 ≤ (admit key handle state how c).code → Unchanged c (admit key handle state how c)
        unchanged high = record {
          cache = (then.refused high).cache ∙ m.still (none_went high);
          listed = rw (none_went high, (then.refused high).listed);
        }

    -- ── the key is present ───────────────────────────────────────────────────
    module _ (c : Cache) (k : CacheInvariant c) (u : Each (Under key handle) c.row) (e : Entry) (s : Stands key c.row e) where
      others : Absent (s.before ++ s.after)
      others = absent (s.before ++ s.after) (each_remove (Under key handle) s.before e s.after (rw s.parts at u))
          (rw s.named at (apart_others (λ p. p.key) s.before e s.after (rw s.parts at k.keys)))

      abbrev own : Stands e.page.key c.row e
      own = stands_own key c.row e s

      -- a stale page is deleted, and then the key is absent
      stale_leaves : (how : Insertion) → Leaves c (held_in c) Given (deleting e.page (admit key handle state how) c)
      stale_leaves how = deleted_or_refused (Leaves c (held_in c) Given) e.page (admit key handle state how) c
          (leaves_listing c rest (held_in rest) e.page.handle _ fewer low (admit_leaves how rest kept gone))
          (λ code _ _. leaves_same c code e.page.key k)
        where
          rest : Cache
          rest = leave e.page c

          kept : CacheInvariant rest
          kept = leave_kept e.page c k

          gone : Absent rest.row
          gone = rw (stands_without e.page.key c.row e own) others

          fewer : suc (held_in rest) ≤ held_in c
          fewer = omega (arith, without_held e.page.key c.row e own)

          low : 11 ≤ (admit key handle state how rest).code → ⊥
          low high = omega (arith, admit_code how rest kept high, fewer, k.held)

      exists_leaves : Leaves c (held_in c) Given (key_exists key handle state e.page c)
      exists_leaves = either (Leaves c (held_in c) Given) (eqb e.page.handle handle)
          (λ _. leaves_done c _ (inr refl) (omega arith) (λ _. touch_kept c k key e s)) (λ _. leaves_same c 11 0 k)

      present_leaves : (how : Insertion) → Leaves c (held_in c) Given (present key handle state how e.page c)
      present_leaves plain = exists_leaves
      present_leaves forced = exists_leaves
      present_leaves upsert = leaves_done c _ (inl refl) (omega arith)
          (λ g. upsert_kept c k key e s handle state g.1 flags g.2 others.handles)

    pub insert_leaves : (how : Insertion) (c : Cache) → CacheInvariant c → under_other key handle c.row ≡ false
        → Leaves c (held_in c) ((key < 2 ^ 32) × (handle < 2 ^ 32) × RecordInRange state) (on_insert key handle state how c)
    unfolding on_insert
    insert_leaves how c k h = go (find key c.row) refl
      where
        u : Each (Under key handle) c.row
        u = each_under key handle c.row h

        go : (v : Option Entry) → find key c.row ≡ v → Leaves c (held_in c) Given (insert_found key handle state how v c)
        go none q = admit_leaves how c k (absent c.row u (find_none key c.row q))
        go (some e) q =
            let s = find_stands key c.row e q in
            either (Leaves c (held_in c) Given) (stale e.page.state)
            (λ _. stale_leaves c k u e s how) (λ _. present_leaves c k u e s how)
