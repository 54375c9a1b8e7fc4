-- What every call leaves: the limits are kept, no more handles are listed than pages were held, and a code from 11 on says that
-- nothing was changed. Rule by rule, by the answers that the rule can give.
use Rattle.std.specs.Prelude.{Some, None}
use mathlib.Core.Bool.{Bool, true, false}
use mathlib.Core.List.{List, [], ◌∷◌, map, append-nil}
use mathlib.Core.Logic.{inl}
use mathlib.Core.Option.{Option, none, some}
use mathlib.Core.Path.{◌≡◌, refl}
use Prim.Native.Nat.{ℕ, suc, ◌≤◌}
use native.Mathlib.Omega.{arith}
use lib.Dec.{eqb}
use lib.ListN.{length, length-append, length-map, length-take}
use borrow.Author.Tests.{ltb-false}
use Rattle.page.specs.Cache.{page_one}
use Rattle.page.specs.Record.{Holders, all_flags, dirty, stale, with_holders, one_holder_more, one_holder_less}
use Rattle.page.specs.declared.record.PageRecord.{PageRecord}
use Rattle.model.specs.Row.{Page, Entry, Row, find, sorted_by_key, those}
use Rattle.model.specs.Cache.{Cache, held_in, with_capacity, with_spill, fresh, estimate_max, up, down, leave, rewritten, rewrite, held_by}
use Rattle.model.specs.Call.{Call, create, insert, lookup, peek, release, delete, resize, truncate, remove_frames, clear, notify_dirty, notify_spilled, write, spill, evict_one, switch, Outcome, answer}
use Rattle.model.specs.Rooms.{Room, sweep_of, evicted, enough, sweeping, evict_to, following}
use Rattle.model.specs.Rules.{deleting, hit_with, hit, lookup_found, peek_found, release_with, release_found, delete_found, on_resize, delete_each, on_clear, emptied, clear_unless, notified, write_found, evict_from}
use Rattle.model.specs.Spill.{on_spill, selected, selection, needs_spill, page_spillable}
use Rattle.model.specs.Step.{act}
use Rattle.model.specs.Limits.{RecordInRange, CacheInvariant, ArgumentsInRange}
use Rattle.model.proofs.ByKey.{Stands, stands_own, stands_changed, find_stands}
use Rattle.model.proofs.KeptCases.{either, deleted_or_refused}
use Rattle.model.proofs.KeptOrder.{by_key_length, walk_length}
use Rattle.model.proofs.KeptRows.{kept_fits, fits_kept}
use Rattle.model.proofs.KeptRooms.{Makes, evict_makes, evict_one_makes}
use Rattle.model.proofs.KeptSize.{evictions_size}
use Rattle.model.proofs.KeptPages.{fresh_kept, capacity_kept, switch_kept, leave_kept, without_held, stands_good, touch_kept, rewrite_kept, FitsRecord, more_fits, less_fits, held_kept}
use Rattle.model.proofs.KeptTests.{Passes}
use Rattle.model.proofs.KeptLeaves.{Leaves, leaves_same, leaves_done, leaves_listing, leaves_evicted}
use Rattle.model.proofs.KeptInsertion.{insert_leaves}

module _ {given : Type 0} (c : Cache) (k : CacheInvariant c) where
  -- ── rules 8 and 9 ──────────────────────────────────────────────────────────
  -- a page that stands there is deleted, or rule 8 refuses
  delete_leaves : (key code : ℕ) → code ≤ 10 → (e : Entry) → Stands key c.row e
      → Leaves c (held_in c) given (deleting e.page (answer code 0) c)
  delete_leaves key code low e s = deleted_or_refused (Leaves c (held_in c) given) e.page (answer code 0) c
      (leaves_listing c rest (held_in rest) e.page.handle _ fewer (λ high. omega arith) (leaves_same rest code 0 kept))
      (λ other _ _. leaves_same c other e.page.key k)
    where
      rest : Cache
      rest = leave e.page c

      kept : CacheInvariant rest
      kept = leave_kept e.page c k

      fewer : suc (held_in rest) ≤ held_in c
      fewer = omega (arith, without_held e.page.key c.row e (stands_own key c.row e s))

  delete_found_leaves : (key : ℕ) (v : Option Entry) → find key c.row ≡ v → Leaves c (held_in c) given (delete_found v c)
  delete_found_leaves key none q = leaves_same c 0 0 k
  delete_found_leaves key (some e) q = delete_leaves key 0 (omega arith) e (find_stands key c.row e q)

  -- the page has the holders that could be counted, and after that a hit may touch it
  hit_leaves : (key : ℕ) (asked : Bool) (e : Entry) → Stands key c.row e → Leaves c (held_in c) given (hit key asked e.page c)
  hit_leaves key asked e s = go (one_holder_more e.page.state) asked (more_fits e.page.state)
    where
      go : (r : Holders) (b : Bool) → FitsRecord r → Leaves c (held_in c) given (hit_with key r b e.page c)
      go (Some holders) true small =
          let now : Entry → Entry = rewritten (with_holders e.page.state holders) in
          leaves_done c _ (inl refl) (omega arith)
          (λ _. touch_kept (held_by key holders e.page c) (held_kept c k key e s holders small) key (now e) (stands_changed key c.row e s now s.named))
      go (Some holders) false small = leaves_done c _ (inl refl) (omega arith) (λ _. held_kept c k key e s holders small)
      go None b small = leaves_same c 20 0 k

  lookup_leaves : (key : ℕ) (v : Option Entry) → find key c.row ≡ v → Leaves c (held_in c) given (lookup_found key v c)
  lookup_leaves key none q = leaves_same c 4 0 k
  lookup_leaves key (some e) q =
      let s = find_stands key c.row e q in
      either (Leaves c (held_in c) given) (stale e.page.state)
      (λ _. delete_leaves key 4 (omega arith) e s) (λ _. hit_leaves key true e s)

  peek_leaves : (key : ℕ) (asked : Bool) (v : Option Entry) → find key c.row ≡ v
      → Leaves c (held_in c) given (peek_found key asked v c)
  peek_leaves key asked none q = leaves_same c 4 0 k
  peek_leaves key asked (some e) q = hit_leaves key asked e (find_stands key c.row e q)

  release_leaves : (key : ℕ) (v : Option Entry) → find key c.row ≡ v → Leaves c (held_in c) given (release_found key v c)
  release_leaves key none q = leaves_same c 4 0 k
  release_leaves key (some e) q = go (one_holder_less e.page.state) (less_fits e.page.state (stands_good c k key e s).fit)
    where
      s : Stands key c.row e
      s = find_stands key c.row e q

      go : (r : Holders) → FitsRecord r → Leaves c (held_in c) given (release_with key r e.page c)
      go (Some holders) small = leaves_done c _ (inl refl) (omega arith) (λ _. held_kept c k key e s holders small)
      go None small = leaves_same c 20 0 k

  -- ── evictions, asked for ───────────────────────────────────────────────────
  resize_leaves : (capacity : ℕ) → capacity ≤ c.size → Leaves c (held_in c) given (on_resize capacity c)
  resize_leaves capacity fits = either (Leaves c (held_in c) given) (eqb capacity c.capacity) (λ _. leaves_same c 0 0 k)
      (λ _. either (λ (o : Outcome). Leaves c (held_in c) given (following r o)) r.full (λ _. pending) (λ _. done))
    where
      r : Room
      r = evict_to capacity c

      m : Makes capacity c r
      m = evict_makes capacity c k

      pending : Leaves c (held_in c) given (following r (answer 10 0 r.cache))
      pending = leaves_evicted c r m 10 r.cache (omega arith) (λ _. refl) m.kept

      done : Leaves c (held_in c) given (following r (answer 0 0 (with_capacity capacity r.cache)))
      done = leaves_evicted c r m 0 (with_capacity capacity r.cache) (omega arith) (λ no. absurd (no.not_done refl))
          (capacity_kept capacity r.cache m.kept (omega (arith, evictions_size (held_in c) capacity c)))

  evict_one_leaves : (row : Row) → Leaves c (held_in c) given (evict_from row c)
  evict_one_leaves [] = leaves_same c 14 0 k
  evict_one_leaves (e ∷ es) = either (λ (o : Outcome). Leaves c (held_in c) given (following r o)) r.full
      (λ _. leaves_evicted c r m 8 r.cache (omega arith) (λ _. refl) m.kept) (λ _. leaves_evicted c r m 0 r.cache (omega arith) (λ _. refl) m.kept)
    where
      r : Room
      r = sweeping c (sweep_of c).victim (enough (evicted c))

      m : Makes (held_in (evicted c)) c r
      m = evict_one_makes c k

  -- ── rule 11 ────────────────────────────────────────────────────────────────
  emptied_leaves : Leaves c (held_in c) given (emptied c)
  emptied_leaves = leaves_done c (emptied c) (inl refl) (simp (append-nil, length-map) (omega (arith, by_key_length c.row)))
      (λ _. fits_kept c [] 0 k (omega arith) (record { held = omega arith; good = tt; slots = tt; keys = tt; handles = tt }))

  clear_leaves : (dirty_too : Bool) → Leaves c (held_in c) given (on_clear dirty_too c)
  clear_leaves true = emptied_leaves
  clear_leaves false = go (those (λ p. dirty p.state) (sorted_by_key c.row))
    where
      go : (ps : List Page) → Leaves c (held_in c) given (clear_unless ps c)
      go [] = emptied_leaves
      go (p ∷ ps) = leaves_same c 6 p.key k

  -- ── rule 12 ────────────────────────────────────────────────────────────────
  notified_leaves : (by : ℕ → ℕ) → by c.estimate ≤ estimate_max → (v : Option Entry)
      → Leaves c (held_in c) given (notified by v c)
  notified_leaves by range none = leaves_same c 0 0 k
  notified_leaves by range (some e) = either (Leaves c (held_in c) given) (page_one e.page.key) (λ _. leaves_same c 0 0 k)
      (λ _. leaves_done c _ (inl refl) (omega arith) (λ _. fits_kept c c.row n k range (kept_fits c k)))
    where
      n : ℕ
      n = by c.estimate

  write_leaves : (key : ℕ) (state : PageRecord) → (given → RecordInRange state) → state.flags ≤ all_flags
      → (v : Option Entry) → find key c.row ≡ v → Leaves c (held_in c) given (write_found key state v c)
  write_leaves key state fit flags none q = leaves_same c 4 0 k
  write_leaves key state fit flags (some e) q = leaves_done c (answer 0 0 (rewrite key state c)) (inl refl) (omega arith)
      (λ g. rewrite_kept c k key e (find_stands key c.row e q) state flags (fit g))

  -- ── rules 13 and 14 ────────────────────────────────────────────────────────
  selected_leaves : (ps : List Page) → length ps ≤ held_in c → Leaves c (held_in c) given (selected ps c)
  selected_leaves [] few = leaves_same c 19 0 k
  selected_leaves (p ∷ ps) few = leaves_done c (selected (p ∷ ps) c) (inl refl)
      (omega (arith, length-append (map (λ (q : Page). q.handle) (p ∷ ps)) [], length-map (p ∷ ps) (λ (q : Page). q.handle)))
      (λ _. k)

  spill_leaves : (most : ℕ) → Leaves c (held_in c) given (on_spill most c)
  unfolding selection
  spill_leaves most = either (Leaves c (held_in c) given) (needs_spill c) (λ _. selected_leaves (selection most c) few)
      (λ _. leaves_same c 18 0 k)
    where
      few : length (selection most c) ≤ held_in c
      few = omega (arith, length-take most (those page_spillable (sorted_by_key c.row)), walk_length page_spillable c.row)

-- ── rule 11's deletions, one page after another ──────────────────────────────
-- the last one that was done, or the one that was refused, gives the code
delete_each_code : (ps : List Page) (c : Cache) → (delete_each ps c).code ≤ 7
unfolding delete_each
delete_each_code [] c = omega arith
delete_each_code (p ∷ ps) c = deleted_or_refused (λ (o : Outcome). o.code ≤ 7) p (delete_each ps) c
    (delete_each_code ps (leave p c)) (λ _ _ seven. seven)

delete_each_leaves : {given : Type 0} (ps : List Page) (c : Cache) → CacheInvariant c → Leaves c (length ps) given (delete_each ps c)
unfolding delete_each
delete_each_leaves [] c k = leaves_same c 0 0 k
delete_each_leaves {given} (p ∷ ps) c k = deleted_or_refused (Leaves c (suc (length ps)) given) p (delete_each ps) c
    (leaves_listing c rest (length ps) p.handle _ (omega arith) low (delete_each_leaves ps rest (leave_kept p c k)))
    (λ code _ _. leaves_same c code p.key k)
  where
    rest : Cache
    rest = leave p c

    low : 11 ≤ (delete_each ps rest).code → ⊥
    low high = omega (arith, delete_each_code ps rest)

delete_those_leaves : {given : Type 0} (test : Page → Bool) (c : Cache) → CacheInvariant c
    → Leaves c (held_in c) given (delete_each (those test (sorted_by_key c.row)) c)
delete_those_leaves {given} test c k =
    let ps : List Page = those test (sorted_by_key c.row) in
    let l : Leaves c (length ps) given (delete_each ps c) = delete_each_leaves ps c k in
    record { kept = l.kept; listed = omega (arith, l.listed, walk_length test c.row); refused = l.refused; unlisted = l.unlisted }

-- ── every call that passed the tests ─────────────────────────────────────────
pub act_leaves : (call : Call) (c : Cache) → CacheInvariant c → Passes call c → Leaves c (held_in c) (ArgumentsInRange call) (act call c)
unfolding act
act_leaves (create capacity) c k t = leaves_done c (answer 0 0 (fresh c.size capacity)) (inl refl) (omega arith)
    (λ _. fresh_kept c.size capacity (ltb-false c.size capacity t.capacity))
act_leaves (insert how key handle state places) c k t =
    insert_leaves key handle state (ltb-false all_flags state.flags t.state) how c k t.naming
act_leaves (lookup key places) c k t = lookup_leaves c k key (find key c.row) refl
act_leaves (peek key asked) c k t = peek_leaves c k key asked (find key c.row) refl
act_leaves (release key) c k t = release_leaves c k key (find key c.row) refl
act_leaves (delete key places) c k t = delete_found_leaves c k key (find key c.row) refl
act_leaves (resize capacity places) c k t = resize_leaves c k capacity (ltb-false c.size capacity t.capacity)
act_leaves (truncate limit places) c k t = delete_those_leaves _ c k
act_leaves (remove_frames limit places) c k t = delete_those_leaves _ c k
act_leaves (clear dirty_too places) c k t = clear_leaves c k dirty_too
act_leaves (notify_dirty key) c k t = notified_leaves c k down (omega (arith, k.estimate)) (find key c.row)
act_leaves (notify_spilled key) c k t = notified_leaves c k up (omega arith) (find key c.row)
act_leaves (write key state) c k t =
    write_leaves c k key state (λ fit. fit) (ltb-false all_flags state.flags t.state) (find key c.row) refl
act_leaves (spill most places) c k t = spill_leaves c k most
act_leaves (evict_one places) c k t = evict_one_leaves c k c.row
act_leaves (switch on) c k t = leaves_done c (answer 0 0 (with_spill on c)) (inl refl) (omega arith) (λ _. switch_kept on c k)
