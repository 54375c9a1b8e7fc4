-- An outcome counts the touch that a call does to a page and the uses that its evictions take away, and no others. Rule by rule, for
-- every call; a run adds them up.
use Rattle.std.specs.Prelude.{Ok, Err, Result, Some, None}
use mathlib.Core.Bool.{Bool, true, false}
use mathlib.Core.List.{List, [], ◌∷◌, ◌++◌, append-nil}
use mathlib.Core.Option.{Option, none, some}
use mathlib.Core.Path.{◌≡◌, refl, ap, ◌∙◌}
use Prim.Native.Nat.{ℕ, zero, suc, ◌+◌, ◌-◌}
use native.Mathlib.Omega.{arith}
use lib.Dec.{eqb, ltb}
use lib.ListN.{length}
use Rattle.page.specs.Cache.{page_one}
use Rattle.page.specs.Entry.{raised}
use Rattle.page.specs.Record.{Holders, dirty, stale, deletable, with_holders, one_holder_more, one_holder_less}
use Rattle.page.specs.declared.record.Hindrance.{Hindrance}
use Rattle.page.specs.declared.record.Hindrance.TheVariants.{Locked, Dirty, Pinned}
use Rattle.page.specs.declared.record.PageRecord.{PageRecord}
use Rattle.model.specs.Row.{Page, Entry, Row, total, find, sorted_by_key, those}
use Rattle.model.specs.Sweep.{touched}
use Rattle.model.specs.Cache.{Cache, held_in, with_capacity, up, down, leave, new_page, touch, rewritten, replaced_entry}
use Rattle.model.specs.Call.{Insertion, plain, forced, upsert, Call, create, insert, lookup, peek, release, delete, resize, truncate, remove_frames, clear, notify_dirty, notify_spilled, write, spill, evict_one, switch, Outcome, answer, listing, touching}
use Rattle.model.specs.Tests.{refusal}
use Rattle.model.specs.Limits.{CacheInvariant}
use Rattle.model.specs.Rooms.{Room, sweep_of, evicted, enough, sweeping, evict_to, make_room, following}
use Rattle.model.specs.Evictions.{EvictsTo}
use Rattle.model.specs.Evictions as evictions
use Rattle.model.specs.Rules.{deleting, delete_found, place, place_if_free, on_full, in_room, admit, key_exists, present, insert_found, on_insert, hit_with, hit, lookup_found, peek_found, release_with, release_found, on_resize, delete_each, newer_than, emptied, clear_unless, on_clear, notified, write_found, evict_from}
use Rattle.model.specs.Spill.{needs_spill, selection, selected, on_spill}
use Rattle.model.specs.Step.{act, tested, step, run, run_touches, run_falls}
use Rattle.model.specs.Uses.{Evicting, neither, touches, evicts, room_effect, present_effect, insert_effect, hit_effect_with, hit_effect, lookup_effect, peek_effect, resize_effect, evict_effect, rule_effect, unless_refused, effect_of, touches_of, Touched, Enters, stays, enters, NoEvictions, EvictionsOf, Fell, Counts}
use Rattle.model.proofs.ByKey.{Stands, find_stands, stands_own, stands_change, stands_changed}
use Rattle.model.proofs.Evictions.{sweeping_evicts, evict_to_evicts, evicts_total}
use Rattle.model.proofs.KeptCases.{either, deleted_or_refused}
use Rattle.model.proofs.KeptPages.{leave_kept}
use Rattle.model.proofs.KeptRooms.{evicted_held}
use Rattle.model.proofs.Totals.{total_enter}

-- ── neither a touch nor an eviction ──────────────────────────────────────────
-- the outcome counts neither, from any row
abbrev Plain : Outcome → Type 0
Plain o = (row : Row) → Counts neither row o

answered : {code value : ℕ} {c : Cache} → Plain (answer code value c)
answered row = record { touches = refl; evictions = record { passed = refl; falls = refl } }

-- listing handles counts nothing
listed_plain : (handles : List ℕ) {o : Outcome} → Plain o → Plain (listing handles o)
listed_plain handles n row = record { touches = (n row).touches; evictions = record { passed = (n row).evictions.passed; falls = (n row).evictions.falls } }

deleting_plain : (p : Page) (follow : Cache → Outcome) (c : Cache) → Plain (follow (leave p c)) → Plain (deleting p follow c)
deleting_plain p follow c n = deleted_or_refused Plain p follow c (listed_plain (p.handle ∷ []) n) (λ _ _ _. answered)

delete_plain : (found : Option Entry) (c : Cache) → Plain (delete_found found c)
delete_plain none c = answered
delete_plain (some e) c = deleting_plain e.page (answer 0 0) c answered

delete_each_plain : (ps : List Page) (c : Cache) → Plain (delete_each ps c)
unfolding delete_each
delete_each_plain [] c = answered
delete_each_plain (p ∷ ps) c = deleting_plain p (delete_each ps) c (delete_each_plain ps (leave p c))

emptied_plain : (c : Cache) → Plain (emptied c)
emptied_plain c row = record { touches = refl; evictions = record { passed = refl; falls = refl } }

clear_unless_plain : (ps : List Page) (c : Cache) → Plain (clear_unless ps c)
clear_unless_plain [] c = emptied_plain c
clear_unless_plain (p ∷ ps) c = answered

clear_plain : (dirty_too : Bool) (c : Cache) → Plain (on_clear dirty_too c)
clear_plain true c = emptied_plain c
clear_plain false c = clear_unless_plain (those (λ p. dirty p.state) (sorted_by_key c.row)) c

notify_plain : (by : ℕ → ℕ) (found : Option Entry) (c : Cache) → Plain (notified by found c)
notify_plain by none c = answered
notify_plain by (some e) c = either Plain (page_one e.page.key) (λ _. answered) (λ _. answered)

write_plain : (key : ℕ) (state : PageRecord) (found : Option Entry) (c : Cache) → Plain (write_found key state found c)
write_plain key state none c = answered
write_plain key state (some e) c = answered

release_plain : (key : ℕ) (found : Option Entry) (c : Cache) → Plain (release_found key found c)
release_plain key none c = answered
release_plain key (some e) c = go (one_holder_less e.page.state)
  where
    go : (r : Holders) → Plain (release_with key r e.page c)
    go (Some holders) = answered
    go None = answered

selected_plain : (ps : List Page) (c : Cache) → Plain (selected ps c)
selected_plain [] c row = answered row
selected_plain (p ∷ ps) c row = record { touches = refl; evictions = record { passed = refl; falls = refl } }

spill_plain : (most : ℕ) (c : Cache) → Plain (on_spill most c)
spill_plain most c = either Plain (needs_spill c) (λ _. selected_plain (selection most c) c) (λ _. answered)

-- ── a touch ──────────────────────────────────────────────────────────────────
-- an outcome with one touch that raised the count of the page that stands there, and did not move it
touched_counts : {key : ℕ} {row : Row} {e : Entry} (s : Stands key row e) (o : Outcome) (e' : Entry) → o.touches ≡ 1
    → o.cache.row ≡ s.before ++ e' ∷ s.after → e'.page.key ≡ e.page.key → e'.uses ≡ raised e.uses
    → NoEvictions o → Counts (touches e.page) row o
touched_counts {e = e} s o e' one row key uses idle = record {
  touches = record {
    counted = one;
    before = s.before;
    e = e;
    e' = e';
    after = s.after;
    was = s.parts;
    is = row;
    key_was = refl;
    key_is = key;
    uses = uses;
  };
  evictions = idle;
}

-- one holder more, and then a touch or none
hit_counts : (key : ℕ) (asked : Bool) (c : Cache) (e : Entry) → Stands key c.row e
    → Counts (hit_effect asked e.page) c.row (hit key asked e.page c)
hit_counts key asked c e s = go (one_holder_more e.page.state) asked
  where
    go : (r : Holders) (b : Bool) → Counts (hit_effect_with r b e.page) c.row (hit_with key r b e.page c)
    go (Some holders) true =
        let now : Entry → Entry = rewritten (with_holders e.page.state holders) in
        touched_counts s (hit_with key (Some holders) true e.page c) (touched (now e)) refl
        (stands_change key _ (now e) (stands_changed key c.row e s now s.named) touched) refl refl
        (record { passed = refl; falls = refl })
    go (Some holders) false = answered c.row
    go None b = answered c.row

lookup_counts : (key : ℕ) (found : Option Entry) (c : Cache) → find key c.row ≡ found
    → Counts (lookup_effect found) c.row (lookup_found key found c)
lookup_counts key none c q = answered c.row
lookup_counts key (some e) c q = go (stale e.page.state)
  where
    go : (b : Bool) → Counts (elim b [ true ↦ neither | false ↦ hit_effect true e.page ]) c.row
        (elim b [ true ↦ deleting e.page (answer 4 0) c | false ↦ hit key true e.page c ])
    go true = deleting_plain e.page (answer 4 0) c answered c.row
    go false = hit_counts key true c e (find_stands key c.row e q)

peek_counts : (key : ℕ) (asked : Bool) (found : Option Entry) (c : Cache) → find key c.row ≡ found
    → Counts (peek_effect asked found) c.row (peek_found key asked found c)
peek_counts key asked none c q = answered c.row
peek_counts key asked (some e) c q = hit_counts key asked c e (find_stands key c.row e q)

-- ── evictions ────────────────────────────────────────────────────────────────
-- what follows evictions that left the cache d: nothing is counted or listed, and at most a new page comes
record Settles (d : Cache) (o : Outcome) : Type 0 where
  touches : ◌≡◌ {A = ℕ} o.touches 0
  passed : ◌≡◌ {A = ℕ} o.passed 0
  falls : ◌≡◌ {A = ℕ} o.falls 0
  listed : o.listed ≡ []
  row : Enters d.row o.cache.row

settled : {code value : ℕ} {d : Cache} → Settles d (answer code value d)
settled = record { touches = refl; passed = refl; falls = refl; listed = refl; row = stays }

resettled : {code value capacity : ℕ} {d : Cache} → Settles d (answer code value (with_capacity capacity d))
resettled = record { touches = refl; passed = refl; falls = refl; listed = refl; row = stays }

-- the evictions are in the whole outcome
evictions_count : {x : Evicting} {r : Room} {o : Outcome} {row : Row} → EvictsTo x.target x.from r → Settles r.cache o
    → Counts (evicts x.from x.target x.listed) row (listing x.listed (following r o))
evictions_count {x} {r} {o} by s = record {
  touches = s.touches;
  evictions = record {
    room = r;
    evictions = by;
    passed = omega (arith, s.passed);
    falls = omega (arith, s.falls);
    listed = ap (λ (l : List ℕ). x.listed ++ (r.gone ++ l)) s.listed ∙ ap (λ (l : List ℕ). x.listed ++ l) (append-nil r.gone);
    row = s.row;
  };
}

-- ── rules 5, 6 and 7: insertion ──────────────────────────────────────────────
module _ (key handle : ℕ) (state : PageRecord) where
  place_settles : (c : Cache) → Settles c (place key handle state c)
  place_settles c = record { touches = refl; passed = refl; falls = refl; listed = refl; row = enters (new_page key handle state c) }

  forced_settles : (c : Cache) → Settles c (place_if_free key handle state c)
  forced_settles c = either (Settles c) (ltb (held_in c) c.size) (λ _. place_settles c) (λ _. settled)

  full_settles : (how : Insertion) (c : Cache) → Settles c (on_full key handle state how c)
  full_settles plain c = settled
  full_settles forced c = forced_settles c
  full_settles upsert c = forced_settles c

  -- room is made or not: with capacity 0 there is no sweep
  room_counts : (how : Insertion) (listed : List ℕ) (c : Cache) (row : Row) → CacheInvariant c
      → Counts (room_effect c listed) row (listing listed (admit key handle state how c))
  unfolding make_room
  room_counts how listed c row k = go (eqb c.capacity 0)
    where
      go : (b : Bool) → Counts (elim b [ true ↦ neither | false ↦ evicts c (c.capacity - 1) listed ]) row (listing listed (in_room key handle state how (elim b [
        | true ↦ record { full = true; passed = 0; falls = 0; gone = []; cache = c }
        | false ↦ evict_to (c.capacity - 1) c
      ])))
      go true =
          let s = full_settles how c in
          record { touches = s.touches; evictions = record { passed = omega (arith, s.passed); falls = omega (arith, s.falls) } }
      go false =
          let r : Room = evict_to (c.capacity - 1) c in
          evictions_count {x = record { from = c; target = c.capacity - 1; listed = listed }} (evict_to_evicts (c.capacity - 1) c k)
          (either (Settles r.cache) r.full (λ _. full_settles how r.cache) (λ _. place_settles r.cache))

  exists_counts : (c : Cache) (e : Entry) → Stands key c.row e
      → Counts (elim (eqb e.page.handle handle) [ true ↦ touches e.page | false ↦ neither ]) c.row (key_exists key handle state e.page c)
  exists_counts c e s = go (eqb e.page.handle handle)
    where
      go : (b : Bool) → Counts (elim b [ true ↦ touches e.page | false ↦ neither ]) c.row
          (elim b [ true ↦ touching (answer 9 0 (touch key c)) | false ↦ answer 11 0 c ])
      go true =
          touched_counts s (touching (answer 9 0 (touch key c))) (touched e) refl (stands_change key c.row e s touched) refl refl
          (record { passed = refl; falls = refl })
      go false = answered c.row

  -- a touch, and then another handle and record in the same place
  upsert_counts : (c : Cache) (e : Entry) → Stands key c.row e → Counts (touches e.page) c.row (present key handle state upsert e.page c)
  upsert_counts c e s =
      let there = stands_own key _ (touched e) (stands_changed key c.row e s touched s.named) in
      touched_counts s (present key handle state upsert e.page c) (replaced_entry handle state (touched e)) refl
      (stands_change e.page.key _ (touched e) there (replaced_entry handle state)) refl refl (record { passed = refl; falls = refl })

  present_counts : (how : Insertion) (c : Cache) (e : Entry) → Stands key c.row e
      → Counts (present_effect how handle e.page) c.row (present key handle state how e.page c)
  present_counts plain c e s = exists_counts c e s
  present_counts forced c e s = exists_counts c e s
  present_counts upsert c e s = upsert_counts c e s

  insert_counts : (how : Insertion) (found : Option Entry) (c : Cache) → CacheInvariant c → find key c.row ≡ found
      → Counts (insert_effect how handle found c) c.row (insert_found key handle state how found c)
  insert_counts how none c k q = room_counts how [] c c.row k
  insert_counts how (some e) c k q = go (stale e.page.state)
    where
      p : Page
      p = e.page

      deleted : (d : Result Unit Hindrance) → Counts (elim d [
        | Ok _ ↦ room_effect (leave p c) (p.handle ∷ [])
        | Err Locked ↦ neither
        | Err Dirty ↦ neither
        | Err Pinned ↦ neither
      ]) c.row (elim d [
        | Ok _ ↦ listing (p.handle ∷ []) (admit key handle state how (leave p c))
        | Err Locked ↦ answer 5 p.key c
        | Err Dirty ↦ answer 6 p.key c
        | Err Pinned ↦ answer 7 p.key c
      ])
      deleted (Ok _) = room_counts how (p.handle ∷ []) (leave p c) c.row (leave_kept p c k)
      deleted (Err Locked) = answered c.row
      deleted (Err Dirty) = answered c.row
      deleted (Err Pinned) = answered c.row

      go : (b : Bool) → Counts (elim b [
        | true ↦ elim (deletable p.state) [
          | Ok _ ↦ room_effect (leave p c) (p.handle ∷ [])
          | Err Locked ↦ neither
          | Err Dirty ↦ neither
          | Err Pinned ↦ neither
        ]
        | false ↦ present_effect how handle p
      ]) c.row (elim b [ true ↦ deleting p (admit key handle state how) c | false ↦ present key handle state how p c ])
      go true = deleted (deletable p.state)
      go false = present_counts how c e (find_stands key c.row e q)

-- ── rule 10, and one eviction asked for ──────────────────────────────────────
resize_counts : (capacity : ℕ) (c : Cache) → CacheInvariant c → Counts (resize_effect capacity c) c.row (on_resize capacity c)
resize_counts capacity c k = go (eqb capacity c.capacity)
  where
    r : Room
    r = evict_to capacity c

    go : (b : Bool) → Counts (elim b [ true ↦ neither | false ↦ evicts c capacity [] ]) c.row (elim b [
      | true ↦ answer 0 0 c
      | false ↦ following r (elim r.full [ true ↦ answer 10 0 r.cache | false ↦ answer 0 0 (with_capacity capacity r.cache) ])
    ])
    go true = answered c.row
    go false = evictions_count {x = record { from = c; target = capacity; listed = [] }} (evict_to_evicts capacity c k)
        (either (Settles r.cache) r.full (λ _. settled) (λ _. resettled))

evict_counts : (row : Row) (c : Cache) → CacheInvariant c → c.row ≡ row → Counts (evict_effect row c) c.row (evict_from row c)
evict_counts [] c k q = answered c.row
evict_counts (e ∷ es) c k q =
    let r : Room = sweeping c (sweep_of c).victim (enough (evicted c)) in
    let held : held_in c ≡ suc (length es) = ap length q in
    evictions_count {x = record { from = c; target = length es; listed = [] }}
    (sweeping_evicts (length es) c (enough (evicted c)) k (omega (arith, held)) (λ p took. evictions.enough (omega (arith, held, evicted_held c k p took))))
    (either (Settles r.cache) r.full (λ _. settled) (λ _. settled))

-- ── every call ───────────────────────────────────────────────────────────────
act_counts : (call : Call) (c : Cache) → CacheInvariant c → Counts (rule_effect call c) c.row (act call c)
unfolding act on_insert
act_counts (create capacity) c k = answered c.row
act_counts (insert how key handle state places) c k = insert_counts key handle state how (find key c.row) c k refl
act_counts (lookup key places) c k = lookup_counts key (find key c.row) c refl
act_counts (peek key asked) c k = peek_counts key asked (find key c.row) c refl
act_counts (release key) c k = release_plain key (find key c.row) c c.row
act_counts (delete key places) c k = delete_plain (find key c.row) c c.row
act_counts (resize capacity places) c k = resize_counts capacity c k
act_counts (truncate limit places) c k = delete_each_plain (those (λ p. ltb limit p.key) (sorted_by_key c.row)) c c.row
act_counts (remove_frames limit places) c k = delete_each_plain (those (newer_than limit) (sorted_by_key c.row)) c c.row
act_counts (clear dirty_too places) c k = clear_plain dirty_too c c.row
act_counts (notify_dirty key) c k = notify_plain down (find key c.row) c c.row
act_counts (notify_spilled key) c k = notify_plain up (find key c.row) c c.row
act_counts (write key state) c k = write_plain key state (find key c.row) c c.row
act_counts (spill most places) c k = spill_plain most c c.row
act_counts (evict_one places) c k = evict_counts c.row c k refl
act_counts (switch on) c k = answered c.row

-- the touch of every call and what it does to the page, and its evictions, each by demand 3, with the uses that fall in it
pub step_counts : (call : Call) (c : Cache) → CacheInvariant c → Counts (effect_of call c) c.row (step call c)
unfolding step
step_counts call c k = go (refusal call c)
  where
    go : (code : ℕ) → Counts (unless_refused code (rule_effect call c)) c.row (tested code call c)
    go zero = act_counts call c k
    go (suc n) = answered c.row

-- ── the two numbers ──────────────────────────────────────────────────────────
-- one touch or none
pub touches_exact : (call : Call) (c : Cache) → CacheInvariant c → (step call c).touches ≡ touches_of (effect_of call c).touched
touches_exact call c k = go (effect_of call c).touched (step_counts call c k).touches
  where
    go : (key : Option ℕ) → Touched key c.row (step call c) → (step call c).touches ≡ touches_of key
    go none t = t
    go (some key) t = t.counted

-- a new page has no uses
enters_total : {row row' : Row} → Enters row row' → total row' ≡ total row
enters_total stays = refl
enters_total {row} (enters p) = total_enter p row

-- what fell is the total before the evictions minus the total after the call
pub falls_exact : (call : Call) (c : Cache) → CacheInvariant c → Fell (effect_of call c).evicting (step call c).cache (step call c).falls
falls_exact call c k = go (effect_of call c).evicting (step_counts call c k).evictions
  where
    go : (x : Option Evicting) → EvictionsOf x (step call c) → Fell x (step call c).cache (step call c).falls
    go none idle = idle.falls
    go (some x) by = omega (arith, by.falls, enters_total by.row, evicts_total x.target by.evictions)

-- ── runs ─────────────────────────────────────────────────────────────────────
-- a run counts what its calls count: nothing for no call, and one call more adds what that call counts
pub run_touches_none : (c : Cache) → ◌≡◌ {A = ℕ} (run_touches [] c) 0
unfolding run_touches
run_touches_none c = refl

pub run_touches_more : (calls : List Call) (call : Call) (c : Cache)
    → run_touches (calls ++ call ∷ []) c ≡ run_touches calls c + (step call (run calls c)).touches
unfolding run run_touches
run_touches_more [] call c = omega arith
run_touches_more (x ∷ xs) call c = omega (arith, run_touches_more xs call (step x c).cache)

pub run_falls_none : (c : Cache) → ◌≡◌ {A = ℕ} (run_falls [] c) 0
unfolding run_falls
run_falls_none c = refl

pub run_falls_more : (calls : List Call) (call : Call) (c : Cache)
    → run_falls (calls ++ call ∷ []) c ≡ run_falls calls c + (step call (run calls c)).falls
unfolding run run_falls
run_falls_more [] call c = omega arith
run_falls_more (x ∷ xs) call c = omega (arith, run_falls_more xs call (step x c).cache)
