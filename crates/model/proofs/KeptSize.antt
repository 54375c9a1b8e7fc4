-- No call changes the number of slots: every rule builds the cache that it leaves from the one that it was given, with the
-- same size.
use Rattle.std.specs.Prelude.{Some, None}
use mathlib.Core.Bool.{Bool, true, false}
use mathlib.Core.List.{List, [], ◌∷◌}
use mathlib.Core.Option.{Option, none, some}
use mathlib.Core.Path.{◌≡◌, refl, ◌∙◌}
use Prim.Native.Nat.{ℕ, zero, suc, ◌-◌}
use lib.Dec.{eqb, ltb}
use Rattle.page.specs.Cache.{page_one}
use Rattle.page.specs.Record.{Holders, stale, one_holder_more, one_holder_less}
use Rattle.page.specs.declared.record.PageRecord.{PageRecord}
use Rattle.model.specs.Row.{Page, Entry, Row, find, sorted_by_key, those}
use Rattle.model.specs.Cache.{Cache, held_in, leave}
use Rattle.model.specs.Call.{Call, create, insert, lookup, peek, release, delete, resize, truncate, remove_frames, clear, notify_dirty, notify_spilled, write, spill, evict_one, switch, Insertion, plain, forced, upsert, Outcome, answer}
use Rattle.model.specs.Rooms.{Room, sweep_of, evicted, enough, sweeping, evictions, evict_to, make_room}
use Rattle.model.specs.Rules.{deleting, on_insert, insert_found, admit, on_full, present, key_exists, hit_with, lookup_found, peek_found, release_with, release_found, delete_found, on_resize, delete_each, on_clear, clear_unless, notified, write_found, evict_from}
use Rattle.model.specs.Spill.{on_spill, selected, selection, needs_spill}
use Rattle.model.specs.Step.{act, tested, step}
use Rattle.model.specs.Tests.{refusal}
use Rattle.model.proofs.KeptCases.{either, deleted_or_refused}

abbrev SameSize : Cache → Outcome → Type 0
SameSize c o = o.cache.size ≡ c.size

-- ── rooms ────────────────────────────────────────────────────────────────────
abbrev pub SameRoom : Cache → Room → Type 0
SameRoom c r = r.cache.size ≡ c.size

sweeping_size : (c : Cache) (v : Option Page) (r : Room) → SameRoom c r → SameRoom c (sweeping c v r)
sweeping_size c none r h = refl
sweeping_size c (some p) r h = h

pub evictions_size : (n target : ℕ) (c : Cache) → SameRoom c (evictions n target c)
unfolding evictions
evictions_size zero target c = refl
evictions_size (suc n) target c = either (SameRoom c) (ltb target (held_in c))
    (λ _. sweeping_size c (sweep_of c).victim _ (evictions_size n target (evicted c))) (λ _. refl)

pub make_room_size : (c : Cache) → SameRoom c (make_room c)
unfolding make_room
make_room_size c = either (SameRoom c) (eqb c.capacity 0) (λ _. refl) (λ _. evictions_size (held_in c) (c.capacity - 1) c)

-- ── insertion ────────────────────────────────────────────────────────────────
module _ (key handle : ℕ) (state : PageRecord) where
  full_size : (how : Insertion) (c : Cache) → SameSize c (on_full key handle state how c)
  full_size plain c = refl
  full_size forced c = either (SameSize c) (ltb (held_in c) c.size) (λ _. refl) (λ _. refl)
  full_size upsert c = either (SameSize c) (ltb (held_in c) c.size) (λ _. refl) (λ _. refl)

  admit_size : (how : Insertion) (c : Cache) → SameSize c (admit key handle state how c)
  admit_size how c = either (SameSize c) (make_room c).full
      (λ _. full_size how (make_room c).cache ∙ make_room_size c) (λ _. make_room_size c)

  exists_size : (p : Page) (c : Cache) → SameSize c (key_exists key handle state p c)
  exists_size p c = either (SameSize c) (eqb p.handle handle) (λ _. refl) (λ _. refl)

  present_size : (how : Insertion) (p : Page) (c : Cache) → SameSize c (present key handle state how p c)
  present_size plain p c = exists_size p c
  present_size forced p c = exists_size p c
  present_size upsert p c = refl

  stale_size : (how : Insertion) (p : Page) (c : Cache) → SameSize c (deleting p (admit key handle state how) c)
  stale_size how p c =
      deleted_or_refused (SameSize c) p (admit key handle state how) c (admit_size how (leave p c)) (λ _ _ _. refl)

  insert_size : (how : Insertion) (v : Option Entry) (c : Cache) → SameSize c (insert_found key handle state how v c)
  insert_size how none c = admit_size how c
  insert_size how (some e) c = either (SameSize c) (stale e.page.state)
      (λ _. stale_size how e.page c) (λ _. present_size how e.page c)

-- ── the other rules ──────────────────────────────────────────────────────────
hit_size : (key : ℕ) (r : Holders) (asked : Bool) (p : Page) (c : Cache) → SameSize c (hit_with key r asked p c)
hit_size key (Some holders) true p c = refl
hit_size key (Some holders) false p c = refl
hit_size key None asked p c = refl

lookup_size : (key : ℕ) (v : Option Entry) (c : Cache) → SameSize c (lookup_found key v c)
lookup_size key none c = refl
lookup_size key (some e) c = either (SameSize c) (stale e.page.state)
    (λ _. deleted_or_refused (SameSize c) e.page (answer 4 0) c refl (λ _ _ _. refl)) (λ _. hit_size key (one_holder_more e.page.state) true e.page c)

peek_size : (key : ℕ) (asked : Bool) (v : Option Entry) (c : Cache) → SameSize c (peek_found key asked v c)
peek_size key asked none c = refl
peek_size key asked (some e) c = hit_size key (one_holder_more e.page.state) asked e.page c

release_size : (key : ℕ) (v : Option Entry) (c : Cache) → SameSize c (release_found key v c)
release_size key none c = refl
release_size key (some e) c = go (one_holder_less e.page.state)
  where
    go : (r : Holders) → SameSize c (release_with key r e.page c)
    go (Some holders) = refl
    go None = refl

delete_size : (v : Option Entry) (c : Cache) → SameSize c (delete_found v c)
delete_size none c = refl
delete_size (some e) c = deleted_or_refused (SameSize c) e.page (answer 0 0) c refl (λ _ _ _. refl)

resize_size : (capacity : ℕ) (c : Cache) → SameSize c (on_resize capacity c)
resize_size capacity c =
    let same : SameRoom c (evict_to capacity c) = evictions_size (held_in c) capacity c in
    either (SameSize c) (eqb capacity c.capacity) (λ _. refl)
    (λ _. either (SameSize c) (evict_to capacity c).full (λ _. same) (λ _. same))

delete_each_size : (ps : List Page) (c : Cache) → SameSize c (delete_each ps c)
unfolding delete_each
delete_each_size [] c = refl
delete_each_size (p ∷ ps) c =
    deleted_or_refused (SameSize c) p (delete_each ps) c (delete_each_size ps (leave p c)) (λ _ _ _. refl)

clear_size : (dirty_too : Bool) (c : Cache) → SameSize c (on_clear dirty_too c)
clear_size true c = refl
clear_size false c = go (those _ (sorted_by_key c.row))
  where
    go : (ps : List Page) → SameSize c (clear_unless ps c)
    go [] = refl
    go (p ∷ ps) = refl

notified_size : (by : ℕ → ℕ) (v : Option Entry) (c : Cache) → SameSize c (notified by v c)
notified_size by none c = refl
notified_size by (some e) c = either (SameSize c) (page_one e.page.key) (λ _. refl) (λ _. refl)

write_size : (key : ℕ) (state : PageRecord) (v : Option Entry) (c : Cache) → SameSize c (write_found key state v c)
write_size key state none c = refl
write_size key state (some e) c = refl

spill_size : (most : ℕ) (c : Cache) → SameSize c (on_spill most c)
spill_size most c = either (SameSize c) (needs_spill c) (λ _. go (selection most c)) (λ _. refl)
  where
    go : (ps : List Page) → SameSize c (selected ps c)
    go [] = refl
    go (p ∷ ps) = refl

evict_one_size : (row : Row) (c : Cache) → SameSize c (evict_from row c)
evict_one_size [] c = refl
evict_one_size (e ∷ es) c =
    let same = sweeping_size c (sweep_of c).victim (enough (evicted c)) refl in
    either (SameSize c) (sweeping c (sweep_of c).victim (enough (evicted c))).full (λ _. same) (λ _. same)

act_size : (call : Call) (c : Cache) → SameSize c (act call c)
unfolding act on_insert
act_size (create capacity) c = refl
act_size (insert how key handle state places) c = insert_size key handle state how (find key c.row) c
act_size (lookup key places) c = lookup_size key (find key c.row) c
act_size (peek key asked) c = peek_size key asked (find key c.row) c
act_size (release key) c = release_size key (find key c.row) c
act_size (delete key places) c = delete_size (find key c.row) c
act_size (resize capacity places) c = resize_size capacity c
act_size (truncate limit places) c = delete_each_size _ c
act_size (remove_frames limit places) c = delete_each_size _ c
act_size (clear dirty_too places) c = clear_size dirty_too c
act_size (notify_dirty key) c = notified_size _ (find key c.row) c
act_size (notify_spilled key) c = notified_size _ (find key c.row) c
act_size (write key state) c = write_size key state (find key c.row) c
act_size (spill most places) c = spill_size most c
act_size (evict_one places) c = evict_one_size c.row c
act_size (switch on) c = refl

pub step_size : (call : Call) (c : Cache) → (step call c).cache.size ≡ c.size
unfolding step
step_size call c = go (refusal call c)
  where
    go : (code : ℕ) → SameSize c (tested code call c)
    go zero = act_size call c
    go (suc n) = refl
