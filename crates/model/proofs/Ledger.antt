-- Sweeps take away no more uses than there were touches: uses come into a row by touches alone, so what sweeps took away and
-- what the row has left is never more than the touches and what the row had. Call by call, and so over a run.
use Rattle.std.specs.Prelude.{Ok, Err, Result, Some, None}
use mathlib.Core.Bool.{Bool, true, false}
use mathlib.Core.List.{List, [], ◌∷◌}
use mathlib.Core.Option.{Option, none, some}
use Prim.Native.Nat.{ℕ, zero, suc, ◌+◌, ◌-◌, ◌≤◌}
use native.Mathlib.Omega.{arith}
use lib.Dec.{eqb, ltb}
use Rattle.page.specs.Cache.{page_one}
use Rattle.page.specs.Record.{Holders, dirty, stale, deletable, with_holders, one_holder_more, one_holder_less}
use Rattle.page.specs.declared.record.Hindrance.{Hindrance}
use Rattle.page.specs.declared.record.Hindrance.TheVariants.{Locked, Dirty, Pinned}
use Rattle.page.specs.declared.record.PageRecord.{PageRecord}
use Rattle.model.specs.Row.{Page, Entry, Row, find, change, sorted_by_key, those, total}
use Rattle.model.specs.Sweep.{touched}
use Rattle.model.specs.Cache.{Cache, held_in, fresh, page_may_go, up, down, leave, new_page, rewritten, replaced_entry}
use Rattle.model.specs.Call.{Insertion, plain, forced, upsert, Call, create, insert, lookup, peek, release, delete, resize, truncate, remove_frames, clear, notify_dirty, notify_spilled, write, spill, evict_one, switch, Outcome, answer, listing, touching}
use Rattle.model.specs.Tests.{refusal}
use Rattle.model.specs.Rooms.{Room, sweep_of, evicted, enough, sweeping, evictions, evict_to, make_room, following}
use Rattle.model.specs.Rules.{deleting, delete_found, place, on_full, admit, key_exists, present, insert_found, on_insert, hit_with, hit, lookup_found, peek_found, release_with, release_found, on_resize, delete_each, newer_than, emptied, clear_unless, on_clear, notified, write_found, evict_from}
use Rattle.model.specs.Spill.{needs_spill, selection, selected, on_spill}
use Rattle.model.specs.Step.{act, tested, step, run, run_touches, run_falls}
use Rattle.model.proofs.Totals.{sweep_total, total_change, total_without, total_enter}
use Rattle.model.proofs.KeptCases.{either}

-- of an outcome from a row: the uses that fell and those left are no more than the touches and the uses that were there
record Balanced (row : Row) (o : Outcome) : Type 0 where
  balance : o.falls + total o.cache.row ≤ o.touches + total row

-- of evictions from a row: the same, and there is no touch
record Paid (row : Row) (r : Room) : Type 0 where
  balance : r.falls + total r.cache.row ≤ total row

-- ── the parts that outcomes are put together from ────────────────────────────
-- an answer that leaves the row, or one with no more uses
still : {code value : ℕ} {c : Cache} → Balanced c.row (answer code value c)
still = record { balance = omega arith }

fewer_uses : {code value : ℕ} {row : Row} {c : Cache} → total c.row ≤ total row → Balanced row (answer code value c)
fewer_uses h = record { balance = omega arith }

-- a touch pays for one use more
touch_pays : {code value : ℕ} {row : Row} {c : Cache} → total c.row ≤ 1 + total row → Balanced row (touching (answer code value c))
touch_pays h = record { balance = omega arith }

-- what the evictions left is balanced, and so is the whole
after_evictions : {row : Row} {r : Room} {o : Outcome} → Paid row r → Balanced r.cache.row o → Balanced row (following r o)
after_evictions p h = record { balance = omega arith }

-- a test, both ways
both_ways : {row : Row} (b : Bool) {o p : Outcome} → Balanced row o → Balanced row p → Balanced row (elim b [ true ↦ o | false ↦ p ])
both_ways {row} b h k = either (Balanced row) b (λ _. h) (λ _. k)

-- ── rule 5: evictions ────────────────────────────────────────────────────────
sweeping_paid : (c : Cache) (v : Option Page) {rest : Room} → Paid (evicted c).row rest → Paid c.row (sweeping c v rest)
sweeping_paid c none h = record { balance = omega (arith, sweep_total page_may_go c.row) }
sweeping_paid c (some p) h = record { balance = omega (arith, sweep_total page_may_go c.row) }

evictions_paid : (k target : ℕ) (c : Cache) → Paid c.row (evictions k target c)
unfolding evictions
evictions_paid zero target c = record { balance = omega arith }
evictions_paid (suc k) target c = go (ltb target (held_in c)) (evictions_paid k target (evicted c))
  where
    go : (b : Bool) {rest : Room} → Paid (evicted c).row rest
        → Paid c.row (elim b [ true ↦ sweeping c (sweep_of c).victim rest | false ↦ enough c ])
    go true h = sweeping_paid c (sweep_of c).victim h
    go false h = record { balance = omega arith }

room_paid : (c : Cache) → Paid c.row (make_room c)
unfolding make_room
room_paid c = go (eqb c.capacity 0)
  where
    go : (b : Bool) → Paid c.row (elim b [
      | true ↦ record { full = true; passed = 0; falls = 0; gone = []; cache = c }
      | false ↦ evict_to (c.capacity - 1) c
    ])
    go true = record { balance = omega arith }
    go false = evictions_paid (held_in c) (c.capacity - 1) c

-- ── rule 8: deletion ─────────────────────────────────────────────────────────
deleting_balanced : (p : Page) (follow : Cache → Outcome) (c : Cache) → Balanced (leave p c).row (follow (leave p c))
    → Balanced c.row (deleting p follow c)
deleting_balanced p follow c h = go (deletable p.state)
  where
    go : (d : Result Unit Hindrance) → Balanced c.row (elim d [
      | Ok _ ↦ listing (p.handle ∷ []) (follow (leave p c))
      | Err Locked ↦ answer 5 p.key c
      | Err Dirty ↦ answer 6 p.key c
      | Err Pinned ↦ answer 7 p.key c
    ])
    go (Ok _) = record { balance = omega (arith, h.balance, total_without p.key c.row) }
    go (Err Locked) = still
    go (Err Dirty) = still
    go (Err Pinned) = still

delete_balanced : (found : Option Entry) (c : Cache) → Balanced c.row (delete_found found c)
delete_balanced none c = still
delete_balanced (some e) c = deleting_balanced e.page (answer 0 0) c still

-- ── a hit ────────────────────────────────────────────────────────────────────
touch_adds : (key : ℕ) (row : Row) → total (change key touched row) ≤ 1 + total row
touch_adds = total_change 1 touched (λ e. omega arith)

-- another record has no uses to it
rewrite_adds : (key : ℕ) (state : PageRecord) (row : Row) → total (change key (rewritten state) row) ≤ total row
rewrite_adds key state row = omega (arith, total_change 0 (rewritten state) (λ e. omega arith) key row)

hit_balanced : (key : ℕ) (asked : Bool) (p : Page) (c : Cache) → Balanced c.row (hit key asked p c)
hit_balanced key asked p c = go (one_holder_more p.state) asked
  where
    go : (r : Holders) (b : Bool) → Balanced c.row (hit_with key r b p c)
    go (Some holders) true =
        let state : PageRecord = with_holders p.state holders in
        touch_pays (omega (arith, touch_adds key (change key (rewritten state) c.row), rewrite_adds key state c.row))
    go (Some holders) false = fewer_uses (rewrite_adds key (with_holders p.state holders) c.row)
    go None b = still

-- ── rules 5, 6 and 7: insertion ──────────────────────────────────────────────
module _ (key handle : ℕ) (state : PageRecord) where
  place_balanced : (c : Cache) → Balanced c.row (place key handle state c)
  place_balanced c = fewer_uses (omega (arith, total_enter (new_page key handle state c) c.row))

  full_balanced : (how : Insertion) (c : Cache) → Balanced c.row (on_full key handle state how c)
  full_balanced plain c = still
  full_balanced forced c = both_ways (ltb (held_in c) c.size) (place_balanced c) still
  full_balanced upsert c = both_ways (ltb (held_in c) c.size) (place_balanced c) still

  admit_balanced : (how : Insertion) (c : Cache) → Balanced c.row (admit key handle state how c)
  admit_balanced how c =
      let r : Room = make_room c in
      after_evictions (room_paid c) (both_ways r.full (full_balanced how r.cache) (place_balanced r.cache))

  exists_balanced : (p : Page) (c : Cache) → Balanced c.row (key_exists key handle state p c)
  exists_balanced p c = both_ways (eqb p.handle handle) (touch_pays (touch_adds key c.row)) still

  present_balanced : (how : Insertion) (p : Page) (c : Cache) → Balanced c.row (present key handle state how p c)
  present_balanced plain p c = exists_balanced p c
  present_balanced forced p c = exists_balanced p c
  present_balanced upsert p c =
      let touched_row : Row = change key touched c.row in
      let replaced = total_change 0 (replaced_entry handle state) (λ e. omega arith) p.key touched_row in
      touch_pays (omega (arith, touch_adds key c.row, replaced))

  insert_balanced : (how : Insertion) (found : Option Entry) (c : Cache) → Balanced c.row (insert_found key handle state how found c)
  insert_balanced how none c = admit_balanced how c
  insert_balanced how (some e) c =
      let p : Page = e.page in
      let deleted = deleting_balanced p (admit key handle state how) c (admit_balanced how (leave p c)) in
      both_ways (stale p.state) deleted (present_balanced how p c)

-- ── rule 9: lookup, peek and release ─────────────────────────────────────────
lookup_balanced : (key : ℕ) (found : Option Entry) (c : Cache) → Balanced c.row (lookup_found key found c)
lookup_balanced key none c = still
lookup_balanced key (some e) c =
    both_ways (stale e.page.state) (deleting_balanced e.page (answer 4 0) c still) (hit_balanced key true e.page c)

peek_balanced : (key : ℕ) (asked : Bool) (found : Option Entry) (c : Cache) → Balanced c.row (peek_found key asked found c)
peek_balanced key asked none c = still
peek_balanced key asked (some e) c = hit_balanced key asked e.page c

release_balanced : (key : ℕ) (found : Option Entry) (c : Cache) → Balanced c.row (release_found key found c)
release_balanced key none c = still
release_balanced key (some e) c = go (one_holder_less e.page.state)
  where
    go : (r : Holders) → Balanced c.row (release_with key r e.page c)
    go (Some holders) = fewer_uses (rewrite_adds key (with_holders e.page.state holders) c.row)
    go None = still

-- ── rule 10: resize ──────────────────────────────────────────────────────────
resize_balanced : (capacity : ℕ) (c : Cache) → Balanced c.row (on_resize capacity c)
resize_balanced capacity c =
    let evicts = after_evictions (evictions_paid (held_in c) capacity c) (both_ways (evict_to capacity c).full still still) in
    both_ways (eqb capacity c.capacity) still evicts

-- ── rule 11: the sweeping deletions ──────────────────────────────────────────
delete_each_balanced : (ps : List Page) (c : Cache) → Balanced c.row (delete_each ps c)
unfolding delete_each
delete_each_balanced [] c = still
delete_each_balanced (p ∷ ps) c = deleting_balanced p (delete_each ps) c (delete_each_balanced ps (leave p c))

emptied_balanced : (c : Cache) → Balanced c.row (emptied c)
unfolding total
emptied_balanced c = record { balance = omega arith }

clear_unless_balanced : (ps : List Page) (c : Cache) → Balanced c.row (clear_unless ps c)
clear_unless_balanced [] c = emptied_balanced c
clear_unless_balanced (p ∷ ps) c = still

clear_balanced : (dirty_too : Bool) (c : Cache) → Balanced c.row (on_clear dirty_too c)
clear_balanced true c = emptied_balanced c
clear_balanced false c = clear_unless_balanced (those (λ p. dirty p.state) (sorted_by_key c.row)) c

-- ── rule 12: notifications and the record write ──────────────────────────────
notify_balanced : (by : ℕ → ℕ) (found : Option Entry) (c : Cache) → Balanced c.row (notified by found c)
notify_balanced by none c = still
notify_balanced by (some e) c = both_ways (page_one e.page.key) still still

write_balanced : (key : ℕ) (state : PageRecord) (found : Option Entry) (c : Cache) → Balanced c.row (write_found key state found c)
write_balanced key state none c = still
write_balanced key state (some e) c = fewer_uses (rewrite_adds key state c.row)

-- ── rules 13 and 14: spill ───────────────────────────────────────────────────
selected_balanced : (ps : List Page) (c : Cache) → Balanced c.row (selected ps c)
selected_balanced [] c = still
selected_balanced (p ∷ ps) c = record { balance = omega arith }

spill_balanced : (most : ℕ) (c : Cache) → Balanced c.row (on_spill most c)
spill_balanced most c = both_ways (needs_spill c) (selected_balanced (selection most c) c) still

-- ── one eviction, asked for ──────────────────────────────────────────────────
evict_balanced : (row : Row) (c : Cache) → Balanced c.row (evict_from row c)
evict_balanced [] c = still
evict_balanced (e ∷ es) c =
    let r : Room = sweeping c (sweep_of c).victim (enough (evicted c)) in
    after_evictions (sweeping_paid c (sweep_of c).victim (record { balance = omega arith })) (both_ways r.full still still)

-- ── the theorems ─────────────────────────────────────────────────────────────
act_balanced : (call : Call) (c : Cache) → Balanced c.row (act call c)
unfolding act on_insert total
act_balanced (create capacity) c = fewer_uses (omega arith)
act_balanced (insert how key handle state places) c = insert_balanced key handle state how (find key c.row) c
act_balanced (lookup key places) c = lookup_balanced key (find key c.row) c
act_balanced (peek key touch) c = peek_balanced key touch (find key c.row) c
act_balanced (release key) c = release_balanced key (find key c.row) c
act_balanced (delete key places) c = delete_balanced (find key c.row) c
act_balanced (resize capacity places) c = resize_balanced capacity c
act_balanced (truncate limit places) c = delete_each_balanced (those (λ p. ltb limit p.key) (sorted_by_key c.row)) c
act_balanced (remove_frames limit places) c = delete_each_balanced (those (newer_than limit) (sorted_by_key c.row)) c
act_balanced (clear dirty_too places) c = clear_balanced dirty_too c
act_balanced (notify_dirty key) c = notify_balanced down (find key c.row) c
act_balanced (notify_spilled key) c = notify_balanced up (find key c.row) c
act_balanced (write key state) c = write_balanced key state (find key c.row) c
act_balanced (spill most places) c = spill_balanced most c
act_balanced (evict_one places) c = evict_balanced c.row c
act_balanced (switch on) c = still

tested_balanced : (n : ℕ) (call : Call) (c : Cache) → Balanced c.row (tested n call c)
tested_balanced zero call c = act_balanced call c
tested_balanced (suc n) call c = still

-- a call: what its sweeps take away and what is left come to no more than its touches and what there was
pub step_ledger : (call : Call) (c : Cache)
    → (step call c).falls + total (step call c).cache.row ≤ (step call c).touches + total c.row
unfolding step
step_ledger call c = (tested_balanced (refusal call c) call c).balance

pub run_ledger : (calls : List Call) (c : Cache) → run_falls calls c + total (run calls c).row ≤ run_touches calls c + total c.row
unfolding run run_falls run_touches
run_ledger [] c = omega arith
run_ledger (call ∷ calls) c = omega (arith, step_ledger call c, run_ledger calls (step call c).cache)

-- demand 3: over any calls since the creation, sweeps take away no more uses than there were touches
pub falls_le_touches : (size capacity : ℕ) (calls : List Call)
    → run_falls calls (fresh size capacity) ≤ run_touches calls (fresh size capacity)
unfolding total
falls_le_touches size capacity calls = omega (arith, run_ledger calls (fresh size capacity))
