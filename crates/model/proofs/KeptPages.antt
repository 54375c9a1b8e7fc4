-- Every change of one page keeps the limits: a page that stands in the row goes, is touched, has its record written, or gives
-- its place to another, and the row splits there.
use Rattle.std.specs.Prelude.{Some, None}
use mathlib.Core.Bool.{Bool, true, false, cond}
use mathlib.Core.List.{◌∷◌, ◌++◌}
use mathlib.Core.Option.{Option, none, some}
use mathlib.Core.Path.{◌≡◌, refl}
use Prim.Native.Nat.{ℕ, suc, ◌+◌, ◌-◌, ◌≤◌, ◌<◌, ◌^◌}
use native.Mathlib.Omega.{arith}
use lib.Dec.{ltb}
use lib.ListN.{length, length-append}
use borrow.Author.Tests.{ltb-true}
use Rattle.page.specs.Record.{Holders, all_flags, holders_max, with_holders, one_holder_more, one_holder_less}
use Rattle.page.specs.declared.record.PageRecord.{PageRecord}
use Rattle.page.proofs.Each.{each_middle}
use Rattle.model.specs.Row.{Page, Entry, Row, Each, find, change, without}
use Rattle.model.specs.Sweep.{touched}
use Rattle.model.specs.Cache.{Cache, with_row, with_estimate, with_capacity, with_spill, fresh, page_counts, estimate_max, count_in, count_out, count_over, leave, touch, rewritten, rewrite, held_by, replaced, replaced_entry, replace}
use Rattle.model.specs.Limits.{RecordInRange, EntryInRange, CacheInvariant}
use Rattle.model.proofs.Numbers.{OtherHandle, apart_others}
use Rattle.model.proofs.ByKey.{Stands, stands_without, stands_change, stands_own, stands_changed, find_stands, find_none, without_none}
use Rattle.model.proofs.KeptCases.{one_of}
use Rattle.model.proofs.KeptRows.{Fits, fits_remove, fits_change, kept_fits, fits_kept}
use Rattle.model.proofs.KeptRooms.{count_out_le}

-- ── the estimate ─────────────────────────────────────────────────────────────
abbrev InRange : ℕ → Type 0
InRange n = n ≤ estimate_max

pub count_in_range : (p : Page) (n : ℕ) → n ≤ estimate_max → count_in p n ≤ estimate_max
count_in_range p n h = one_of InRange (page_counts p) (omega arith) h

count_over_range : (old new : Page) (n : ℕ) → n ≤ estimate_max → count_over old new n ≤ estimate_max
count_over_range old new n h = one_of InRange (page_counts old)
    (one_of InRange (page_counts new) h (omega arith))
    (one_of InRange (page_counts new) (omega arith) h)

-- ── the cache's own fields ───────────────────────────────────────────────────
pub fresh_kept : (size capacity : ℕ) → capacity ≤ size → CacheInvariant (fresh size capacity)
fresh_kept size capacity h = record {
  held = omega arith;
  capacity = h;
  estimate = omega arith;
  good = tt;
  slots = tt;
  keys = tt;
  handles = tt;
}

pub capacity_kept : (capacity : ℕ) (c : Cache) → CacheInvariant c → capacity ≤ c.size → CacheInvariant (with_capacity capacity c)
capacity_kept capacity c k h = record {
  held = k.held;
  capacity = h;
  estimate = k.estimate;
  good = k.good;
  slots = k.slots;
  keys = k.keys;
  handles = k.handles;
}

pub switch_kept : (on : Bool) (c : Cache) → CacheInvariant c → CacheInvariant (with_spill on c)
switch_kept on c k = record {
  held = k.held;
  capacity = k.capacity;
  estimate = k.estimate;
  good = k.good;
  slots = k.slots;
  keys = k.keys;
  handles = k.handles;
}

-- ── a page goes ──────────────────────────────────────────────────────────────
-- the row without a key, be the key there or not
fits_without : (size key : ℕ) (row : Row) → Fits size row → Fits size (without key row)
fits_without size key row f = go (find key row) refl
  where
    go : (v : Option Entry) → find key row ≡ v → Fits size (without key row)
    go none q = rw (without_none key row (find_none key row q)) f
    go (some e) q =
        let s = find_stands key row e q in
        rw (stands_without key row e s) (fits_remove size s.before e s.after (rw s.parts at f))

pub leave_kept : (p : Page) (c : Cache) → CacheInvariant c → CacheInvariant (leave p c)
leave_kept p c k = fits_kept c (without p.key c.row) (count_out p c.estimate) k
    (omega (arith, k.estimate, count_out_le p c.estimate)) (fits_without c.size p.key c.row (kept_fits c k))

-- a page that stood there leaves one page less
pub without_held : (key : ℕ) (row : Row) (e : Entry) → Stands key row e → suc (length (without key row)) ≡ length row
without_held key row e s = rw (stands_without key row e s, s.parts)
    (omega (arith, length-append s.before (e ∷ s.after), length-append s.before s.after))

-- ── a page is changed where it stands ────────────────────────────────────────
module _ (c : Cache) (k : CacheInvariant c) (key : ℕ) (e : Entry) (s : Stands key c.row e) where
  split : Fits c.size (s.before ++ e ∷ s.after)
  split = rw s.parts at (kept_fits c k)

  pub stands_good : EntryInRange c.size e
  stands_good = each_middle (EntryInRange c.size) s.before e s.after split.good

  other_handles : Each (OtherHandle e.page.handle) (s.before ++ s.after)
  other_handles = apart_others (λ p. p.handle) s.before e s.after split.handles

  -- by f, and with n as the estimate
  change_kept : (f : Entry → Entry) (n : ℕ) → n ≤ estimate_max → EntryInRange c.size (f e)
      → (f e).page.slot ≡ e.page.slot → (f e).page.key ≡ e.page.key → Each (OtherHandle (f e).page.handle) (s.before ++ s.after)
      → CacheInvariant (with_estimate n (with_row (change key f c.row) c))
  change_kept f n l g slot same_key handle = fits_kept c (change key f c.row) n k l (rw (stands_change key c.row e s f) changed)
    where
      changed : Fits c.size (s.before ++ f e ∷ s.after)
      changed = fits_change c.size s.before e (f e) s.after g slot same_key handle split

  pub touch_kept : CacheInvariant (touch key c)
  touch_kept =
      let g : EntryInRange c.size (touched e) = record {
        slot = stands_good.slot;
        key = stands_good.key;
        handle = stands_good.handle;
        flags = stands_good.flags;
        fit = stands_good.fit;
        uses = omega arith;
      } in
      change_kept touched c.estimate k.estimate g refl refl other_handles

  pub rewrite_kept : (state : PageRecord) → state.flags ≤ all_flags → RecordInRange state → CacheInvariant (rewrite key state c)
  rewrite_kept state flags fit =
      let g : EntryInRange c.size (rewritten state e) = record {
        slot = stands_good.slot;
        key = stands_good.key;
        handle = stands_good.handle;
        flags = flags;
        fit = fit;
        uses = stands_good.uses;
      } in
      change_kept (rewritten state) c.estimate k.estimate g refl refl other_handles

-- ── one holder more or less ──────────────────────────────────────────────────
-- a number that a record can count, if there is one
abbrev pub FitsRecord : Holders → Type 0
FitsRecord (Some holders) = holders < 2 ^ 16
FitsRecord None = Unit {0}

pub more_fits : (p : PageRecord) → FitsRecord (one_holder_more p)
more_fits p = go (ltb p.holders holders_max) refl
  where
    go : (b : Bool) → ltb p.holders holders_max ≡ b → FitsRecord (cond b (Some (p.holders + 1)) None)
    go true q = omega (arith, ltb-true p.holders holders_max q)
    go false q = tt

pub less_fits : (p : PageRecord) → RecordInRange p → FitsRecord (one_holder_less p)
less_fits p fit = go (ltb 0 p.holders)
  where
    go : (b : Bool) → FitsRecord (cond b (Some (p.holders - 1)) None)
    go true = omega (arith, fit.holders)
    go false = tt

pub held_kept : (c : Cache) → CacheInvariant c → (key : ℕ) (e : Entry) → Stands key c.row e → (holders : ℕ) → holders < 2 ^ 16
    → CacheInvariant (held_by key holders e.page c)
held_kept c k key e s holders small =
    let g : EntryInRange c.size e = stands_good c k key e s in
    rewrite_kept c k key e s (with_holders e.page.state holders) g.flags
    (record { pins = g.fit.pins; holders = small; cells = g.fit.cells; frame = g.fit.frame })

-- another page in its place, with a handle that no other page has
replace_kept : (c : Cache) → CacheInvariant c → (e : Entry) (s : Stands e.page.key c.row e) (handle : ℕ) (state : PageRecord)
    → handle < 2 ^ 32 → state.flags ≤ all_flags → RecordInRange state → Each (OtherHandle handle) (s.before ++ s.after)
    → CacheInvariant (replace e.page handle state c)
replace_kept c k e s handle state small flags fit new_handle =
    let old : EntryInRange c.size e = stands_good c k e.page.key e s in
    let g : EntryInRange c.size (replaced_entry handle state e) = record {
      slot = old.slot;
      key = old.key;
      handle = small;
      flags = flags;
      fit = fit;
      uses = old.uses;
    } in
    let new : Page = replaced handle state e.page in
    change_kept c k e.page.key e s (replaced_entry handle state) (count_over e.page new c.estimate)
    (count_over_range e.page new c.estimate k.estimate) g refl refl new_handle

-- a touch first
pub upsert_kept : (c : Cache) → CacheInvariant c → (key : ℕ) (e : Entry) (s : Stands key c.row e) (handle : ℕ) (state : PageRecord)
    → handle < 2 ^ 32 → state.flags ≤ all_flags → RecordInRange state → Each (OtherHandle handle) (s.before ++ s.after)
    → CacheInvariant (replace e.page handle state (touch key c))
upsert_kept c k key e s = replace_kept (touch key c) (touch_kept c k key e s) (touched e)
    (stands_own key (touch key c).row (touched e) (stands_changed key c.row e s touched s.named))
