-- What the model keeps is what sound memory holds: a ring comes to no slot twice, an index that ascends strictly has no
-- name twice, and the fields of a word of 64 bits fit their places.
use mathlib.Core.Path.{◌≡◌, refl, sym, ap, ◌∙◌, subst}
use mathlib.Core.Bool.{true}
use mathlib.Core.Logic.{◌≢◌}
use mathlib.Core.List.{List, [], ◌∷◌}
use Prim.Native.Nat.{ℕ, ◌+◌, ◌*◌, ◌^◌, ◌≤◌, ◌<◌}
use native.Mathlib.Omega.{arith}
use lib.ListN.{length, get_or, length-map}
use Rattle.page.specs.declared.cache.PageCache.{PageCache}
use Rattle.page.specs.declared.entry.PageCacheEntry.{PageCacheEntry}
use Rattle.page.proofs.Each.{each_weaken}
use Rattle.free_marks.specs.Marks.{Wide}
use Rattle.ring_links.specs.Ring.{has, Out, Below}
use Rattle.ring_links.specs.Ring as ring
use Rattle.pool.specs.Slots.{decode, blank, entries}
use Rattle.pool.proofs.Packing.{entries_at, entries_whole}
use Rattle.sorted_index.specs.Listed.{Listed}
use Rattle.sorted_index.specs.Names.{name_of, names}
use Rattle.sorted_index.specs.declared.search.By.{By}
use Rattle.sorted_index.specs.declared.search.By.TheVariants.{Key, Handle}
use Rattle.sorted_index.proofs.Listed.{listed_names}
use Rattle.sorted_index.proofs.Membership.{has_here, has_there}
use Rattle.sorted_index.proofs.Names.{name_at_lem}
use Rattle.model.specs.Cache.{Cache, held_in}
use Rattle.model.specs.Demand.{Limited}
use Rattle.model.specs.Limits.{Apart, RecordInRange, EntryInRange, CacheInvariant}
use Rattle.model.specs.Row.{Page, Each}
use Rattle.memory.specs.Memory.{Memory}
use Rattle.memory.specs.Holds.{seen, row_of, EntryGood, Holds}

-- ── the fields of an entry ───────────────────────────────────────────────────
-- they fit their places in words of 64 bits
record Packed (e : PageCacheEntry) : Type 0 where
  key : e.key.0 < 2 ^ 32
  handle : e.handle.0 < 2 ^ 32
  fit : RecordInRange e.page

decode_packed : (names links counts frame : ℕ) → names < 2 ^ 64 → counts < 2 ^ 64 → frame < 2 ^ 64 → Packed (decode names links counts frame)
unfolding decode
decode_packed names links counts frame n c f = record {
  key = omega arith;
  handle = omega arith;
  fit = record { pins = omega arith; holders = omega arith; cells = omega arith; frame = f };
}

entry_packed : (l : List ℕ) → Wide l → (k : ℕ) → k < length (entries l) → Packed (get_or (entries l) k blank)
entry_packed l wide k inside =
    subst Packed (sym (entries_at l k inside)) (decode_packed _ _ _ _ (wide.each (k * 4)) (wide.each (k * 4 + 2)) (wide.each (k * 4 + 3)))

-- ── numbers that no two entries share ────────────────────────────────────────
module _ (number : Page → ℕ) (es : List PageCacheEntry) where
  abbrev number_at : ℕ → ℕ
  number_at s = number (seen s (get_or es s blank)).page

  apart_from : (s : ℕ) (seats : List ℕ) → Out s seats → ((k : ℕ) → has k seats ≡ true → number_at s ≡ number_at k → s ≡ k)
      → Each (λ e. number_at s ≢ number e.page) (row_of es seats)
  apart_from s [] o tells = tt
  apart_from s (t ∷ seats) o tells = (
    (λ e. o.0 (tells t (has_here t seats) e)),
    apart_from s seats o.1 (λ k h e. tells k (has_there k t seats h) e),
  )

  -- a number that tells the seats apart
  row_apart : (seats : List ℕ) → ring.Apart seats
      → ((j k : ℕ) → has j seats ≡ true → has k seats ≡ true → number_at j ≡ number_at k → j ≡ k) → Apart number (row_of es seats)
  row_apart [] d tells = tt
  row_apart (s ∷ seats) d tells = (
    apart_from s seats d.0 (λ k h e. tells s k (has_here s seats) (has_there k s seats h) e),
    row_apart seats d.1 (λ j k g h e. tells j k (has_there j s seats g) (has_there k s seats h) e),
  )

name_tells : (by : By) (es : List PageCacheEntry) {order seats : List ℕ} → Listed (names by es) order seats
    → (j k : ℕ) → has j seats ≡ true → has k seats ≡ true → name_of by (get_or es j blank) ≡ name_of by (get_or es k blank) → j ≡ k
name_tells by es l j k g h e = listed_names l refl j k g h (name_at_lem by es j ∙ e ∙ sym (name_at_lem by es k))

-- ── the entries of a row ─────────────────────────────────────────────────────
row_good : (es : List PageCacheEntry) (size : ℕ) (seats : List ℕ) → ((k : ℕ) → k < size → Packed (get_or es k blank)) → Below size seats
    → Each EntryGood (row_of es seats) → Each (EntryInRange size) (row_of es seats)
row_good es size [] packed below good = tt
row_good es size (s ∷ seats) packed below good =
    let p = packed s below.0 in (
      record {
        slot = below.0;
        key = p.key;
        handle = p.handle;
        flags = good.0.flags;
        fit = p.fit;
        uses = good.0.uses;
      },
      row_good es size seats packed below.1 good.1,
    )

-- ── what is held ─────────────────────────────────────────────────────────────
module _ {m : Memory} {head : PageCache} {c : Cache} (g : Holds m head c) where
  -- as many pages as the head says
  pub holds_held : held_in c ≡ head.held
  holds_held = ap length g.row ∙ length-map g.seats _ ∙ sym g.headed.held

  -- and no more than there are slots
  pub holds_fits : held_in c ≤ c.size
  holds_fits = omega (arith, holds_held, g.headed.held, g.keys.index.fits, g.lengths.by_key)

  -- use counts are 0 to 3
  pub holds_limited : Each Limited c.row
  holds_limited = each_weaken EntryGood Limited (λ e f. f.uses) c.row g.limits.good

  -- the ring comes to no slot twice
  pub holds_slots_apart : Apart (λ p. p.slot) c.row
  holds_slots_apart = rw g.row (row_apart (λ p. p.slot) (entries m.slots) g.seats g.seated.ring.apart (λ j k p q e. e))

  -- the index by key ascends strictly, and so does the one by handle
  pub holds_keys_apart : Apart (λ p. p.key) c.row
  holds_keys_apart =
      rw g.row (row_apart (λ p. p.key) (entries m.slots) g.seats g.seated.ring.apart (name_tells Key (entries m.slots) g.keys))

  pub holds_handles_apart : Apart (λ p. p.handle) c.row
  holds_handles_apart =
      rw g.row
      (row_apart (λ p. p.handle) (entries m.slots) g.seats g.seated.ring.apart (name_tells Handle (entries m.slots) g.handles))

-- each page is within its limits
pub holds_good : {m : Memory} {head : PageCache} {c : Cache} → Wide m.slots → Holds m head c → Each (EntryInRange c.size) c.row
holds_good {m} {c = c} wide g =
    let es : List PageCacheEntry = entries m.slots in
    let long : length es ≡ c.size = entries_whole c.size m.slots g.lengths.slots in
    rw g.row
    (row_good es c.size g.seats (λ k h. entry_packed m.slots wide k (omega arith))
    (subst (λ (n : ℕ). Below n g.seats) (length-map es _ ∙ long) g.seated.ring.inside) (rw g.row at g.limits.good))

-- with an estimate of 32 bits, as it is in every head
pub holds_kept : {m : Memory} {head : PageCache} {c : Cache} → Wide m.slots → Holds m head c → head.estimate < 2 ^ 32 → CacheInvariant c
holds_kept wide g estimate = record {
  held = holds_fits g;
  capacity = g.limits.capacity;
  estimate = omega (arith, g.headed.estimate);
  good = holds_good wide g;
  slots = holds_slots_apart g;
  keys = holds_keys_apart g;
  handles = holds_handles_apart g;
}
