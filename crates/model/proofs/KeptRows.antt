-- A row within its limits stays so when the hand moves, a page goes, a page is changed in place or a page enters: each limit
-- is about each entry alone, or says that numbers differ.
use mathlib.Core.Bool.{Bool}
use mathlib.Core.List.{[], ◌∷◌, ◌++◌}
use mathlib.Core.Path.{◌≡◌, refl, sym}
use Prim.Native.Nat.{ℕ, suc, ◌≤◌, ◌<◌}
use native.Mathlib.Omega.{arith}
use lib.ListN.{length, length-append}
use Rattle.page.proofs.Each.{each_append, each_remove, each_place}
use Rattle.model.specs.Row.{Page, Entry, Row, Each}
use Rattle.model.specs.Sweep.{lower}
use Rattle.model.specs.Cache.{Cache, enter_row, estimate_max, with_row, with_estimate}
use Rattle.model.specs.Limits.{Apart, EntryInRange, CacheInvariant}
use Rattle.model.proofs.Lowering.{lower_le}
use Rattle.model.proofs.Numbers.{OtherSlot, OtherKey, OtherHandle, each_enter, apart_place, apart_remove, apart_turn, apart_same, apart_enter}

-- a row of a cache with `size` slots, within its limits
pub record Fits (size : ℕ) (row : Row) : Type 0 where
  pub held : length row ≤ size
  pub good : Each (EntryInRange size) row
  pub slots : Apart (λ p. p.slot) row
  pub keys : Apart (λ p. p.key) row
  pub handles : Apart (λ p. p.handle) row

-- no entry of the row has a number of the page
pub record New (p : Page) (row : Row) : Type 0 where
  pub slot : Each (OtherSlot p.slot) row
  pub key : Each (OtherKey p.key) row
  pub handle : Each (OtherHandle p.handle) row

enter_length : (p : Page) (row : Row) → length (enter_row p row) ≡ suc (length row)
unfolding enter_row
enter_length p [] = refl
enter_length p (e ∷ es) = refl

module _ (size : ℕ) where
  -- ── a page goes ────────────────────────────────────────────────────────────
  pub fits_remove : (before : Row) (e : Entry) (after : Row) → Fits size (before ++ e ∷ after) → Fits size (before ++ after)
  fits_remove before e after f = record {
    held = omega (arith, f.held, length-append before (e ∷ after), length-append before after);
    good = each_remove (EntryInRange size) before e after f.good;
    slots = apart_remove (λ p. p.slot) before e after f.slots;
    keys = apart_remove (λ p. p.key) before e after f.keys;
    handles = apart_remove (λ p. p.handle) before e after f.handles;
  }

  -- ── a page in the place of another ─────────────────────────────────────────
  -- with the same slot and key, and its own handle or a new one
  pub fits_change : (before : Row) (e x : Entry) (after : Row) → EntryInRange size x
      → x.page.slot ≡ e.page.slot → x.page.key ≡ e.page.key → Each (OtherHandle x.page.handle) (before ++ after)
      → Fits size (before ++ e ∷ after) → Fits size (before ++ x ∷ after)
  fits_change before e x after g s k h f = record {
    held = omega (arith, f.held, length-append before (e ∷ after), length-append before (x ∷ after));
    good = each_place (EntryInRange size) before x after g (each_remove (EntryInRange size) before e after f.good);
    slots = apart_same (λ p. p.slot) before e x after (sym s) f.slots;
    keys = apart_same (λ p. p.key) before e x after (sym k) f.keys;
    handles = apart_place (λ p. p.handle) before x after h (apart_remove (λ p. p.handle) before e after f.handles);
  }

  -- ── a page enters ──────────────────────────────────────────────────────────
  pub fits_enter : (p : Page) (row : Row) → length row < size → EntryInRange size (record { page = p; uses = 0 }) → New p row
      → Fits size row → Fits size (enter_row p row)
  fits_enter p row room g n f = record {
    held = omega (arith, enter_length p row);
    good = each_enter (EntryInRange size) p row g f.good;
    slots = apart_enter (λ q. q.slot) p row n.slot f.slots;
    keys = apart_enter (λ q. q.key) p row n.key f.keys;
    handles = apart_enter (λ q. q.handle) p row n.handle f.handles;
  }

  -- ── a look ─────────────────────────────────────────────────────────────────
  -- an entry with fewer uses
  good_lower : (may : Page → Bool) (e : Entry) → EntryInRange size e → EntryInRange size (lower may 1 e)
  unfolding lower
  good_lower may e g = record {
    slot = g.slot;
    key = g.key;
    handle = g.handle;
    flags = g.flags;
    fit = g.fit;
    uses = omega (arith, g.uses, lower_le may 1 e);
  }

  -- the hand moves on from an entry that stays
  pub fits_look : (may : Page → Bool) (e : Entry) (es : Row) → Fits size (e ∷ es) → Fits size (es ++ lower may 1 e ∷ [])
  unfolding lower
  fits_look may e es f = record {
    held = omega (arith, f.held, length-append es (lower may 1 e ∷ []));
    good = each_append (EntryInRange size) es (lower may 1 e ∷ []) f.good.1 (good_lower may e f.good.0, tt);
    slots = apart_turn (λ p. p.slot) (lower may 1 e ∷ []) es f.slots;
    keys = apart_turn (λ p. p.key) (lower may 1 e ∷ []) es f.keys;
    handles = apart_turn (λ p. p.handle) (lower may 1 e ∷ []) es f.handles;
  }

-- ── the row of a cache ───────────────────────────────────────────────────────
pub kept_fits : (c : Cache) → CacheInvariant c → Fits c.size c.row
kept_fits c k = record { held = k.held; good = k.good; slots = k.slots; keys = k.keys; handles = k.handles }

-- another row and another estimate
pub fits_kept : (c : Cache) (row : Row) (n : ℕ) → CacheInvariant c → n ≤ estimate_max → Fits c.size row
    → CacheInvariant (with_estimate n (with_row row c))
fits_kept c row n k l f = record {
  held = f.held;
  capacity = k.capacity;
  estimate = l;
  good = f.good;
  slots = f.slots;
  keys = f.keys;
  handles = f.handles;
}
