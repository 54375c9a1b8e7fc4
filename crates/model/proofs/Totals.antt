-- The sum of a row's use counts: a sweep takes from it what it takes from the entries, a touch adds at most 1, a removal adds
-- nothing, and a new page has count 0.
use mathlib.Core.Bool.{Bool, true, false}
use mathlib.Core.List.{[], ◌∷◌, ◌++◌}
use mathlib.Core.Path.{◌≡◌, refl}
use Prim.Native.Nat.{ℕ, zero, suc, ◌+◌, ◌*◌, ◌≤◌}
use native.Mathlib.Omega.{arith}
use lib.ListN.{length}
use Rattle.page.specs.Entry.{ref_max}
use Rattle.model.specs.Row.{Page, Entry, Row, total, keyed, change, without}
use Rattle.model.specs.Sweep.{pass, lower, goes_now, looks, sweep, falls, sweep_falls}
use Rattle.model.specs.Cache.{enter_row}
use Rattle.model.proofs.Lowering.{lower_le}
use Rattle.model.proofs.Looks.{spent}

total_append : (xs ys : Row) → total (xs ++ ys) ≡ total xs + total ys
unfolding total
total_append [] ys = omega arith
total_append (x ∷ xs) ys = omega (arith, total_append xs ys)

-- ── sweeps ───────────────────────────────────────────────────────────────────
module _ (may : Page → Bool) where
  -- what the looks take away is the row's total before them minus the total after them: an entry that goes has no uses left, and
  -- one that is passed keeps the rest of its own
  pub looks_total : (k : ℕ) (row : Row) → total row ≡ falls may k row + total (looks may k row).row
  unfolding total looks falls pass
  looks_total zero row = omega arith
  looks_total (suc k) [] = omega arith
  looks_total (suc k) (e ∷ es) = go (goes_now may e) refl (looks_total k (es ++ lower may 1 e ∷ []))
    where
      rest : Row
      rest = es ++ lower may 1 e ∷ []

      go : (b : Bool) → goes_now may e ≡ b → total rest ≡ falls may k rest + total (looks may k rest).row
          → total (e ∷ es) ≡ falls may (suc k) (e ∷ es) + total (looks may (suc k) (e ∷ es)).row
      go true h ih = rw (h, looks, falls) (omega (arith, spent may e h))
      go false h ih = rw (h, looks, falls) (omega (arith, ih, total_append es (lower may 1 e ∷ []), lower_le may 1 e))

  pub sweep_total : (row : Row) → total row ≡ sweep_falls may row + total (sweep may row).row
  unfolding sweep sweep_falls
  sweep_total row = looks_total (suc ref_max * length row) row

-- ── a single entry ───────────────────────────────────────────────────────────
-- a change that adds at most n uses to an entry adds at most n to the row
pub total_change : (n : ℕ) (f : Entry → Entry) → ((e : Entry) → (f e).uses ≤ n + e.uses) → (key : ℕ) (row : Row)
    → total (change key f row) ≤ n + total row
unfolding total change
total_change n f adds key [] = omega arith
total_change n f adds key (e ∷ es) = go (keyed key e) refl (total_change n f adds key es)
  where
    go : (b : Bool) → keyed key e ≡ b → total (change key f es) ≤ n + total es → total (change key f (e ∷ es)) ≤ n + total (e ∷ es)
    go true h ih = rw (h, change) (omega (arith, adds e))
    go false h ih = rw (h, change) (omega (arith, ih))

pub total_without : (key : ℕ) (row : Row) → total (without key row) ≤ total row
unfolding total without
total_without key [] = omega arith
total_without key (e ∷ es) = go (keyed key e) refl (total_without key es)
  where
    go : (b : Bool) → keyed key e ≡ b → total (without key es) ≤ total es → total (without key (e ∷ es)) ≤ total (e ∷ es)
    go true h ih = rw (h, without) (omega arith)
    go false h ih = rw (h, without) (omega (arith, ih))

-- a new page has count 0
pub total_enter : (p : Page) (row : Row) → total (enter_row p row) ≡ total row
unfolding total enter_row
total_enter p [] = refl
total_enter p (e ∷ es) = omega arith
