-- A sweep look by look. The entry at the hand goes, or it doesn't and the other looks follow: this is what `looks` says, once
-- the test of the entry is known.
use mathlib.Core.Bool.{Bool, true, false, ◌&&◌, false≢true}
use mathlib.Core.List.{[], ◌∷◌, ◌++◌}
use mathlib.Core.Option.{none, some}
use mathlib.Core.Path.{◌≡◌, refl}
use Prim.Native.Nat.{ℕ, suc, ◌+◌}
use native.Mathlib.Nat.{add-zero, zero-add}
use native.Mathlib.Omega.{arith}
use lib.Dec.{eqb}
use borrow.Author.Tests.{eqb-true, ne_eqb}
use Rattle.model.specs.Row.{Page, Entry, Row}
use Rattle.model.specs.Sweep.{Swept, pass, lower, goes_now, looks}
use Rattle.model.proofs.Lowering.{AtLeast}

-- ── pages passed: they add up ────────────────────────────────────────────────
pub pass_none : (s : Swept) → pass 0 s ≡ s
unfolding pass
pass_none s = λ i. record { victim = s.victim; passed = zero-add s.passed i; row = s.row }

pub pass_pass : (m n : ℕ) (s : Swept) → pass m (pass n s) ≡ pass (m + n) s
unfolding pass
pass_pass m n s =
    let q : m + (n + s.passed) ≡ m + n + s.passed = omega arith in
    λ i. record { victim = s.victim; passed = q i; row = s.row }

module _ (may : Page → Bool) where
  -- ── which entry goes ───────────────────────────────────────────────────────
  -- one that may go, with count 0
  pub goes_now_lem : (p : Page) → may p ≡ true → goes_now may (record { page = p; uses = 0 }) ≡ true
  unfolding goes_now
  goes_now_lem p g = rw g

  -- and no other
  pub stays_now : (e : Entry) → AtLeast may 1 e → goes_now may e ≡ false
  unfolding goes_now
  stays_now e l = go (may e.page) refl
    where
      go : (b : Bool) → may e.page ≡ b → b && eqb e.uses 0 ≡ false
      go true q = ne_eqb e.uses 0 (λ z. omega (arith, l q))
      go false q = refl

  -- an entry that goes has no uses left
  pub spent : (e : Entry) → goes_now may e ≡ true → e.uses ≡ 0
  unfolding goes_now
  spent e = go (may e.page)
    where
      go : (b : Bool) → b && eqb e.uses 0 ≡ true → e.uses ≡ 0
      go true q = eqb-true e.uses 0 q
      go false q = absurd (false≢true q)

  -- ── one look ───────────────────────────────────────────────────────────────
  pub looks_goes : (k : ℕ) (e : Entry) (es : Row) → goes_now may e ≡ true
      → looks may (suc k) (e ∷ es) ≡ record { victim = some e.page; passed = 0; row = es }
  unfolding looks
  looks_goes k e es h = rw (h, looks)

  pub looks_stays : (k : ℕ) (e : Entry) (es : Row) → goes_now may e ≡ false
      → looks may (suc k) (e ∷ es) ≡ pass 1 (looks may k (es ++ lower may 1 e ∷ []))
  unfolding looks
  looks_stays k e es h = rw (h, looks)

  -- ── a loop of looks ────────────────────────────────────────────────────────
  -- with p pages passed, k looks left and the row as it stands, `pass p (looks may k row)` is what the whole sweep comes to
  pub loop_goes : (p k : ℕ) (e : Entry) (es : Row) → goes_now may e ≡ true
      → pass p (looks may (suc k) (e ∷ es)) ≡ record { victim = some e.page; passed = p; row = es }
  unfolding pass
  loop_goes p k e es h = rw (looks_goes k e es h, add-zero)

  pub loop_stays : (p k : ℕ) (e : Entry) (es : Row) → goes_now may e ≡ false
      → pass p (looks may (suc k) (e ∷ es)) ≡ pass (p + 1) (looks may k (es ++ lower may 1 e ∷ []))
  loop_stays p k e es h = rw (looks_stays k e es h, pass_pass)

  pub loop_full : (p : ℕ) (row : Row) → pass p (looks may 0 row) ≡ record { victim = none; passed = p; row = row }
  unfolding pass looks
  loop_full p row = rw add-zero
