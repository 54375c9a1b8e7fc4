-- What `lower` does to a row, and rows in which every entry that may go has at least r uses. Each law holds of one entry, by
-- cases on whether it may go, and so of each entry of a row.
use mathlib.Core.Bool.{Bool, true, false, cond, true≢false}
use mathlib.Core.List.{[], ◌∷◌, map}
use mathlib.Core.Path.{◌≡◌, refl, sym, ◌∙◌}
use Prim.Native.Nat.{ℕ, suc, ◌-◌, ◌≤◌}
use native.Mathlib.Omega.{arith}
use Rattle.page.proofs.Each.{each_weaken, each_map}
use Rattle.model.specs.Row.{Page, Entry, Row, Each}
use Rattle.model.specs.Sweep.{lower}
use Rattle.model.specs.Demand.{Stays}

-- ── a use count ──────────────────────────────────────────────────────────────
lower_count_none : (b : Bool) (u : ℕ) → cond b (u - 0) u ≡ u
lower_count_none true u = omega arith
lower_count_none false u = refl

lower_count_again : (b : Bool) (u r : ℕ) → cond b (cond b (u - 1) u - r) (cond b (u - 1) u) ≡ cond b (u - suc r) u
lower_count_again true u r = omega arith
lower_count_again false u r = refl

lower_count_le : (b : Bool) (u r : ℕ) → cond b (u - r) u ≤ u
lower_count_le true u r = omega arith
lower_count_le false u r = omega arith

module _ (may : Page → Bool) where
  -- ── lowering a row ─────────────────────────────────────────────────────────
  -- no uses taken away: nothing is changed
  pub lower_none : (es : Row) → map (lower may 0) es ≡ es
  unfolding lower
  lower_none [] = refl
  lower_none (e ∷ es) = λ i. record { page = e.page; uses = lower_count_none (may e.page) e.uses i } ∷ lower_none es i

  -- one use and then r are r + 1
  pub lower_again : (r : ℕ) (es : Row) → map (lower may r) (map (lower may 1) es) ≡ map (lower may (suc r)) es
  unfolding lower
  lower_again r [] = refl
  lower_again r (e ∷ es) = λ i. record { page = e.page; uses = lower_count_again (may e.page) e.uses r i } ∷ lower_again r es i

  -- none may go: nothing is changed
  pub lower_stays : (es : Row) → Each (Stays may) es → map (lower may 1) es ≡ es
  unfolding lower
  lower_stays [] t = refl
  lower_stays (e ∷ es) t = rw (t.0, lower_stays es t.1)

  -- no entry comes to have more
  pub lower_le : (r : ℕ) (e : Entry) → (lower may r e).uses ≤ e.uses
  unfolding lower
  lower_le r e = lower_count_le (may e.page) e.uses r

  -- ── entries with at least r uses ───────────────────────────────────────────
  -- the entry has at least r uses, if it may go at all
  abbrev pub AtLeast : ℕ → Entry → Type 0
  AtLeast r e = may e.page ≡ true → r ≤ e.uses

  -- then at least as many as any smaller number
  pub fewer : (r s : ℕ) → r ≤ s → (es : Row) → Each (AtLeast s) es → Each (AtLeast r) es
  fewer r s h = each_weaken (AtLeast s) (AtLeast r) (λ e l m. omega (arith, l m))

  -- an entry that may not go meets this for any r
  pub stays_any : (r : ℕ) (e : Entry) → Stays may e → AtLeast r e
  stays_any r e s m = absurd (true≢false (sym m ∙ s))

  pub all_stay_any : (r : ℕ) (es : Row) → Each (Stays may) es → Each (AtLeast r) es
  all_stay_any r = each_weaken (Stays may) (AtLeast r) (stays_any r)

  -- one less, after each lost a use
  pub one_less : (r : ℕ) (es : Row) → Each (AtLeast (suc r)) es → Each (AtLeast r) (map (lower may 1) es)
  unfolding lower
  one_less r = each_map (AtLeast (suc r)) (AtLeast r) (lower may 1) (λ e l m. rw m (omega (arith, l m)))
