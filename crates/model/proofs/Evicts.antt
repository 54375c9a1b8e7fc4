-- The sweep comes to what demand 3 says, and to nothing else: a row has a victim or none may go (Choice), and the looks find
-- the victim or go round four times in vain (Rounds). Over any test of which pages may go.
use mathlib.Core.Bool.{Bool}
use mathlib.Core.List.{◌∷◌, ◌++◌}
use mathlib.Core.Logic.{◌⊎◌, inl, inr, ◌↔◌}
use mathlib.Core.Option.{Option, none, some}
use mathlib.Core.Path.{◌≡◌, refl, sym, ap, ◌∙◌}
use Prim.Native.Nat.{ℕ, suc, ◌+◌, ◌*◌, ◌-◌, ◌≤◌, ◌<◌}
use native.Mathlib.Nat.{mul-le-mul_right}
use native.Mathlib.Omega.{arith}
use lib.ListN.{length, length-append, length-map}
use Rattle.page.specs.Entry.{ref_max}
use Rattle.page.proofs.Each.{each_middle}
use Rattle.model.specs.Row.{Page, Entry, Row, Each}
use Rattle.model.specs.Sweep.{Swept, lower, sweep}
use Rattle.model.specs.Demand.{Limited, MayGo, Stays, Victim, taken, refused, Evicts, full, takes}
use Rattle.model.proofs.Rounds.{idle_rounds, victim_found}
use Rattle.model.proofs.Choice.{Chosen, choose}

-- a sweep takes no page, or one
pub not_both : {victim : Option Page} {p : Page} → victim ≡ none → victim ≡ some p → ⊥
not_both q r = let clash : ◌≡◌ {A = ℕ} 0 1 = cc in omega arith

module _ (may : Page → Bool) where
  -- ── the two outcomes ───────────────────────────────────────────────────────
  -- r * n + d is under 4n
  taken_bound : (before : Row) (v : Entry) (after : Row) → Limited v
      → (taken may before v after).passed < suc ref_max * length (before ++ v ∷ after)
  unfolding taken
  taken_bound before v after u = omega (arith, length-append before (v ∷ after), mul-le-mul_right (length (before ++ v ∷ after)) u)

  -- the victim is found within 4n looks
  sweep_takes : (row before : Row) (v : Entry) (after : Row) → row ≡ before ++ v ∷ after → Victim may before v after → Each Limited row
      → sweep may row ≡ taken may before v after
  unfolding sweep taken
  sweep_takes row before v after parts is l =
      let n : ℕ = length (before ++ v ∷ after) in
      let d : ℕ = length before in
      let left : ℕ = suc ref_max * n - (v.uses * n + suc d) in
      let u : Limited v = each_middle Limited before v after (rw parts at l) in
      let fuel : suc ref_max * n ≡ v.uses * n + (d + suc left) = omega (arith, taken_bound before v after u) in
      let size : n ≡ d + suc (length after) = length-append before (v ∷ after) in
      rw (parts, fuel) (victim_found may n d left before v.page v.uses after is.goes is.first is.lowest refl size)

  -- four rounds in vain
  sweep_refuses : (row : Row) → Each (Stays may) row → sweep may row ≡ refused may row
  unfolding sweep refused
  sweep_refuses row t = idle_rounds may (suc ref_max) row t

  -- ── demand 3 ───────────────────────────────────────────────────────────────
  -- what the sweep comes to is allowed
  pub sweep_evicts : (row : Row) → Each Limited row → Evicts may row (sweep may row)
  sweep_evicts row l = go (choose may row)
    where
      go : Each (Stays may) row ⊎ Chosen may row → Evicts may row (sweep may row)
      go (inl t) = full t (sweep_refuses row t)
      go (inr f) =
          takes f.before f.v f.after f.parts f.is (sweep_takes row f.before f.v f.after f.parts f.is l)

  -- and nothing else is
  pub evicts_once : (row : Row) (s : Swept) → Each Limited row → Evicts may row s → s ≡ sweep may row
  evicts_once row s l (full t q) = q ∙ sym (sweep_refuses row t)
  evicts_once row s l (takes before v after parts is q) = q ∙ sym (sweep_takes row before v after parts is l)

  -- demand 3 is deterministic
  pub evicts_same : (row : Row) (s t : Swept) → Each Limited row → Evicts may row s → Evicts may row t → s ≡ t
  evicts_same row s t l a b = evicts_once row s l a ∙ sym (evicts_once row t l b)

  -- ── Full ───────────────────────────────────────────────────────────────────
  -- exactly if none may go
  pub full_iff : (row : Row) → Each Limited row → ((sweep may row).victim ≡ none) ↔ Each (Stays may) row
  unfolding taken refused
  full_iff row l = (λ q. go q (sweep_evicts row l), λ t. ap (λ (s : Swept). s.victim) (sweep_refuses row t))
    where
      go : (sweep may row).victim ≡ none → Evicts may row (sweep may row) → Each (Stays may) row
      go q (full t _) = t
      go q (takes before v after parts is e) = absurd (not_both q (ap (λ (s : Swept). s.victim) e))

  -- nothing is changed, and 4n pages were passed
  pub full_unchanged : (row : Row) → Each Limited row → (sweep may row).victim ≡ none → sweep may row ≡ refused may row
  full_unchanged row l q = sweep_refuses row ((full_iff row l).0 q)

  pub passed_full : (row : Row) → Each Limited row → (sweep may row).victim ≡ none → (sweep may row).passed ≡ suc ref_max * length row
  unfolding refused
  passed_full row l q = ap (λ (s : Swept). s.passed) (full_unchanged row l q)

  -- ── a page is taken ────────────────────────────────────────────────────────
  module _ (row : Row) (p : Page) (l : Each Limited row) (took : (sweep may row).victim ≡ some p) where
    -- fewer than 4n pages were passed
    pub passed_bound : (sweep may row).passed < suc ref_max * length row
    unfolding refused
    passed_bound = go (sweep_evicts row l)
      where
        go : Evicts may row (sweep may row) → (sweep may row).passed < suc ref_max * length row
        go (full t e) = absurd (not_both (ap (λ (s : Swept). s.victim) e) took)
        go (takes before v after parts is e) =
            rw (e, parts) (taken_bound before v after (each_middle Limited before v after (rw parts at l)))

    -- one entry less is left
    pub held_after : suc (length (sweep may row).row) ≡ length row
    unfolding refused taken
    held_after = go (sweep_evicts row l)
      where
        go : Evicts may row (sweep may row) → suc (length (sweep may row).row) ≡ length row
        go (full t e) = absurd (not_both (ap (λ (s : Swept). s.victim) e) took)
        go (takes before v after parts is e) = rw (e, parts) (simp (length-append, length-map) (omega arith))

  -- ── what the others lose ───────────────────────────────────────────────────
  -- an entry that may go and has at least r uses loses exactly r
  pub loses : (r : ℕ) (e : Entry) → MayGo may e → r ≤ e.uses → (lower may r e).uses + r ≡ e.uses
  unfolding lower
  loses r e g h = rw g (omega arith)

  -- one that may not go loses none
  pub stays_loses : (r : ℕ) (e : Entry) → Stays may e → lower may r e ≡ e
  unfolding lower
  stays_loses r e s = rw s
