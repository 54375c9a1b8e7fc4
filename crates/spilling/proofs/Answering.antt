-- The three answers to a spill are the outcome's: 18 if none is needed, 19 if nothing is selected, and else the number and the
-- handles; the memory is as it was.
use mathlib.Core.Path.{◌≡◌, refl, sym, ap, ◌∙◌, subst}
use mathlib.Core.Bool.{Bool, true, false}
use mathlib.Core.List.{List, [], ◌∷◌, ◌++◌, map, append-nil}
use Prim.Native.Nat.{ℕ}
use native.Mathlib.Omega.{arith}
use lib.ListN.{length, length-map}
use Rattle.page.specs.declared.cache.PageCache.{PageCache}
use Rattle.model.specs.Cache.{Cache}
use Rattle.model.specs.Call.{Outcome, answer}
use Rattle.model.specs.Row.{Page}
use Rattle.model.specs.Spill.{needs_spill, selection, selected, on_spill}
use Rattle.memory.specs.Memory.{Memory}
use Rattle.memory.specs.Holds.{Holds}
use Rattle.answer.specs.Answer.{MatchesOutcome, Wrote, plainly}
use Rattle.answer.specs.declared.answer.Answer.TheVariants.{Done, NotNeeded, NoneSelected}
use Rattle.answer.specs.declared.answered.Answered.{Answered}
use Rattle.spilling.specs.Parts.{Selected}

-- ── a spill is needed ────────────────────────────────────────────────────────
module _ {m : Memory} {head : PageCache} {c : Cache} {before after : List ℕ} {n : ℕ} (g : Holds m head c) where
  -- 19
  none_selected : (pages : List Page) → Selected pages before after n → n ≡ 0 → MatchesOutcome (selected pages c) before m after (plainly NoneSelected head)
  none_selected [] s none = record {
    follows = record { code = refl; value = refl; passed = refl; listed = refl; holds = g };
    wrote = s.wrote;
  }
  none_selected (p ∷ pages) s none = absurd (omega (arith, s.number))

  -- 0, with the number
  some_selected : (pages : List Page) → Selected pages before after n → (n ≡ 0 → ⊥)
      → MatchesOutcome (selected pages c) before m after (record { answer = Done n; passed = 0; listed = n; head = head })
  some_selected [] s some = absurd (some s.number)
  some_selected (p ∷ pages) s some =
      let handles : map (λ (q : Page). q.handle) (p ∷ pages) ++ [] ≡ map (λ (q : Page). q.handle) (p ∷ pages) = append-nil _ in
      record {
        follows = record {
          code = refl;
          value = s.number;
          passed = refl;
          listed = s.number ∙ sym (ap length handles ∙ length-map (p ∷ pages) (λ q. q.handle));
          holds = g;
        };
        wrote = subst (λ (l : List ℕ). Wrote l before after) (sym handles) s.wrote;
      }

-- ── the call ─────────────────────────────────────────────────────────────────
-- by the need that was found
abbrev spill_if : ℕ → Cache → Bool → Outcome
spill_if most c need = elim need [ true ↦ selected (selection most c) c | false ↦ answer 18 0 c ]

module _ {m : Memory} {head : PageCache} {c : Cache} {need : Bool} {before : List ℕ} (most : ℕ) (g : Holds m head c) (told : need ≡ needs_spill c) where
  pub comes_not_needed : {r : Answered} → need ≡ false → r ≡ plainly NotNeeded head → MatchesOutcome (on_spill most c) before m before r
  comes_not_needed none given =
      let comes : MatchesOutcome (answer 18 0 c) before m before (plainly NotNeeded head) = record {
        follows = record { code = refl; value = refl; passed = refl; listed = refl; holds = g };
        wrote = record { list = refl };
      } in
      rw given (subst (λ (b : Bool). MatchesOutcome (spill_if most c b) before m before (plainly NotNeeded head)) (sym none ∙ told) comes)

  module _ {after : List ℕ} {n : ℕ} (needed : need ≡ true) (s : Selected (selection most c) before after n) where
    pub comes_none : {r : Answered} → n ≡ 0 → r ≡ plainly NoneSelected head → MatchesOutcome (on_spill most c) before m after r
    comes_none none given =
        rw given
        (subst (λ (b : Bool). MatchesOutcome (spill_if most c b) before m after (plainly NoneSelected head)) (sym needed ∙ told)
        (none_selected g (selection most c) s none))

    pub comes_some : (n ≡ 0 → ⊥) → MatchesOutcome (on_spill most c) before m after (record { answer = Done n; passed = 0; listed = n; head = head })
    comes_some some =
        subst
        (λ (b : Bool). MatchesOutcome (spill_if most c b) before m after (record { answer = Done n; passed = 0; listed = n; head = head }))
        (sym needed ∙ told) (some_selected g (selection most c) s some)
