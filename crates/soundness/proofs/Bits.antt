-- What `is_free` says of a mark, and so of its slot. The marks beyond the last slot are the upper digits of the last word, and they
-- are all zero exactly if nothing is left of the word once it is shifted down past the others.
use mathlib.Core.Path.{◌≡◌, sym, ap, ◌∙◌}
use mathlib.Core.Bool.{Bool, true, false, true≢false}
use mathlib.Core.List.{List}
use Prim.Native.Nat.{ℕ, ◌+◌, ◌-◌, ◌/◌, ◌%◌, ◌^◌, ◌≤◌, ◌<◌}
use native.Mathlib.Decide.{ℕ_discrete}
use native.Mathlib.Omega.{arith}
use lib.Dec.{eqb}
use lib.Pow.{pow_pos, shr_lt}
use lib.ListN.{length, get_or}
use Rattle.page.specs.declared.entry.PageCacheEntry.{PageCacheEntry}
use Rattle.free_marks.specs.Marks.{bit_at}
use Rattle.pool.specs.Slots.{blank}
use Rattle.pool.specs.Decides.{Decides}
use Rattle.free_marks.proofs.Digits.{digit, digit_shifted, digit_of_none, digits_once}
use Rattle.free_marks.proofs.Marking.{bit_past}
use Rattle.pool.proofs.Decides.{decides_yes, decides_eq, decides_as}
use Rattle.soundness.specs.Checks.{MarksFit, Beyond, HeldEntryGood, SlotGood}

-- ── one mark ─────────────────────────────────────────────────────────────────
-- what the answer of `is_free` says of a mark
module _ {mark : ℕ} {free : Bool} (t : Decides free (mark ≡ 1)) where
  pub free_marked : free ≡ true → mark ≡ 0 → ⊥
  free_marked e z = omega (arith, t.right e)

  pub held_unmarked : mark ≤ 1 → free ≡ false → mark ≡ 0
  held_unmarked h e = let ne : mark ≡ 1 → ⊥ = λ q. true≢false (sym (t.whole q) ∙ e) in omega arith

  -- and so of a slot that is looked at by it
  module _ {e : PageCacheEntry} {answer : Bool} where
    pub free_slot_good : free ≡ true → Decides answer (e ≡ blank) → Decides answer (SlotGood mark e)
    free_slot_good f b = decides_as b (λ p. record { held = λ z. absurd (free_marked f z); free = λ _. p }) (λ p. p.free (t.right f))

    pub held_slot_good : mark ≤ 1 → free ≡ false → {read : PageCacheEntry} → read ≡ e → Decides answer (HeldEntryGood read) → Decides answer (SlotGood mark e)
    held_slot_good h f r b = decides_as (rw r at b)
        (λ p. record { held = λ _. p; free = λ o. absurd (true≢false (sym (t.whole o) ∙ f)) }) (λ p. p.held (held_unmarked h f))

-- ── beyond the last slot ─────────────────────────────────────────────────────
module _ {m : List ℕ} {size : ℕ} (fit : MarksFit m size) where
  -- there is no last word that is used in part
  pub beyond_none : length m ≤ size / 64 → Decides true (Beyond m size)
  beyond_none h = decides_yes record { clear = λ k g. bit_past m k (omega arith) }

  abbrev word : ℕ
  word = get_or m (size / 64) 0

  module _ (wide : word < 2 ^ 64) where
    -- nothing is left of the word
    clear_beyond : word / 2 ^ (size % 64) ≡ 0 → (k : ℕ) → size ≤ k → bit_at m k ≡ 0
    clear_beyond e k g = go (ℕ_discrete (k / 64) (size / 64))
      where
        go : Dec (k / 64 ≡ size / 64) → bit_at m k ≡ 0
        go (yes q) =
            let above : size % 64 + (k % 64 - size % 64) ≡ k % 64 = omega arith in
            ap (λ (w : ℕ). digit (get_or m w 0) (k % 64)) q ∙ ap (digit word) (sym above)
            ∙ sym (digit_shifted word (size % 64) (k % 64 - size % 64)) ∙ ap (λ (x : ℕ). digit x (k % 64 - size % 64)) e ∙ digit_of_none _
        go (no ne) = bit_past m k (omega (arith, fit.words))

    beyond_clear : ((k : ℕ) → size ≤ k → bit_at m k ≡ 0) → word / 2 ^ (size % 64) ≡ 0
    beyond_clear f =
        let whole : 64 - size % 64 + size % 64 ≡ 64 = omega arith in
        digits_once (64 - size % 64) (word / 2 ^ (size % 64)) 0
        (shr_lt (64 - size % 64) (size % 64) (rw whole wide)) (pow_pos (64 - size % 64))
        (λ i h. digit_shifted word (size % 64) i ∙ here i h ∙ sym (digit_of_none i))
      where
        here : (i : ℕ) → i < 64 - size % 64 → digit word (size % 64 + i) ≡ 0
        here i h =
            let w : (size + i) / 64 ≡ size / 64 = omega arith in
            let b : (size + i) % 64 ≡ size % 64 + i = omega arith in
            (λ t. digit (get_or m (sym w t) 0) (sym b t)) ∙ f (size + i) (omega arith)

    pub beyond_tested : Decides (eqb (word / 2 ^ (size % 64)) 0) (Beyond m size)
    beyond_tested = decides_as (decides_eq (word / 2 ^ (size % 64)) 0) (λ e. record { clear = clear_beyond e }) (λ f. beyond_clear f.clear)
