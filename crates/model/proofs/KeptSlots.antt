-- The lowest free slot is free, every slot below it is taken, and it is at most the number of entries. For n + 1 taken slots
-- need n + 1 entries: take away the entry of one slot, and the other slots are taken still.
use mathlib.Core.Bool.{Bool, true, false, ◌||◌, false≢true}
use mathlib.Core.List.{[], ◌∷◌}
use mathlib.Core.Logic.{◌≢◌}
use mathlib.Core.Path.{◌≡◌, refl, sym, ap, ◌∙◌}
use Prim.Native.Nat.{ℕ, zero, suc, ◌+◌, ◌≤◌, ◌<◌}
use native.Mathlib.Decide.{dec_le}
use native.Mathlib.Omega.{arith}
use lib.Dec.{eqb}
use lib.ListN.{length}
use borrow.Author.Tests.{eqb-true, eqb-false, ne_eqb}
use Rattle.model.specs.Row.{Row, Each}
use Rattle.model.specs.Cache.{slot_taken, free_from, lowest_free}
use Rattle.model.proofs.Numbers.{OtherSlot}
use Rattle.model.proofs.KeptCases.{either}

-- ── taken slots and entries ──────────────────────────────────────────────────
-- a row with one entry less, in which the slots other than s are taken as before
record Without (s : ℕ) (row : Row) : Type 0 where
  rest : Row
  one_less : length row ≡ suc (length rest)
  others : (t : ℕ) → t ≢ s → slot_taken t row ≡ true → slot_taken t rest ≡ true

take_away : (s : ℕ) (row : Row) → slot_taken s row ≡ true → Without s row
unfolding slot_taken
take_away s [] h = absurd (false≢true h)
take_away s (e ∷ es) h = go (eqb s e.page.slot) refl h (take_away s es)
  where
    go : (b : Bool) → eqb s e.page.slot ≡ b → b || slot_taken s es ≡ true → (slot_taken s es ≡ true → Without s es)
        → Without s (e ∷ es)
    go true q _ _ = record {
      rest = es;
      one_less = refl;
      others = λ t differs g. rw (ne_eqb t e.page.slot (λ same. differs (same ∙ sym (eqb-true s e.page.slot q)))) at g;
    }
    go false q h shorter = record {
      rest = e ∷ (shorter h).rest;
      one_less = ap suc (shorter h).one_less;
      others = λ t differs g. still (eqb t e.page.slot) t g ((shorter h).others t differs);
    }
      where
        still : (b : Bool) (t : ℕ) → b || slot_taken t es ≡ true → (slot_taken t es ≡ true → slot_taken t (shorter h).rest ≡ true)
            → b || slot_taken t (shorter h).rest ≡ true
        still true t g f = refl
        still false t g f = f g

taken_below : (n : ℕ) (row : Row) → ((t : ℕ) → t < n → slot_taken t row ≡ true) → n ≤ length row
taken_below zero row h = omega arith
taken_below (suc n) row h =
    let less : Without n row = take_away n row (h n (omega arith)) in
    omega (arith, less.one_less, taken_below n less.rest (λ t l. less.others t (λ q. omega arith) (h t (omega arith))))

-- ── the first free slot from s on ────────────────────────────────────────────
from_bound : (k s : ℕ) (row : Row) → free_from k s row ≤ s + k
unfolding free_from
from_bound zero s row = omega arith
from_bound (suc k) s row = either (λ (n : ℕ). n ≤ s + suc k) (slot_taken s row)
    (λ _. omega (arith, from_bound k (suc s) row)) (λ _. omega arith)

from_lower : (k s : ℕ) (row : Row) (t : ℕ) → s ≤ t → t < free_from k s row → slot_taken t row ≡ true
unfolding free_from
from_lower zero s row t a b = absurd (omega arith)
from_lower (suc k) s row t a b = either (λ (n : ℕ). t < n → slot_taken t row ≡ true) (slot_taken s row)
    (λ h l. go h (λ above. from_lower k (suc s) row t above l) (dec_le t s)) (λ _ l. absurd (omega arith)) b
  where
    go : slot_taken s row ≡ true → (suc s ≤ t → slot_taken t row ≡ true) → Dec (t ≤ s) → slot_taken t row ≡ true
    go h further (yes l) = let q : t ≡ s = omega arith in rw q h
    go h further (no l) = further (omega arith)

-- it is free, unless none of the k slots was
from_free : (k s : ℕ) (row : Row) → slot_taken (free_from k s row) row ≡ true → free_from k s row ≡ s + k
unfolding free_from
from_free zero s row h = omega arith
from_free (suc k) s row h = either (λ (n : ℕ). slot_taken n row ≡ true → n ≡ s + suc k) (slot_taken s row)
    (λ _ g. omega (arith, from_free k (suc s) row g)) (λ q g. absurd (false≢true (sym q ∙ g))) h

-- ── the lowest free slot ─────────────────────────────────────────────────────
pub lowest_bound : (row : Row) → lowest_free row ≤ length row
unfolding lowest_free
lowest_bound row = omega (arith, from_bound (length row) 0 row)

pub lowest_lower : (row : Row) (t : ℕ) → t < lowest_free row → slot_taken t row ≡ true
unfolding lowest_free
lowest_lower row t = from_lower (length row) 0 row t (omega arith)

pub lowest_free_lem : (row : Row) → slot_taken (lowest_free row) row ≡ false
unfolding lowest_free
lowest_free_lem row = go (slot_taken (lowest_free row) row) refl
  where
    go : (b : Bool) → slot_taken (lowest_free row) row ≡ b → b ≡ false
    go false h = refl
    go true h =
        let last : lowest_free row ≡ 0 + length row = from_free (length row) 0 row h in
        absurd (omega (arith, taken_below (suc (lowest_free row)) row (λ t l. taken t l (dec_le (suc t) (lowest_free row)))))
      where
        taken : (t : ℕ) → t < suc (lowest_free row) → Dec (t < lowest_free row) → slot_taken t row ≡ true
        taken t l (yes below) = lowest_lower row t below
        taken t l (no not_below) = let q : t ≡ lowest_free row = omega arith in rw q h

-- a free slot is no entry's
pub free_others : (s : ℕ) (row : Row) → slot_taken s row ≡ false → Each (OtherSlot s) row
unfolding slot_taken
free_others s [] h = tt
free_others s (e ∷ es) h = go (eqb s e.page.slot) refl h (free_others s es)
  where
    go : (b : Bool) → eqb s e.page.slot ≡ b → b || slot_taken s es ≡ false → (slot_taken s es ≡ false → Each (OtherSlot s) es)
        → Each (OtherSlot s) (e ∷ es)
    go true q h rest = absurd (false≢true (sym h))
    go false q h rest = (eqb-false s e.page.slot q, rest h)
