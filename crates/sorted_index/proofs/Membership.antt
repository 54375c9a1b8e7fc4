-- Whether a slot is in a list, as a Bool: yes exactly if the slot stands at some place, and an element in the middle may
-- as well stand in front.
use mathlib.Core.Path.{◌≡◌, refl, sym, ap, ◌∙◌}
use mathlib.Core.Bool.{Bool, true, false, ◌||◌, true≢false}
use mathlib.Core.Logic.{◌⊎◌, inl, inr, ⊎_elim}
use mathlib.Core.List.{List, [], ◌∷◌, ◌++◌}
use Prim.Native.Nat.{ℕ, zero, suc, ◌<◌, zero-le, suc-le-suc}
use native.Mathlib.Nat.{le_of_suc-le-suc, not-suc-le-zero}
use native.Mathlib.Decide.{ℕ_discrete}
use lib.Dec.{eqb}
use lib.ListN.{length, get_or}
use borrow.Author.Tests.{eq-eqb, ne_eqb}
use Rattle.ring_links.specs.Ring.{has, Out, Apart}

-- ── the head of a list ───────────────────────────────────────────────────────
pub has_here : (k : ℕ) (l : List ℕ) → has k (k ∷ l) ≡ true
has_here k l = ap (λ (b : Bool). b || has k l) (eq-eqb k k refl)

pub has_there : (k a : ℕ) (l : List ℕ) → has k l ≡ true → has k (a ∷ l) ≡ true
has_there k a l h = go (eqb k a)
  where
    go : (b : Bool) → b || has k l ≡ true
    go true = refl
    go false = h

pub has_skip : (k a : ℕ) (l : List ℕ) → (k ≡ a → ⊥) → has k (a ∷ l) ≡ has k l
has_skip k a l ne = ap (λ (b : Bool). b || has k l) (ne_eqb k a ne)

pub has_cons : (k a : ℕ) (l : List ℕ) → has k (a ∷ l) ≡ true → (k ≡ a) ⊎ (has k l ≡ true)
has_cons k a l h = go (ℕ_discrete k a)
  where
    go : Dec (k ≡ a) → (k ≡ a) ⊎ (has k l ≡ true)
    go (yes e) = inl e
    go (no ne) = inr (sym (has_skip k a l ne) ∙ h)

-- ── out of a list ────────────────────────────────────────────────────────────
pub has_out : (k : ℕ) (l : List ℕ) → Out k l → has k l ≡ false
has_out k [] o = refl
has_out k (a ∷ l) o = has_skip k a l o.0 ∙ has_out k l o.1

pub out_has : (k : ℕ) (l : List ℕ) → has k l ≡ false → Out k l
out_has k [] h = tt
out_has k (a ∷ l) h =
    let ne : k ≡ a → ⊥ = λ e. true≢false (sym (ap (λ (z : ℕ). has z (a ∷ l)) e ∙ has_here a l) ∙ h) in
    (ne, out_has k l (sym (has_skip k a l ne) ∙ h))

-- ── by places ────────────────────────────────────────────────────────────────
pub has_get_d : (l : List ℕ) (i : ℕ) → i < length l → has (get_or l i 0) l ≡ true
has_get_d [] i h = absurd (not-suc-le-zero h)
has_get_d (a ∷ l) zero h = has_here a l
has_get_d (a ∷ l) (suc i) h = has_there (get_or l i 0) a l (has_get_d l i (le_of_suc-le-suc h))

-- k stands at one of the first n places
pub record Place (l : List ℕ) (n k : ℕ) : Type 0 where
  pub at : ℕ
  pub within : at < n
  pub there : get_or l at 0 ≡ k

pub has_place : (k : ℕ) (l : List ℕ) → has k l ≡ true → Place l (length l) k
has_place k [] h = absurd (true≢false (sym h))
has_place k (a ∷ l) h = ⊎_elim here (λ t. later (has_place k l t)) (has_cons k a l h)
  where
    here : k ≡ a → Place (a ∷ l) (length (a ∷ l)) k
    here e = record { at = zero; within = suc-le-suc zero-le; there = sym e }

    later : Place l (length l) k → Place (a ∷ l) (length (a ∷ l)) k
    later p = record { at = suc p.at; within = suc-le-suc p.within; there = p.there }

-- ── an element in the middle ─────────────────────────────────────────────────
or_swap : (a b c : Bool) → a || (b || c) ≡ b || (a || c)
or_swap true true c = refl
or_swap true false c = refl
or_swap false b c = refl

pub has_mid : (k s : ℕ) (a b : List ℕ) → has k (a ++ s ∷ b) ≡ has k (s ∷ (a ++ b))
has_mid k s [] b = refl
has_mid k s (x ∷ a) b = ap (λ (c : Bool). eqb k x || c) (has_mid k s a b) ∙ or_swap (eqb k x) (eqb k s) (has k (a ++ b))

pub mid_has : (a : List ℕ) (s : ℕ) (b : List ℕ) → has s (a ++ s ∷ b) ≡ true
mid_has a s b = has_mid s s a b ∙ has_here s (a ++ b)

pub apart_mid : (s : ℕ) (a b : List ℕ) → Apart (a ++ s ∷ b) → Out s (a ++ b)
apart_mid s [] b d = d.0
apart_mid s (x ∷ a) b d = ((λ e. before (sym e) a d.0), apart_mid s a b d.1)
  where
    before : x ≡ s → (a : List ℕ) → Out x (a ++ s ∷ b) → ⊥
    before e [] o = o.0 e
    before e (y ∷ a) o = before e a o.1

-- two lists that have the same members still do when s goes from both
pub same_without : (s : ℕ) (a b c d : List ℕ) → ((k : ℕ) → has k (a ++ s ∷ b) ≡ has k (c ++ s ∷ d)) → Out s (a ++ b) → Out s (c ++ d)
    → (k : ℕ) → has k (a ++ b) ≡ has k (c ++ d)
same_without s a b c d h o p k = go (ℕ_discrete k s)
  where
    go : Dec (k ≡ s) → has k (a ++ b) ≡ has k (c ++ d)
    go (yes e) = rw e (has_out s (a ++ b) o ∙ sym (has_out s (c ++ d) p))
    go (no ne) = sym (has_skip k s (a ++ b) ne) ∙ sym (has_mid k s a b) ∙ h k ∙ has_mid k s c d ∙ has_skip k s (c ++ d) ne
