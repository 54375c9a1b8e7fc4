-- The links determine the row and the row the links: a way goes on as its links say, and a slot that the row does not
-- have has links of zero.
use mathlib.Core.Path.{◌≡◌, refl, sym, ap, ◌∙◌, subst}
use mathlib.Core.Bool.{Bool, ◌||◌, or_assoc, or_comm}
use mathlib.Core.Logic.{◌⊎◌, inl, inr, ⊎_elim}
use mathlib.Core.List.{List, [], ◌∷◌, ◌++◌}
use Prim.Native.Nat.{ℕ}
use native.Mathlib.Omega.{arith}
use native.Mathlib.Decide.{ℕ_discrete}
use lib.Dec.{eqb}
use lib.ListN.{length, get_or}
use Rattle.ring_links.specs.Ring.{Ring, Out, Way, Round, has, first_of}
use Rattle.ring_links.proofs.Rings.{turns, Ended, ended}

-- ── members ──────────────────────────────────────────────────────────────────
pub has_append : (k : ℕ) (xs ys : List ℕ) → has k (xs ++ ys) ≡ has k xs || has k ys
has_append k [] ys = refl
has_append k (x ∷ xs) ys = ap (λ (b : Bool). eqb k x || b) (has_append k xs ys) ∙ sym (or_assoc (eqb k x) (has k xs) (has k ys))

-- a row turned has the same slots
pub has_turns : (k : ℕ) (xs ys : List ℕ) → has k (xs ++ ys) ≡ has k (ys ++ xs)
has_turns k xs ys = has_append k xs ys ∙ or_comm (has k xs) (has k ys) ∙ sym (has_append k ys xs)

-- ── the links determine the row ──────────────────────────────────────────────
way_only : (n p p' : List ℕ) (a z z' : ℕ) (r r' : List ℕ) → length r ≡ length r' → Way n p a r z → Way n p' a r' z' → r ≡ r'
way_only n p p' a z z' [] [] e w w' = refl
way_only n p p' a z z' [] (b ∷ r') e w w' = absurd (omega arith)
way_only n p p' a z z' (b ∷ r) [] e w w' = absurd (omega arith)
way_only n p p' a z z' (b ∷ r) (b' ∷ r') e w w' =
    let q : b ≡ b' = sym w.0.0 ∙ w'.0.0 in
    let t : r ≡ r' = way_only n p p' b z z' r r' (omega arith) w.1 (subst (λ (x : ℕ). Way n p' x r' z') (sym q) w'.1) in
    λ i. q i ∷ t i

-- two rounds of the same length from the same slot are the same row
pub round_only : (n p p' row row' : List ℕ) → length row ≡ length row' → first_of row ≡ first_of row' → Round n p row → Round n p' row' → row ≡ row'
round_only n p p' [] [] e f w w' = refl
round_only n p p' [] (b ∷ r') e f w w' = absurd (omega arith)
round_only n p p' (b ∷ r) [] e f w w' = absurd (omega arith)
round_only n p p' (b ∷ r) (b' ∷ r') e f w w' =
    let t : r ≡ r' = way_only n p p' b b b' r r' (omega arith) w (subst (λ (x : ℕ). Way n p' x r' b') (sym f) w') in
    λ i. f i ∷ t i

-- ── the row determines the links ─────────────────────────────────────────────
-- the place of a slot in a row
pub record Stands (k : ℕ) (row : List ℕ) : Type 0 where
  pub before : List ℕ
  pub after : List ℕ
  pub parts : row ≡ before ++ k ∷ after

-- a slot is out of a row, or stands in it
pub stands : (k : ℕ) (row : List ℕ) → Out k row ⊎ Stands k row
stands k [] = inl tt
stands k (x ∷ row) = here (ℕ_discrete k x) (stands k row)
  where
    here : Dec (k ≡ x) → Out k row ⊎ Stands k row → Out k (x ∷ row) ⊎ Stands k (x ∷ row)
    here (yes e) t = inr record { before = []; after = row; parts = rw e }
    here (no ne) (inl o) = inl (ne, o)
    here (no ne) (inr t) = inr record { before = x ∷ t.before; after = t.after; parts = ap (λ (l : List ℕ). x ∷ l) t.parts }

module _ {n p n' p' : List ℕ} where
  -- at the front of a row
  next_of : {k : ℕ} (r : List ℕ) → Ring n p (k ∷ r) → Ring n' p' (k ∷ r) → get_or n k 0 ≡ get_or n' k 0
  next_of [] g g' = g.round.0 ∙ sym g'.round.0
  next_of (x ∷ r) g g' = g.round.0.0 ∙ sym g'.round.0.0

  prev_of : {k : ℕ} (r : List ℕ) → Ring n p (k ∷ r) → Ring n' p' (k ∷ r) → get_or p k 0 ≡ get_or p' k 0
  prev_of {k} r g g' = ⊎_elim
      (λ (q : r ≡ []).
      let x : Ring n p (k ∷ []) = rw q at g in
      let y : Ring n' p' (k ∷ []) = rw q at g' in
      x.round.1 ∙ sym y.round.1)
      (λ (q : Ended r).
      let x : Ring n p (q.back ∷ k ∷ q.front) = turns (k ∷ q.front) (q.back ∷ []) (rw q.parts at g) in
      let y : Ring n' p' (q.back ∷ k ∷ q.front) = turns (k ∷ q.front) (q.back ∷ []) (rw q.parts at g') in
      x.round.0.1 ∙ sym y.round.0.1)
      (ended r)

  module _ {row : List ℕ} (g : Ring n p row) (g' : Ring n' p' row) where
    pub next_at_only : (k : ℕ) → get_or n k 0 ≡ get_or n' k 0
    next_at_only k = ⊎_elim
        (λ (o : Out k row). g.free_next k o ∙ sym (g'.free_next k o))
        (λ (t : Stands k row). next_of (t.after ++ t.before) (turns t.before (k ∷ t.after) (rw t.parts at g)) (turns t.before (k ∷ t.after) (rw t.parts at g')))
        (stands k row)

    pub prev_at_only : (k : ℕ) → get_or p k 0 ≡ get_or p' k 0
    prev_at_only k = ⊎_elim
        (λ (o : Out k row). g.free_prev k o ∙ sym (g'.free_prev k o))
        (λ (t : Stands k row). prev_of (t.after ++ t.before) (turns t.before (k ∷ t.after) (rw t.parts at g)) (turns t.before (k ∷ t.after) (rw t.parts at g')))
        (stands k row)
