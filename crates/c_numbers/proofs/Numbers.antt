-- A list of five or six numbers that are all stored is the new numbers, whatever stood there; a head is read as its numbers say,
-- by the test that they fit; the hand's key is read where the hand is a slot.
use mathlib.Core.Path.{◌≡◌, refl, sym, ap, ◌∙◌}
use mathlib.Core.Bool.{Bool, true, false, not, ◌&&◌, ◌||◌, true≢false}
use mathlib.Core.List.{List, [], ◌∷◌}
use Prim.Native.Nat.{ℕ, zero, suc, ◌/◌, ◌^◌, ◌≤◌, ◌<◌}
use native.Mathlib.Omega.{arith}
use lib.Dec.{eqb, ltb}
use lib.ListN.{length, get_or, set}
use borrow.Author.Tests.{ltb-true, eq-eqb, ne_eqb, lt-ltb, le-ltb, not-true, not-false}
use Rattle.page.specs.declared.cache.PageCache.{PageCache}
use Rattle.page.specs.declared.entry.PageCacheEntry.{PageCacheEntry}
use Rattle.pool.specs.Slots.{entries, blank}
use Rattle.pool.proofs.Packing.{entries_length}
use Rattle.answer.specs.Answer.{code_of, value_of}
use Rattle.answer.specs.declared.answered.Answered.{Answered}
use Rattle.c_numbers.specs.Head.{fits, no_head, fields_of, head_of, numbers_of, head_after, none, hand_key, answer_of}

-- ── every place is stored ────────────────────────────────────────────────────
pub five : (l : List ℕ) (a b c d e : ℕ) → length l ≡ 5
    → set (set (set (set (set l 0 a) 1 b) 2 c) 3 d) 4 e ≡ a ∷ b ∷ c ∷ d ∷ e ∷ []
five [] a b c d e h = absurd (omega arith)
five (_ ∷ []) a b c d e h = absurd (omega arith)
five (_ ∷ _ ∷ []) a b c d e h = absurd (omega arith)
five (_ ∷ _ ∷ _ ∷ []) a b c d e h = absurd (omega arith)
five (_ ∷ _ ∷ _ ∷ _ ∷ []) a b c d e h = absurd (omega arith)
five (_ ∷ _ ∷ _ ∷ _ ∷ _ ∷ []) a b c d e h = refl
five (_ ∷ _ ∷ _ ∷ _ ∷ _ ∷ _ ∷ l) a b c d e h = absurd (omega arith)

pub six : (l : List ℕ) (a b c d e f : ℕ) → length l ≡ 6
    → set (set (set (set (set (set l 0 a) 1 b) 2 c) 3 d) 4 e) 5 f ≡ a ∷ b ∷ c ∷ d ∷ e ∷ f ∷ []
six [] a b c d e f h = absurd (omega arith)
six (x ∷ l) a b c d e f h = ap (λ (t : List ℕ). a ∷ t) (five l b c d e f (omega arith))

-- an answer, stored part by part
pub answer_stored : (l : List ℕ) (es : List PageCacheEntry) (r : Answered) {code value key : ℕ} → length l ≡ 6 → code ≡ code_of r.answer
    → value ≡ value_of r.answer → key ≡ hand_key es r.head
    → set (set (set (set (set (set l 0 code) 1 value) 2 r.passed) 3 r.head.held) 4 key) 5 r.listed ≡ answer_of es r
answer_stored l es r n c v k =
    six l _ _ _ _ _ _ n ∙ (λ i. c i ∷ v i ∷ r.passed ∷ r.head.held ∷ k i ∷ r.listed ∷ [])

-- ── the head ─────────────────────────────────────────────────────────────────
and_left : (a b : Bool) → (a && b) ≡ true → a ≡ true
and_left true b e = refl
and_left false b e = e

and_right : (a b : Bool) → (a && b) ≡ true → b ≡ true
and_right true b e = e
and_right false b e = absurd (true≢false (sym e))

-- numbers that fit are within the ranges of their fields
pub record Within (l : List ℕ) : Type 0 where
  pub capacity : get_or l 0 0 < 2 ^ 32
  pub held : get_or l 1 0 < 2 ^ 32
  pub hand : get_or l 2 0 < 2 ^ 32
  pub spill : get_or l 3 0 < 2 ^ 8
  pub estimate : get_or l 4 0 < 2 ^ 32

pub within : (l : List ℕ) {b : Bool} → b ≡ fits l → not b ≡ false → Within l
within l {b} told left =
    let whole = sym told ∙ not-false b left in
    let capacity = ltb (get_or l 0 0) (2 ^ 32) in
    let held = ltb (get_or l 1 0) (2 ^ 32) in
    let hand = ltb (get_or l 2 0) (2 ^ 32) in
    let spill = ltb (get_or l 3 0) (2 ^ 8) in
    let estimate = ltb (get_or l 4 0) (2 ^ 32) in
    let four = and_left (capacity && held && hand && spill) estimate whole in
    let three = and_left (capacity && held && hand) spill four in
    let two = and_left (capacity && held) hand three in
    record {
      capacity = ltb-true _ _ (and_left capacity held two);
      held = ltb-true _ _ (and_right capacity held two);
      hand = ltb-true _ _ (and_right (capacity && held) hand three);
      spill = ltb-true _ _ (and_right (capacity && held && hand) spill four);
      estimate = ltb-true _ _ (and_right (capacity && held && hand && spill) estimate whole);
    }

module _ (l : List ℕ) {b : Bool} (told : b ≡ fits l) where
  pub read_none : not b ≡ true → no_head ≡ head_of l
  read_none e = rw (sym told ∙ not-true b e)

  pub read_fields : not b ≡ false → fields_of l ≡ head_of l
  read_fields e = rw (sym told ∙ not-false b e)

  -- the test whether the head is written
  asked : (r : Answered) {code : ℕ} → code ≡ code_of r.answer → (b || eqb code 0) ≡ (fits l || eqb (code_of r.answer) 0)
  asked r q = λ i. told i || eqb (q i) 0

  pub written : (r : Answered) {code : ℕ} → code ≡ code_of r.answer → (b || eqb code 0) ≡ true → numbers_of r.head ≡ head_after l r
  written r q e = rw (sym (asked r q) ∙ e)

  pub kept : (r : Answered) {code : ℕ} → code ≡ code_of r.answer → (b || eqb code 0) ≡ false → l ≡ head_after l r
  kept r q e = rw (sym (asked r q) ∙ e)

-- ── the hand's key ───────────────────────────────────────────────────────────
pub quarter : (l : List ℕ) (s : ℕ) → s < length l / 4 → s < length (entries l)
unfolding entries
quarter [] s h = absurd (omega arith)
quarter (a ∷ []) s h = absurd (omega arith)
quarter (a ∷ b ∷ []) s h = absurd (omega arith)
quarter (a ∷ b ∷ c ∷ []) s h = absurd (omega arith)
quarter (a ∷ b ∷ c ∷ d ∷ l) zero h = omega arith
quarter (a ∷ b ∷ c ∷ d ∷ l) (suc s) h = let g : s < length (entries l) = quarter l s (omega arith) in omega (arith, g)

module _ (l : List ℕ) (head : PageCache) where
  pub nothing_held : head.held ≡ 0 → none ≡ hand_key (entries l) head
  nothing_held h = rw (eq-eqb head.held 0 h)

  pub no_slot : (head.held ≡ 0 → ⊥) → length l / 4 ≤ head.hand.0 → none ≡ hand_key (entries l) head
  no_slot some far =
      let long = entries_length l in
      rw (ne_eqb head.held 0 some, le-ltb head.hand.0 (length (entries l)) (omega (arith, long, far)))

  pub a_slot : (head.held ≡ 0 → ⊥) → head.hand.0 < length l / 4 → {e : PageCacheEntry} → e ≡ get_or (entries l) head.hand.0 blank
      → e.key.0 ≡ hand_key (entries l) head
  a_slot some near q = rw (ne_eqb head.held 0 some, lt-ltb head.hand.0 (length (entries l)) (quarter l head.hand.0 near), q)
