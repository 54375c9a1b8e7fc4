-- The marks of a pool whose seats are given up and taken. A mark says whether its slot is a seat, so one mark changes as one
-- slot does; and the lowest mark that is set is the model's lowest free slot.
use mathlib.Core.Path.{◌≡◌, refl, sym, ap, ◌∙◌, subst}
use mathlib.Core.Bool.{Bool, true, false, cond, ◌||◌, true≢false}
use mathlib.Core.List.{List, [], ◌∷◌, ◌++◌}
use Prim.Native.Nat.{ℕ, ◌+◌, ◌/◌, ◌≤◌, ◌<◌}
use native.Mathlib.Omega.{arith}
use native.Mathlib.Decide.{ℕ_discrete, dec_lt}
use lib.Dec.{eqb}
use lib.ListN.{length, get_or, length-map}
use Rattle.page.specs.Cache.{max_slots}
use Rattle.page.specs.declared.entry.PageCacheEntry.{PageCacheEntry}
use Rattle.ring_links.specs.Ring.{has, Out}
use Rattle.pool.specs.Slots.{blank}
use Rattle.free_marks.specs.Marks.{bit_at, MarkedAs, SomeFree, LowestFree}
use Rattle.free_marks.proofs.Marking.{clash}
use Rattle.sorted_index.proofs.Membership.{has_here, has_skip, has_out, out_has, has_mid}
use Rattle.model.specs.Cache.{slot_taken, lowest_free}
use Rattle.model.proofs.KeptSlots.{lowest_bound, lowest_lower, lowest_free_lem}
use Rattle.memory.specs.Holds.{seen, row_of, Marked}

-- what a mark says
abbrev mark_of : Bool → ℕ
mark_of held = cond held 0 1

-- ── one mark changes ─────────────────────────────────────────────────────────
-- the same seats in another order
pub marked_seats : {marks : List ℕ} {size : ℕ} {seats seats' : List ℕ} → Marked marks size seats → ((k : ℕ) → has k seats' ≡ has k seats)
    → Marked marks size seats'
marked_seats m same = record { inside = λ k h. m.inside k h ∙ ap mark_of (sym (same k)); beyond = m.beyond }

module _ {marks marks' : List ℕ} {size s : ℕ} (inside : s < size) where
  -- a seat is given up
  pub marked_out : (before after : List ℕ) → Marked marks size (before ++ s ∷ after) → Out s (before ++ after) → MarkedAs 1 marks s marks'
      → Marked marks' size (before ++ after)
  marked_out before after m out set = record {
    inside = λ k h. at k h (ℕ_discrete k s);
    beyond = λ k h. set.others k (λ q. omega arith) ∙ m.beyond k h;
  }
    where
      at : (k : ℕ) → k < size → Dec (k ≡ s) → bit_at marks' k ≡ mark_of (has k (before ++ after))
      at k h (yes q) = rw q (set.here ∙ ap mark_of (sym (has_out s (before ++ after) out)))
      at k h (no other) = set.others k other ∙ m.inside k h ∙ ap mark_of (has_mid k s before after ∙ has_skip k s (before ++ after) other)

  -- a seat is taken
  pub marked_in : {seats : List ℕ} → Marked marks size seats → MarkedAs 0 marks s marks' → Marked marks' size (s ∷ seats)
  marked_in {seats} m cleared = record {
    inside = λ k h. at k h (ℕ_discrete k s);
    beyond = λ k h. cleared.others k (λ q. omega arith) ∙ m.beyond k h;
  }
    where
      at : (k : ℕ) → k < size → Dec (k ≡ s) → bit_at marks' k ≡ mark_of (has k (s ∷ seats))
      at k h (yes q) = subst (λ x. bit_at marks' x ≡ mark_of (has x (s ∷ seats))) (sym q) (cleared.here ∙ ap mark_of (sym (has_here s seats)))
      at k h (no other) = cleared.others k other ∙ m.inside k h ∙ ap mark_of (sym (has_skip k s seats other))

-- the mark of a slot stands in a word that is there
pub mark_inside : (marks : List ℕ) {size s : ℕ} → s < size → length marks ≡ (size + 63) / 64 → s / 64 < length marks
mark_inside marks inside long = omega arith

-- ── the lowest free slot ─────────────────────────────────────────────────────
pub taken_has : (es : List PageCacheEntry) (k : ℕ) (seats : List ℕ) → slot_taken k (row_of es seats) ≡ has k seats
unfolding slot_taken
taken_has es k [] = refl
taken_has es k (s ∷ seats) = ap (λ (b : Bool). eqb k s || b) (taken_has es k seats)

is_free : (b : Bool) → ◌≡◌ {A = ℕ} 1 (mark_of b) → b ≡ false
is_free true q = absurd (omega arith)
is_free false q = refl

is_held : (b : Bool) → ◌≡◌ {A = ℕ} 0 (mark_of b) → b ≡ true
is_held true q = refl
is_held false q = absurd (omega arith)

module _ (es : List PageCacheEntry) {marks : List ℕ} {size : ℕ} {seats : List ℕ} (m : Marked marks size seats) where
  -- there is one as long as fewer slots are held than there are
  pub some_free : size ≤ max_slots → length marks ≡ (size + 63) / 64 → length seats < size → SomeFree marks
  some_free most long room = record {
    slot = lowest_free (row_of es seats);
    free =
        m.inside (lowest_free (row_of es seats)) (omega (arith, lowest_bound (row_of es seats), length-map seats (λ s. seen s (get_or es s blank))))
        ∙ ap mark_of (sym (taken_has es (lowest_free (row_of es seats)) seats) ∙ lowest_free_lem (row_of es seats));
    long = omega arith;
  }

  module _ {s : ℕ} (lowest : LowestFree marks s) where
    pub lowest_inside : s < size
    lowest_inside = go (dec_lt s size)
      where
        go : Dec (s < size) → s < size
        go (yes h) = h
        go (no h) = absurd (clash (m.beyond s (omega arith)) lowest.free)

    pub lowest_out : Out s seats
    lowest_out = out_has s seats (is_free (has s seats) (sym lowest.free ∙ m.inside s lowest_inside))

    -- it is the model's
    pub lowest_is : s ≡ lowest_free (row_of es seats)
    lowest_is =
        let model : ℕ = lowest_free (row_of es seats) in
        let above : s < model → ⊥ = λ h. true≢false (sym (lowest_lower (row_of es seats) s h) ∙ taken_has es s seats ∙ has_out s seats lowest_out) in
        let below : model < s → ⊥ = λ h. true≢false
        (sym (is_held (has model seats) (sym (lowest.least model h) ∙ m.inside model (omega (arith, lowest_inside))))
        ∙ sym (taken_has es model seats) ∙ lowest_free_lem (row_of es seats)) in
        only (dec_lt s model) (dec_lt model s) above below
      where
        only : {a b : ℕ} → Dec (a < b) → Dec (b < a) → (a < b → ⊥) → (b < a → ⊥) → a ≡ b
        only (yes h) d above below = absurd (above h)
        only (no h) (yes g) above below = absurd (below g)
        only (no h) (no g) above below = omega arith
