-- The head of a cache as five numbers of 64 bits, and an answer as six.
use Rattle.std.specs.Prelude.{Bool, cond, not, ◌&&◌, ◌||◌, List, [], ◌∷◌, ℕ, ◌^◌, eqb, ltb, length, get_or}
use Rattle.page.specs.declared.cache.PageCache.{PageCache}
use Rattle.page.specs.declared.entry.PageCacheEntry.{PageCacheEntry}
use Rattle.pool.specs.Slots.{blank}
use Rattle.model.specs.Row.{Row}
use Rattle.answer.specs.Answer.{code_of, value_of}
use Rattle.answer.specs.declared.answered.Answered.{Answered}

-- ── the head ─────────────────────────────────────────────────────────────────
-- capacity, held, hand, spill switch, estimate
abbrev pub numbers_of : PageCache → List ℕ
numbers_of h = h.capacity ∷ h.held ∷ h.hand.0 ∷ h.spill ∷ h.estimate ∷ []

-- each number is within the range of its field
abbrev pub fits : List ℕ → Bool
fits l = ltb (get_or l 0 0) (2 ^ 32) && ltb (get_or l 1 0) (2 ^ 32) && ltb (get_or l 2 0) (2 ^ 32) && ltb (get_or l 3 0) (2 ^ 8) && ltb (get_or l 4 0) (2 ^ 32)

-- the head that numbers out of range are read as: no memory is sound with it, since its switch is neither 0 nor 1
abbrev pub no_head : PageCache
no_head = record { capacity = 0; held = 0; hand = record { 0 = 0 }; spill = 2; estimate = 0 }

-- the numbers, each in its field
abbrev pub fields_of : List ℕ → PageCache
fields_of l = record {
  capacity = get_or l 0 0;
  held = get_or l 1 0;
  hand = record { 0 = get_or l 2 0 };
  spill = get_or l 3 0;
  estimate = get_or l 4 0;
}

abbrev pub head_of : List ℕ → PageCache
head_of l = cond (fits l) (fields_of l) no_head

-- the numbers after a call: those of the head that it hands back; numbers that are no head stay as they are, unless a creation was made
abbrev pub head_after : List ℕ → Answered → List ℕ
head_after l r = cond (fits l || eqb (code_of r.answer) 0) (numbers_of r.head) l

-- ── the answer ───────────────────────────────────────────────────────────────
-- no key: one above the largest
abbrev pub none : ℕ
none = 2 ^ 32

-- the key of the hand's page, or none if nothing is held
abbrev pub hand_key : List PageCacheEntry → PageCache → ℕ
hand_key es head = cond (eqb head.held 0 || not (ltb head.hand.0 (length es))) none (get_or es head.hand.0 blank).key.0

-- code, value, passed, held, the hand's key or none, listed; the entries are those after the call
abbrev pub answer_of : List PageCacheEntry → Answered → List ℕ
answer_of es r =
    code_of r.answer ∷ value_of r.answer ∷ r.passed ∷ r.head.held ∷ hand_key es r.head ∷ r.listed ∷ []

-- the key of the first page in sweep order, which is the hand's, or none
abbrev pub first_key : Row → ℕ
first_key [] = none
first_key (e ∷ row) = e.page.key
