-- A ring of slots in two columns of links, and the row of its slots in the order of a sweep (01, "held slots form one
-- ring whose next and previous links are inverse").
use Rattle.std.specs.Prelude.{◌≡◌, Bool, false, ◌||◌, List, [], ◌∷◌, ◌≢◌, ℕ, ◌<◌, eqb, length, get_or}
use Rattle.page.specs.All.{All}

-- ── rows ─────────────────────────────────────────────────────────────────────
-- the slot k is one of the row's
abbrev pub has : ℕ → List ℕ → Bool
has k [] = false
has k (a ∷ row) = eqb k a || has k row

-- the slot k is none of the row's
abbrev pub Out : ℕ → List ℕ → Type 0
Out k row = All (λ a. k ≢ a) row

-- no slot stands twice in the row
abbrev pub Apart : List ℕ → Type 0
Apart [] = Unit
Apart (a ∷ row) = Out a row × Apart row

-- each slot of the row is below the size
abbrev pub Below : ℕ → List ℕ → Type 0
Below size row = All (λ a. a < size) row

-- the slot at which the row begins, or 0
abbrev pub first_of : List ℕ → ℕ
first_of [] = 0
first_of (a ∷ row) = a

-- ── links ────────────────────────────────────────────────────────────────────
-- b comes after a, in both columns
abbrev pub Link : List ℕ → List ℕ → ℕ → ℕ → Type 0
Link next prev a b = (get_or next a 0 ≡ b) × (get_or prev b 0 ≡ a)

-- the links go from a through the slots of the row to z
abbrev pub Way : List ℕ → List ℕ → ℕ → List ℕ → ℕ → Type 0
Way next prev a [] z = Link next prev a z
Way next prev a (b ∷ row) z = Link next prev a b × Way next prev b row z

-- the links go through the row and back to where it begins
abbrev pub Round : List ℕ → List ℕ → List ℕ → Type 0
Round next prev [] = Unit
Round next prev (a ∷ row) = Way next prev a row a

-- the links are those of the ring whose row this is, and there are no others
pub record Ring (next prev row : List ℕ) : Type 0 where
  pub same : length prev ≡ length next
  pub apart : Apart row
  pub inside : Below (length next) row
  pub round : Round next prev row
  pub free_next : (k : ℕ) → Out k row → get_or next k 0 ≡ 0
  pub free_prev : (k : ℕ) → Out k row → get_or prev k 0 ≡ 0
