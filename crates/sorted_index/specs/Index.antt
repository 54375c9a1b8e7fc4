-- A sorted index over a column of names, where slot s has the name `get_or col s 0` (01, "Memory, pages and numbers": the
-- index lists held slots by ascending key; unused places are zero).
use Rattle.std.specs.Prelude.{◌≡◌, List, [], ◌∷◌, ◌++◌, ℕ, suc, ◌+◌, ◌-◌, ◌≤◌, ◌<◌, length, get_or, take, drop, Result, Ok, Err}
use Rattle.page.specs.All.{All}

-- each slot of the list has a name, and the names ascend strictly
abbrev pub Asc : List ℕ → List ℕ → Type 0
Asc col [] = Unit
Asc col (s ∷ l) = (s < length col) × All (λ t. get_or col s 0 < get_or col t 0) l × Asc col l

-- the first n places of the order are an index, and its other places are zero
pub record Index (col order : List ℕ) (n : ℕ) : Type 0 where
  pub fits : n ≤ length order
  pub asc : Asc col (take n order)
  pub clear : All (λ x. x ≡ 0) (drop n order)

-- the name of the slot that stands at place k
abbrev pub name_at : List ℕ → List ℕ → ℕ → ℕ
name_at col order k = get_or col (get_or order k 0) 0

-- ── a search ─────────────────────────────────────────────────────────────────
-- x is the name at place `at`
pub record Hit (col order : List ℕ) (n x at : ℕ) : Type 0 where
  pub within : at < n
  pub same : name_at col order at ≡ x

-- the names before place `at` are below x, and those from there on above it
pub record Miss (col order : List ℕ) (n x at : ℕ) : Type 0 where
  pub within : at ≤ n
  pub below : (k : ℕ) → k < at → name_at col order k < x
  pub above : (k : ℕ) → at ≤ k → k < n → x < name_at col order k

-- the answer is the place of x, or where it would go
abbrev pub FoundSpot : List ℕ → List ℕ → ℕ → ℕ → Result ℕ ℕ → Type 0
FoundSpot col order n x (Ok at) = Hit col order n x at
FoundSpot col order n x (Err at) = Miss col order n x at

-- ── an insertion and a removal ───────────────────────────────────────────────
-- the list with s put in before place `at`
abbrev pub insert_at : List ℕ → ℕ → ℕ → List ℕ
insert_at l at s = take at l ++ s ∷ drop at l

-- the list without what stands at place `at`
abbrev pub remove_at : List ℕ → ℕ → List ℕ
remove_at l at = take at l ++ drop (suc at) l

-- there is a place to spare, and `at` is one of the first n places or the next
pub record CanInsert (order : List ℕ) (n at : ℕ) : Type 0 where
  pub place : at ≤ n
  pub room : n < length order

-- s stands at place `at`, and what stood from there up to n, one place further up; nothing else is changed
pub record Inserted (order : List ℕ) (n at s : ℕ) (order' : List ℕ) : Type 0 where
  pub used : take (n + 1) order' ≡ insert_at (take n order) at s
  pub rest : drop (n + 1) order' ≡ drop (n + 1) order

-- `at` is one of the first n places
pub record CanRemove (order : List ℕ) (n at : ℕ) : Type 0 where
  pub place : at < n
  pub fits : n ≤ length order

-- what stood after place `at`, up to n, stands one place further down; the last of the n places is zero; nothing else is
-- changed
pub record Removed (order : List ℕ) (n at : ℕ) (order' : List ℕ) : Type 0 where
  pub used : take (n - 1) order' ≡ remove_at (take n order) at
  pub rest : drop (n - 1) order' ≡ 0 ∷ drop n order
