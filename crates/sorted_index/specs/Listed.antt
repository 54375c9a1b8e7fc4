-- An index and the seats, the held slots, that it lists: the same slots, in whatever order the seats are given.
use Rattle.std.specs.Prelude.{◌≡◌, true, List, ◌∷◌, ◌++◌, ℕ, ◌≤◌, ◌<◌, length, get_or, take, set}
use Rattle.ring_links.specs.Ring.{has, Out, Apart}
use Rattle.sorted_index.specs.Index.{Index, Miss}

-- the used part of the order is the seats by ascending names, and its other places are zero
pub record Listed (col order seats : List ℕ) : Type 0 where
  pub index : Index col order (length seats)
  pub same : (k : ℕ) → has k (take (length seats) order) ≡ has k seats

-- ── a slot comes in ──────────────────────────────────────────────────────────
-- the column has the slot, and it is no seat yet
pub record Fresh (col seats : List ℕ) (s : ℕ) : Type 0 where
  pub inside : s < length col
  pub out : Out s seats

-- no seat has the name x
abbrev pub Absent : List ℕ → List ℕ → ℕ → Type 0
Absent col seats x = (k : ℕ) → has k seats ≡ true → get_or col k 0 ≡ x → ⊥

-- `at` is a place that x can go to: the gap of x, if the order lists n seats and none has that name
pub record GapFor (col order : List ℕ) (n x at : ℕ) : Type 0 where
  pub place : at ≤ n
  pub miss : (seats : List ℕ) → Listed col order seats → length seats ≡ n → Absent col seats x → Miss col order n x at

-- an index of n places that has room for one more
pub record HasRoom (col order : List ℕ) (n : ℕ) : Type 0 where
  pub index : Index col order n
  pub room : n < length order

-- if the order listed n seats, it now lists those seats and s, which has the name x from now on
abbrev pub Enlisted : List ℕ → List ℕ → ℕ → ℕ → ℕ → List ℕ → Type 0
Enlisted col order n x s order' =
    (seats : List ℕ) → Listed col order seats → length seats ≡ n → Fresh col seats s → Absent col seats x
    → Listed (set col s x) order' (s ∷ seats)

-- the same, for any column of names in which a search for x ends at the gap `at`
abbrev pub EnlistedAt : List ℕ → ℕ → ℕ → ℕ → List ℕ → Type 0
EnlistedAt order n at s order' =
    (col seats : List ℕ) (x : ℕ) → Listed col order seats → length seats ≡ n → Fresh col seats s → Miss col order n x at
    → Listed (set col s x) order' (s ∷ seats)

-- ── a slot goes out ──────────────────────────────────────────────────────────
-- if the order listed n seats, it now lists them without the one that has the name x
abbrev pub Unlisted : List ℕ → List ℕ → ℕ → ℕ → List ℕ → Type 0
Unlisted col order n x order' =
    (before : List ℕ) (s : ℕ) (after : List ℕ) → Listed col order (before ++ s ∷ after) → Apart (before ++ s ∷ after)
    → length (before ++ s ∷ after) ≡ n → get_or col s 0 ≡ x → Listed col order' (before ++ after)

-- the same, for any column of names, for the seat at place `at`
abbrev pub UnlistedAt : List ℕ → ℕ → ℕ → List ℕ → Type 0
UnlistedAt order n at order' =
    (col before : List ℕ) (s : ℕ) (after : List ℕ) → Listed col order (before ++ s ∷ after) → Apart (before ++ s ∷ after)
    → length (before ++ s ∷ after) ≡ n → get_or order at 0 ≡ s → Listed col order' (before ++ after)
