-- Rows whose entries have different numbers, be it slot, key or handle: every law is stated once, over any number of a page.
-- An entry that differs from all others may stand at any place of the row, and the rest follows.
use mathlib.Core.List.{[], ◌∷◌, ◌++◌, append-nil}
use mathlib.Core.Logic.{◌≢◌}
use mathlib.Core.Path.{◌≡◌, sym, subst}
use Prim.Native.Nat.{ℕ}
use Rattle.page.proofs.Each.{each_middle, each_remove, each_place, each_turn}
use Rattle.model.specs.Row.{Page, Entry, Row, Each}
use Rattle.model.specs.Cache.{enter_row}
use Rattle.model.specs.Limits.{Apart}

-- ── a page enters the row ────────────────────────────────────────────────────
pub each_enter : (P : Entry → Type 0) (p : Page) (row : Row) → P (record { page = p; uses = 0 }) → Each P row → Each P (enter_row p row)
unfolding enter_row
each_enter P p [] h t = (h, tt)
each_enter P p (e ∷ es) h t = (t.0, (h, t.1))

-- ── different numbers ────────────────────────────────────────────────────────
module _ (number : Page → ℕ) where
  -- the entry has another number than n
  abbrev pub Other : ℕ → Entry → Type 0
  Other n e = n ≢ number e.page

  abbrev number_of : Entry → ℕ
  number_of e = number e.page

  -- an entry more, at any place
  pub apart_place : (xs : Row) (y : Entry) (ys : Row) → Each (Other (number y.page)) (xs ++ ys) → Apart number (xs ++ ys)
      → Apart number (xs ++ y ∷ ys)
  apart_place [] y ys o a = (o, a)
  apart_place (x ∷ xs) y ys o a =
      (each_place (Other (number_of x)) xs y ys (λ q. o.0 (sym q)) a.0, apart_place xs y ys o.1 a.1)

  -- one entry differs from all the others, and those from one another
  pub apart_others : (xs : Row) (y : Entry) (ys : Row) → Apart number (xs ++ y ∷ ys) → Each (Other (number y.page)) (xs ++ ys)
  apart_others [] y ys a = a.0
  apart_others (x ∷ xs) y ys a = (λ q. each_middle (Other (number_of x)) xs y ys a.0 (sym q), apart_others xs y ys a.1)

  pub apart_remove : (xs : Row) (y : Entry) (ys : Row) → Apart number (xs ++ y ∷ ys) → Apart number (xs ++ ys)
  apart_remove [] y ys a = a.1
  apart_remove (x ∷ xs) y ys a = (each_remove (Other (number_of x)) xs y ys a.0, apart_remove xs y ys a.1)

  -- the hand moves
  pub apart_turn : (xs ys : Row) → Apart number (xs ++ ys) → Apart number (ys ++ xs)
  apart_turn [] ys a = rw append-nil a
  apart_turn (x ∷ xs) ys a = apart_place ys x xs (each_turn (Other (number_of x)) xs ys a.0) (apart_turn xs ys a.1)

  -- another entry with the number that stood there
  pub apart_same : (xs : Row) (y z : Entry) (ys : Row) → number y.page ≡ number z.page → Apart number (xs ++ y ∷ ys)
      → Apart number (xs ++ z ∷ ys)
  apart_same xs y z ys q a =
      apart_place xs z ys (subst (λ (n : ℕ). Each (Other n) (xs ++ ys)) q (apart_others xs y ys a)) (apart_remove xs y ys a)

  -- a page enters
  pub apart_enter : (p : Page) (row : Row) → Each (Other (number p)) row → Apart number row → Apart number (enter_row p row)
  unfolding enter_row
  apart_enter p [] o a = (tt, tt)
  apart_enter p (e ∷ es) o a = apart_place (e ∷ []) (record { page = p; uses = 0 }) es o a

-- ── the three numbers ────────────────────────────────────────────────────────
abbrev pub OtherSlot : ℕ → Entry → Type 0
OtherSlot = Other (λ p. p.slot)

abbrev pub OtherKey : ℕ → Entry → Type 0
OtherKey = Other (λ p. p.key)

abbrev pub OtherHandle : ℕ → Entry → Type 0
OtherHandle = Other (λ p. p.handle)
