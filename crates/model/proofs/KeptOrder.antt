-- The walk over keys meets every entry of the row once, by ascending key: an entry is sorted in before the first that has a
-- higher key, and none is lost or made. No other row is ascending and has the same entries: its first has the lowest key.
use mathlib.Core.Bool.{Bool, true, false}
use mathlib.Core.List.{List, [], ◌∷◌}
use mathlib.Core.Path.{◌≡◌, refl, sym, ap, ◌∙◌}
use Prim.Native.Nat.{ℕ, suc, ◌≤◌, ◌<◌}
use native.Mathlib.Omega.{arith}
use lib.Dec.{ltb}
use lib.ListN.{length}
use borrow.Author.Tests.{ltb-true, ltb-false}
use Rattle.page.proofs.Each.{each_weaken, each_apply}
use Rattle.model.specs.Row.{Page, Entry, Row, Each, sort_in, sorted_by_key, those}
use Rattle.model.specs.Limits.{Apart}
use Rattle.model.proofs.Numbers.{OtherKey}
use Rattle.model.proofs.KeptCases.{either}

-- the entry e goes before x
abbrev before : Entry → Entry → Bool
before e x = ltb e.page.key x.page.key

-- ── the same entries ─────────────────────────────────────────────────────────
sort_length : (e : Entry) (row : Row) → length (sort_in e row) ≡ suc (length row)
unfolding sort_in
sort_length e [] = refl
sort_length e (x ∷ xs) = either (λ (r : Row). length r ≡ suc (suc (length xs))) (before e x)
    (λ _. refl) (λ _. ap suc (sort_length e xs))

pub by_key_length : (row : Row) → length (sorted_by_key row) ≡ length row
unfolding sorted_by_key
by_key_length [] = refl
by_key_length (e ∷ es) = sort_length e (sorted_by_key es) ∙ ap suc (by_key_length es)

module _ (P : Entry → Type 0) where
  sort_each : (e : Entry) (row : Row) → P e → Each P row → Each P (sort_in e row)
  unfolding sort_in
  sort_each e [] h t = (h, tt)
  sort_each e (x ∷ xs) h t = either (Each P) (before e x) (λ _. (h, t)) (λ _. (t.0, sort_each e xs h t.1))

  each_sort : (e : Entry) (row : Row) → Each P (sort_in e row) → P e × Each P row
  unfolding sort_in
  each_sort e [] t = t
  each_sort e (x ∷ xs) t = either (λ (r : Row). Each P r → P e × Each P (x ∷ xs)) (before e x)
      (λ _ u. u) (λ _ u. let both = each_sort e xs u.1 in (both.0, (u.0, both.1))) t

  -- what holds of each entry of the row holds of each entry of the walk, and the other way round
  pub by_key_each : (row : Row) → Each P row → Each P (sorted_by_key row)
  unfolding sorted_by_key
  by_key_each [] t = tt
  by_key_each (e ∷ es) t = sort_each e (sorted_by_key es) t.0 (by_key_each es t.1)

  pub each_by_key : (row : Row) → Each P (sorted_by_key row) → Each P row
  unfolding sorted_by_key
  each_by_key [] t = tt
  each_by_key (e ∷ es) t = let both = each_sort e (sorted_by_key es) t in (both.0, each_by_key es both.1)

-- ── ascending ────────────────────────────────────────────────────────────────
-- the entry's key is above the key
abbrev pub Above : ℕ → Entry → Type 0
Above key e = key < e.page.key

abbrev pub Ascending : Row → Type 0
Ascending [] = Unit {0}
Ascending (e ∷ es) = Each (Above e.page.key) es × Ascending es

sort_ascending : (e : Entry) (row : Row) → Each (OtherKey e.page.key) row → Ascending row → Ascending (sort_in e row)
unfolding sort_in
sort_ascending e [] o a = (tt, tt)
sort_ascending e (x ∷ xs) o a = either Ascending (before e x) (λ h. (first h, a)) (λ h. (later h, sort_ascending e xs o.1 a.1))
  where
    first : before e x ≡ true → Each (Above e.page.key) (x ∷ xs)
    first h =
        let below = ltb-true e.page.key x.page.key h in
        (below, each_weaken (Above x.page.key) (Above e.page.key) (λ y l. omega arith) xs a.0)

    later : before e x ≡ false → Each (Above x.page.key) (sort_in e xs)
    later h =
        let above = ltb-false e.page.key x.page.key h in
        sort_each (Above x.page.key) e xs (omega (arith, o.0)) a.0

pub by_key_ascending : (row : Row) → Apart (λ p. p.key) row → Ascending (sorted_by_key row)
unfolding sorted_by_key
by_key_ascending [] a = tt
by_key_ascending (e ∷ es) a =
    sort_ascending e (sorted_by_key es) (by_key_each (OtherKey e.page.key) es a.0) (by_key_ascending es a.1)

-- ── the only such walk ───────────────────────────────────────────────────────
-- the two rows have the same entries
pub record Same (xs ys : Row) : Type 1 where
  pub there : (P : Entry → Type 0) → Each P xs → Each P ys
  pub back : (P : Entry → Type 0) → Each P ys → Each P xs

-- the first has the lowest key
first_lowest : (x : Entry) (xs : Row) → Ascending (x ∷ xs) → Each (λ z. x.page.key ≤ z.page.key) (x ∷ xs)
first_lowest x xs a = (omega arith, each_weaken (Above x.page.key) (λ z. x.page.key ≤ z.page.key) (λ z l. omega arith) xs a.0)

-- and no other has it
first_alone : (x : Entry) (xs : Row) → Ascending (x ∷ xs) → Each (λ z. x.page.key ≡ z.page.key → x ≡ z) (x ∷ xs)
first_alone x xs a =
    (λ _. refl, each_weaken (Above x.page.key) (λ z. x.page.key ≡ z.page.key → x ≡ z) (λ z l q. absurd (omega arith)) xs a.0)

-- so the others are the same where the first are
others_there : (x : Entry) (xs : Row) (y : Entry) (ys : Row) → Ascending (y ∷ ys) → x.page.key ≡ y.page.key
    → ((P : Entry → Type 0) → Each P (x ∷ xs) → Each P (y ∷ ys)) → (P : Entry → Type 0) → Each P xs → Each P ys
others_there x xs y ys a q there P t =
    let key : ℕ = x.page.key in
    let above : Each (Above key) ys = each_weaken (Above y.page.key) (Above key) (λ z l. omega arith) ys a.0 in
    let above_so = there (λ z. Above key z → P z) (λ l. absurd (omega arith), each_weaken P (λ z. Above key z → P z) (λ z p _. p) xs t) in
    each_apply P (Above key) ys above_so.1 above

pub ascending_once : (xs ys : Row) → Ascending xs → Ascending ys → Same xs ys → xs ≡ ys
ascending_once [] [] a b s = refl
ascending_once [] (y ∷ ys) a b s = absurd (s.there (λ _. ⊥) tt).0
ascending_once (x ∷ xs) [] a b s = absurd (s.back (λ _. ⊥) tt).0
ascending_once (x ∷ xs) (y ∷ ys) a b s =
    let low = (s.there (λ z. x.page.key ≤ z.page.key) (first_lowest x xs a)).0 in
    let high = (s.back (λ z. y.page.key ≤ z.page.key) (first_lowest y ys b)).0 in
    let key : x.page.key ≡ y.page.key = omega arith in
    let first : x ≡ y = (s.there (λ z. x.page.key ≡ z.page.key → x ≡ z) (first_alone x xs a)).0 key in
    let rest : xs ≡ ys = ascending_once xs ys a.1 b.1
    (record { there = others_there x xs y ys b key s.there; back = others_there y ys x xs a (sym key) s.back }) in
    λ i. first i ∷ rest i

-- an ascending row with the entries of the row is the walk over its keys
pub by_key_once : (row sorted : Row) → Apart (λ p. p.key) row → Ascending sorted → Same row sorted → sorted_by_key row ≡ sorted
by_key_once row sorted a b s = ascending_once (sorted_by_key row) sorted (by_key_ascending row a) b
    (record { there = λ P t. s.there P (each_by_key P row t); back = λ P t. by_key_each P row (s.back P t) })

-- ── some of them ─────────────────────────────────────────────────────────────
those_length : (test : Page → Bool) (row : Row) → length (those test row) ≤ length row
unfolding those
those_length test [] = omega arith
those_length test (e ∷ es) = either (λ (ps : List Page). length ps ≤ suc (length es)) (test e.page)
    (λ _. omega (arith, those_length test es)) (λ _. omega (arith, those_length test es))

-- of a walk, no more than there are entries
pub walk_length : (test : Page → Bool) (row : Row) → length (those test (sorted_by_key row)) ≤ length row
walk_length test row = omega (arith, those_length test (sorted_by_key row), by_key_length row)
