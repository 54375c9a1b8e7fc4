-- A page that leaves the row leaves the walk over its keys, and the rest of the walk stays as it is: without the page the walk
-- still ascends and has the others, and there is only one such walk.
use mathlib.Core.Path.{◌≡◌, refl, sym, ap, ◌∙◌, subst}
use mathlib.Core.List.{[], ◌∷◌, ◌++◌}
use mathlib.Core.Option.{some}
use Prim.Native.Nat.{ℕ, suc}
use native.Mathlib.Omega.{arith}
use lib.ListN.{length, length-append}
use Rattle.page.proofs.Each.{each_place, each_middle, each_remove, each_weaken, each_apply}
use Rattle.model.specs.Limits.{Apart}
use Rattle.model.specs.Row.{Entry, Row, Each, find, without, sorted_by_key}
use Rattle.model.proofs.ByKey.{Stands, find_stands, stands_without}
use Rattle.model.proofs.KeptOrder.{Above, Ascending, by_key_each, each_by_key, by_key_ascending, by_key_once}
use Rattle.model.proofs.Numbers.{OtherKey, apart_others, apart_remove}

-- ── an ascending row ─────────────────────────────────────────────────────────
ascending_remove : (xs : Row) (e : Entry) (ys : Row) → Ascending (xs ++ e ∷ ys) → Ascending (xs ++ ys)
ascending_remove [] e ys a = a.1
ascending_remove (x ∷ xs) e ys a = (each_remove (Above x.page.key) xs e ys a.0, ascending_remove xs e ys a.1)

ascending_others : (xs : Row) (e : Entry) (ys : Row) → Ascending (xs ++ e ∷ ys) → Each (OtherKey e.page.key) (xs ++ ys)
ascending_others [] e ys a = each_weaken (Above e.page.key) (OtherKey e.page.key) (λ z above q. omega arith) ys a.0
ascending_others (x ∷ xs) e ys a =
    let below = each_middle (Above x.page.key) xs e ys a.0 in
    (λ q. omega arith, ascending_others xs e ys a.1)

-- ── the others of a row ──────────────────────────────────────────────────────
-- what is so of each entry but e stays so where the entries stand otherwise
others_there : (xs : Row) (e : Entry) (ys xs' ys' : Row) → ((P : Entry → Type 0) → Each P (xs ++ e ∷ ys) → Each P (xs' ++ e ∷ ys'))
    → Each (OtherKey e.page.key) (xs' ++ ys') → (P : Entry → Type 0) → Each P (xs ++ ys) → Each P (xs' ++ ys')
others_there xs e ys xs' ys' there others P t =
    let key : ℕ = e.page.key in
    let so : Each (λ z. OtherKey key z → P z) (xs ++ e ∷ ys) =
    each_place (λ z. OtherKey key z → P z) xs e ys (λ other. absurd (other refl)) (each_weaken P (λ z. OtherKey key z → P z) (λ z p _. p) (xs ++ ys) t) in
    each_apply P (OtherKey key) (xs' ++ ys') (each_remove (λ z. OtherKey key z → P z) xs' e ys' (there (λ z. OtherKey key z → P z) so)) others

-- ── the walk ─────────────────────────────────────────────────────────────────
module _ (row : Row) (apart : Apart (λ p. p.key) row) {e : Entry} (found : find e.page.key row ≡ some e) where
  abbrev at : Stands e.page.key row e
  at = find_stands e.page.key row e found

  apart_at : Apart (λ p. p.key) (at.before ++ e ∷ at.after)
  apart_at = subst (Apart (λ p. p.key)) at.parts apart

  -- a page less
  pub without_length : suc (length (without e.page.key row)) ≡ length row
  without_length =
      let left = ap length (stands_without e.page.key row e at) in
      let whole = ap length at.parts in
      omega (arith, length-append at.before at.after, length-append at.before (e ∷ at.after))

  pub walk_without : (before after : Row) → sorted_by_key row ≡ before ++ e ∷ after → sorted_by_key (without e.page.key row) ≡ before ++ after
  walk_without before after walk =
      let ascends : Ascending (before ++ e ∷ after) = subst Ascending walk (by_key_ascending row apart) in
      let forth : (P : Entry → Type 0) → Each P (at.before ++ e ∷ at.after) → Each P (before ++ e ∷ after) =
      λ P t. subst (Each P) walk (by_key_each P row (subst (Each P) (sym at.parts) t)) in
      let back : (P : Entry → Type 0) → Each P (before ++ e ∷ after) → Each P (at.before ++ e ∷ at.after) =
      λ P t. subst (Each P) at.parts (each_by_key P row (subst (Each P) (sym walk) t)) in
      ap sorted_by_key (stands_without e.page.key row e at)
      ∙ by_key_once (at.before ++ at.after) (before ++ after) (apart_remove (λ p. p.key) at.before e at.after apart_at)
      (ascending_remove before e after ascends)
      (record {
        there = others_there at.before e at.after before after forth (ascending_others before e after ascends);
        back = others_there before e after at.before at.after back (apart_others (λ p. p.key) at.before e at.after apart_at);
      })
