-- How many pages of a row pass a test does not depend on the order of the row, so a walk over its keys counts them: sorting an entry
-- in adds as much to the count as putting it in front.
use mathlib.Core.Path.{◌≡◌, refl, ap, ◌∙◌}
use mathlib.Core.Bool.{Bool, true, false, cond}
use mathlib.Core.List.{[], ◌∷◌}
use Prim.Native.Nat.{ℕ, ◌+◌}
use native.Mathlib.Omega.{arith}
use lib.Dec.{ltb}
use lib.ListN.{length}
use Rattle.model.specs.Row.{Page, Entry, Row, sort_in, sorted_by_key, those}
use Rattle.memory.proofs.Walks.{those_one, those_past}

module _ (test : Page → Bool) where
  abbrev tally : Row → ℕ
  tally row = length (those test row)

  abbrev tally_of : Entry → ℕ
  tally_of e = cond (test e.page) 1 0

  tally_front : (e : Entry) (row : Row) → tally (e ∷ row) ≡ tally_of e + tally row
  tally_front e row = go (test e.page) refl
    where
      go : (b : Bool) → test e.page ≡ b → tally (e ∷ row) ≡ cond b 1 0 + tally row
      go true q = ap length (those_one test e row q) ∙ omega arith
      go false q = ap length (those_past test e row q) ∙ omega arith

  tally_sorted : (e : Entry) (row : Row) → tally (sort_in e row) ≡ tally_of e + tally row
  unfolding sort_in
  tally_sorted e [] = tally_front e []
  tally_sorted e (x ∷ row) = go (ltb e.page.key x.page.key) refl (tally_sorted e row)
    where
      go : (b : Bool) → ltb e.page.key x.page.key ≡ b → tally (sort_in e row) ≡ tally_of e + tally row
          → tally (sort_in e (x ∷ row)) ≡ tally_of e + tally (x ∷ row)
      go true q r = rw (q, sort_in) (tally_front e (x ∷ row))
      go false q r = rw (q, sort_in) (omega (arith, tally_front x (sort_in e row), tally_front x row))

  pub by_key_count : (row : Row) → tally (sorted_by_key row) ≡ tally row
  unfolding sorted_by_key
  by_key_count [] = refl
  by_key_count (e ∷ row) = omega (arith, tally_sorted e (sorted_by_key row), tally_front e row, by_key_count row)
