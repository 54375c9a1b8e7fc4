-- The looks as far as the victim, by induction on its use count: a round for each use, in which every entry that may go loses
-- one, and then the way to the victim.
use mathlib.Core.Bool.{Bool, true}
use mathlib.Core.List.{[], ◌∷◌, ◌++◌, map, append_assoc, append-nil}
use mathlib.Core.Option.{none, some}
use mathlib.Core.Path.{◌≡◌, refl, ap}
use Prim.Native.Nat.{ℕ, zero, suc, ◌+◌, ◌*◌, ◌-◌}
use native.Mathlib.Nat.{suc-add, zero-add, add-zero, zero-mul}
use native.Mathlib.Omega.{arith}
use lib.ListN.{length, length-append, length-map}
use Rattle.page.proofs.Each.{each_append}
use Rattle.model.specs.Row.{Page, Entry, Row, Each}
use Rattle.model.specs.Sweep.{pass, lower, looks}
use Rattle.model.specs.Demand.{Stays}
use Rattle.model.proofs.Lowering.{AtLeast, fewer, all_stay_any, one_less, lower_none, lower_again, lower_stays}
use Rattle.model.proofs.Looks.{pass_none, pass_pass, goes_now_lem, stays_now, looks_goes, looks_stays}

map_append : (f : Entry → Entry) (xs ys : Row) → map f (xs ++ ys) ≡ map f xs ++ map f ys
map_append f [] ys = refl
map_append f (x ∷ xs) ys = ap {B = Row} (λ r. f x ∷ r) (map_append f xs ys)

module _ (may : Page → Bool) where
  lower_victim : (p : Page) (r : ℕ) → may p ≡ true → lower may 1 (record { page = p; uses = suc r }) ≡ record { page = p; uses = r }
  unfolding lower
  lower_victim p r g = let q : suc r - 1 ≡ r = omega arith in rw (g, q)

  -- looks at entries of which none goes yet: each loses a use if it may go, and they come to stand behind the rest
  around : (k : ℕ) (xs ys : Row) → Each (AtLeast may 1) xs
      → looks may (length xs + k) (xs ++ ys) ≡ pass (length xs) (looks may k (ys ++ map (lower may 1) xs))
  around k [] ys w = rw (zero-add, pass_none, append-nil)
  around k (x ∷ xs) ys w =
      let q : 1 + length xs ≡ suc (length xs) = omega arith in
      rw (
        suc-add,
        looks_stays may (length xs + k) x (xs ++ ys) (stays_now may x w.0),
        append_assoc xs ys,
        around k xs (ys ++ lower may 1 x ∷ []) w.1,
        pass_pass,
        append_assoc,
        q,
      )

  -- such a row, once round
  round : (k : ℕ) (row : Row) → Each (AtLeast may 1) row
      → looks may (length row + k) row ≡ pass (length row) (looks may k (map (lower may 1) row))
  round k row w = rw append-nil at (around k row [] w)

  -- a round where none may go changes nothing
  idle_round : (k : ℕ) (row : Row) → Each (Stays may) row → looks may (length row + k) row ≡ pass (length row) (looks may k row)
  idle_round k row t = rw (round k row (all_stay_any may 1 row t), lower_stays may row t)

  pub idle_rounds : (m : ℕ) (row : Row) → Each (Stays may) row
      → looks may (m * length row) row ≡ record { victim = none; passed = m * length row; row = row }
  unfolding looks pass
  idle_rounds zero row t = rw zero-mul
  idle_rounds (suc m) row t =
      let n : ℕ = length row in
      let fuel : suc m * n ≡ n + m * n = omega arith in
      rw (fuel, idle_round (m * n) row t, idle_rounds m row t)

  -- n entries, the victim p with r uses at distance d from the hand, and enough looks
  pub victim_found : (n d k : ℕ) (before : Row) (p : Page) (r : ℕ) (after : Row) → may p ≡ true
      → Each (AtLeast may (suc r)) before → Each (AtLeast may r) after → d ≡ length before → n ≡ d + suc (length after)
      → looks may (r * n + (d + suc k)) (before ++ record { page = p; uses = r } ∷ after)
      ≡ record { victim = some p; passed = r * n + d; row = map (lower may r) after ++ map (lower may (suc r)) before }
  unfolding pass
  victim_found n d k before p zero after goes first lowest d_is n_is =
      let v : Entry = record { page = p; uses = 0 } in
      rw (
        zero-mul,
        zero-add (d + suc k),
        d_is,
        around (suc k) before (v ∷ after) first,
        looks_goes may k v (after ++ map (lower may 1) before) (goes_now_lem may p goes),
        add-zero,
        zero-add,
        lower_none may,
      )
  victim_found n d k before p (suc r) after goes first lowest d_is n_is =
      let v : Entry = record { page = p; uses = suc r } in
      let row : Row = before ++ v ∷ after in
      let left : ℕ = r * n + (d + suc k) in
      let size : length row ≡ n = omega (arith, length-append before (v ∷ after)) in
      let fuel : suc r * n + (d + suc k) ≡ length row + left = omega arith in
      let passed : length row + (r * n + d) ≡ suc r * n + d = omega arith in
      let before_stay : Each (AtLeast may 1) before = fewer may 1 (suc (suc r)) (omega arith) before first in
      let after_stay : Each (AtLeast may 1) after = fewer may 1 (suc r) (omega arith) after lowest in
      let row_stays : Each (AtLeast may 1) row = each_append (AtLeast may 1) before (v ∷ after) before_stay (λ _. omega arith, after_stay) in
      let before' : Row = map (lower may 1) before in
      let after' : Row = map (lower may 1) after in
      let first' : Each (AtLeast may (suc r)) before' = one_less may (suc r) before first in
      let lowest' : Each (AtLeast may r) after' = one_less may r after lowest in
      let rest = victim_found n d k before' p r after' goes first' lowest' (rw length-map d_is) (rw length-map n_is) in
      rw (
        fuel,
        round left row row_stays,
        map_append (lower may 1) before (v ∷ after),
        lower_victim p r goes,
        rest,
        lower_again may r after,
        lower_again may (suc r) before,
        passed,
      )
