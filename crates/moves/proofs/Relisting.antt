-- A seat of an index under another name. It goes out of its place under the old name and comes in at the gap of the new one,
-- and what is listed is the same seats.
use mathlib.Core.Path.{◌≡◌, sym, ap, ◌∙◌, subst}
use mathlib.Core.List.{List, ◌∷◌, ◌++◌}
use Prim.Native.Nat.{ℕ, ◌-◌, ◌≤◌, ◌<◌}
use native.Mathlib.Omega.{arith}
use lib.ListN.{length, set, length-append}
use lib.Seq.{set-get_or}
use Rattle.sorted_index.specs.Listed.{Listed, Fresh, HasRoom, Enlisted, Unlisted}
use Rattle.sorted_index.proofs.Ascending.{ascending}
use Rattle.sorted_index.proofs.Membership.{apart_mid, mid_has}
use Rattle.sorted_index.proofs.Listed.{listed_index, listed_mid, seat_place}
use Rattle.moves.specs.Relist.{Relistable}

module _ {col order : List ℕ} {n s old new : ℕ} {before after : List ℕ} (t : Relistable col order n s old new before after) where
  -- the name that it has
  pub relisted_same : old ≡ new → Listed (set col s new) order (before ++ s ∷ after)
  relisted_same same =
      let kept : set col s new ≡ col = ap (set col s) (sym same ∙ sym t.named) ∙ set-get_or col s 0 in
      rw kept t.listed

  pub relist_some : 1 ≤ n
  relist_some = omega (arith, t.long, length-append before (s ∷ after))

  fewer : length (before ++ after) ≡ n - 1
  fewer = omega (arith, t.long, length-append before (s ∷ after), length-append before after)

  slot_named : s < length col
  slot_named =
      let p = seat_place t.listed t.long s (mid_has before s after) in
      subst (λ (j : ℕ). j < length col) p.there ((ascending (listed_index t.listed t.long)).inside p.at p.within)

  module _ {order' : List ℕ} (unlisted : Unlisted col order n old order') where
    listed_without : Listed col order' (before ++ after)
    listed_without = unlisted before s after t.listed t.apart t.long t.named

    pub relist_room : length order' ≡ length order → HasRoom col order' (n - 1)
    relist_room long = record {
      index = listed_index listed_without fewer;
      room = omega (arith, (listed_index t.listed t.long).fits, relist_some);
    }

    pub relisted_anew : {order'' : List ℕ} → Enlisted col order' (n - 1) new s order'' → Listed (set col s new) order'' (before ++ s ∷ after)
    relisted_anew enlisted =
        let fresh : Fresh col (before ++ after) s = record { inside = slot_named; out = apart_mid s before after t.apart } in
        listed_mid before s after (enlisted (before ++ after) listed_without fewer fresh t.free)
