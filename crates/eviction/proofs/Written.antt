-- Handles put into the list one after another, each at the next place: what stands before them and behind them is as it was.
use mathlib.Core.Path.{◌≡◌, sym, ap, ◌∙◌}
use mathlib.Core.List.{List, [], ◌∷◌, ◌++◌, append_assoc, append-nil}
use Prim.Native.Nat.{ℕ, suc, ◌+◌, ◌≤◌, ◌<◌}
use native.Mathlib.Nat.{add-zero}
use native.Mathlib.Numerals.{add-one}
use native.Mathlib.Omega.{arith}
use lib.ListN.{length, get_or, set, take, drop, length-append, length-drop, take-append-drop}
use lib.Seq.{length-take-le, drop-cons, set_at}

-- these handles stand in the list from place `from` on, and every other place is as it was
pub record Written (list : List ℕ) (from : ℕ) (gone list' : List ℕ) (count : ℕ) : Type 0 where
  pub counted : count ≡ from + length gone
  pub handles : list' ≡ take from list ++ gone ++ drop count list

pub written_none : (list : List ℕ) (from : ℕ) → Written list from [] list from
written_none list from = record {
  counted = sym (add-zero from);
  handles = sym (ap {B = List ℕ} (λ l. l ++ drop from list) (append-nil (take from list)) ∙ take-append-drop from list);
}

module _ {list : List ℕ} {from : ℕ} {gone list' : List ℕ} {count : ℕ} (w : Written list from gone list' count) where
  front_long : count ≤ length list → length (take from list ++ gone) ≡ count
  front_long h = length-append (take from list) gone ∙ omega (arith, length-take-le from list (omega (arith, w.counted)), w.counted)

  pub written_long : count ≤ length list → length list' ≡ length list
  written_long h =
      ap length w.handles ∙ length-append (take from list ++ gone) (drop count list) ∙ omega (arith, front_long h, length-drop count list)

  -- one more
  pub written_more : (x : ℕ) → count < length list → Written list from (gone ++ x ∷ []) (set list' count x) (count + 1)
  written_more x h =
      let front : List ℕ = take from list ++ gone in
      let parts : list' ≡ front ++ get_or list count 0 ∷ drop (suc count) list =
      w.handles ∙ ap {B = List ℕ} (λ l. front ++ l) (drop-cons list count 0 h) in
      let stored : set list' count x ≡ front ++ x ∷ drop (suc count) list =
      ap {B = List ℕ} (λ l. set l count x) parts
      ∙ set_at front (get_or list count 0) (drop (suc count) list) x count (front_long (omega arith)) in
      record {
        counted = omega (arith, w.counted, length-append gone (x ∷ []));
        handles = rw (add-one, ← append_assoc (take from list) gone (x ∷ []), append_assoc front (x ∷ []) (drop (suc count) list)) stored;
      }
