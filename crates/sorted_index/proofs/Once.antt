-- An index is determined by what it lists: the first of an ascending list is its member with the least name, and so on; and
-- beyond the used part all is zero.
use mathlib.Core.Path.{◌≡◌, refl, sym, ap, ◌∙◌}
use mathlib.Core.Bool.{true≢false}
use mathlib.Core.List.{List, [], ◌∷◌, ◌++◌}
use Prim.Native.Nat.{ℕ, ◌-◌, ◌<◌}
use native.Mathlib.Omega.{arith}
use native.Mathlib.Decide.{ℕ_discrete}
use lib.ListN.{length, take, drop, length-drop, take-append-drop}
use Rattle.page.specs.All.{All}
use Rattle.ring_links.specs.Ring.{has}
use Rattle.sorted_index.specs.Index.{Asc}
use Rattle.sorted_index.specs.Listed.{Listed}
use Rattle.sorted_index.proofs.Membership.{has_here, has_skip, has_out}
use Rattle.sorted_index.proofs.Ascending.{has_above, out_above}

module _ (col : List ℕ) where
  pub asc_once : (l l' : List ℕ) → Asc col l → Asc col l' → ((k : ℕ) → has k l ≡ has k l') → l ≡ l'
  asc_once [] [] a b same = refl
  asc_once [] (t ∷ l') a b same = absurd (true≢false (sym (same t ∙ has_here t l')))
  asc_once (s ∷ l) [] a b same = absurd (true≢false (sym (has_here s l) ∙ same s))
  asc_once (s ∷ l) (t ∷ l') a b same =
      let heads : s ≡ t = first (ℕ_discrete s t) in
      let tails : l ≡ l' = asc_once l l' a.2 b.2 (λ k. rest heads k (ℕ_discrete k s)) in
      λ i. heads i ∷ tails i
    where
      clash : {m n : ℕ} → m < n → n < m → ⊥
      clash g h = omega arith

      first : Dec (s ≡ t) → s ≡ t
      first (yes e) = e
      first (no ne) = absurd (clash
          (has_above col _ t l a.1 (sym (has_skip t s l (λ e. ne (sym e))) ∙ same t ∙ has_here t l'))
          (has_above col _ s l' b.1 (sym (has_skip s t l' ne) ∙ sym (same s) ∙ has_here s l)))

      rest : s ≡ t → (k : ℕ) → Dec (k ≡ s) → has k l ≡ has k l'
      rest q k (yes e) =
          rw e
          (has_out s l (out_above col s l a.1)
          ∙ sym (ap (λ (z : ℕ). has z l') q ∙ has_out t l' (out_above col t l' b.1)))
      rest q k (no ne) = sym (has_skip k s l ne) ∙ same k ∙ has_skip k t l' (λ e. ne (e ∙ sym q))

zeros_once : (l l' : List ℕ) → length l ≡ length l' → All (λ x. x ≡ 0) l → All (λ x. x ≡ 0) l' → l ≡ l'
zeros_once [] [] long a b = refl
zeros_once [] (y ∷ l') long a b = absurd (omega arith)
zeros_once (x ∷ l) [] long a b = absurd (omega arith)
zeros_once (x ∷ l) (y ∷ l') long a b =
    let heads : x ≡ y = a.0 ∙ sym b.0 in
    let tails : l ≡ l' = zeros_once l l' (omega arith) a.1 b.1 in
    λ i. heads i ∷ tails i

pub listed_once : {col order order' seats : List ℕ} → Listed col order seats → Listed col order' seats
    → length order ≡ length order' → order ≡ order'
listed_once {col} {order} {order'} {seats} a b long =
    let n : ℕ = length seats in
    let used : take n order ≡ take n order' =
    asc_once col (take n order) (take n order') a.index.asc b.index.asc (λ k. a.same k ∙ sym (b.same k)) in
    let rest : drop n order ≡ drop n order' =
    zeros_once (drop n order) (drop n order') (length-drop n order ∙ ap (λ (z : ℕ). z - n) long ∙ sym (length-drop n order'))
    a.index.clear b.index.clear in
    sym (take-append-drop n order) ∙ (λ i. used i ++ rest i) ∙ take-append-drop n order'
