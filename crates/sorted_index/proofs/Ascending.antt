-- Slots by strictly ascending names: each name is below all later ones, so a name determines its slot and its place, and the
-- members alone determine the list.
use mathlib.Core.Path.{◌≡◌, sym, ap, ◌∙◌}
use mathlib.Core.Bool.{true, true≢false}
use mathlib.Core.Logic.{⊎_elim}
use mathlib.Core.List.{List, [], ◌∷◌}
use Prim.Native.Nat.{ℕ, zero, suc, ◌+◌, ◌-◌, ◌≤◌, ◌<◌, zero-le, suc-le-suc}
use native.Mathlib.Nat.{eq-or-lt_of_le, le_of_eq, le_of_lt, le_of_suc-le-suc, not-suc-le-zero}
use native.Mathlib.Numerals.{add-one}
use native.Mathlib.Omega.{arith}
use lib.ListN.{length, get_or, take, drop, set, length-set, length-drop}
use lib.Seq.{get_or-take, get_or-drop, get_or-set_other, length-take-le}
use Rattle.page.specs.All.{All}
use Rattle.ring_links.specs.Ring.{has, Out, Apart}
use Rattle.sorted_index.specs.Index.{Asc, Index, name_at, insert_at, remove_at}
use Rattle.sorted_index.proofs.Lists.{all_at, all_of, all_insert, all_remove}
use Rattle.sorted_index.proofs.Membership.{has_cons}

pub less : {m n : ℕ} → m < n → m ≡ n → ⊥
less h e = omega arith

-- ── place by place ───────────────────────────────────────────────────────────
pub record Ascending (col order : List ℕ) (n : ℕ) : Type 0 where
  pub inside : (k : ℕ) → k < n → get_or order k 0 < length col
  pub up : (j k : ℕ) → j < k → k < n → name_at col order j < name_at col order k

module _ (col : List ℕ) where
  asc_inside : (l : List ℕ) → Asc col l → (k : ℕ) → k < length l → get_or l k 0 < length col
  asc_inside [] a k h = absurd (not-suc-le-zero h)
  asc_inside (s ∷ l) a zero h = a.0
  asc_inside (s ∷ l) a (suc k) h = asc_inside l a.2 k (le_of_suc-le-suc h)

  asc_up : (l : List ℕ) → Asc col l → (j k : ℕ) → j < k → k < length l → name_at col l j < name_at col l k
  asc_up [] a j k g h = absurd (not-suc-le-zero h)
  asc_up (s ∷ l) a j zero g h = absurd (not-suc-le-zero g)
  asc_up (s ∷ l) a zero (suc k) g h = all_at (λ t. get_or col s 0 < get_or col t 0) l a.1 k (le_of_suc-le-suc h)
  asc_up (s ∷ l) a (suc j) (suc k) g h = asc_up l a.2 j k (le_of_suc-le-suc g) (le_of_suc-le-suc h)

  -- it is enough that each name is below the next
  above_first : (l : List ℕ) (x : ℕ) → ((i : ℕ) → i + 1 < length l → name_at col l i < name_at col l (i + 1))
      → (0 < length l → x < name_at col l 0) → All (λ t. x < get_or col t 0) l
  above_first [] x up h = tt
  above_first (s ∷ l) x up h = (
    h (omega arith),
    above_first l x (λ i q. rw (add-one i) (rw (add-one (suc i)) at (up (suc i) (omega arith))))
        (λ q. omega (arith, h (omega arith), up 0 (omega arith))),
  )

  asc_neighbours : (l : List ℕ) → ((i : ℕ) → i < length l → get_or l i 0 < length col)
      → ((i : ℕ) → i + 1 < length l → name_at col l i < name_at col l (i + 1)) → Asc col l
  asc_neighbours [] inside up = tt
  asc_neighbours (s ∷ l) inside up =
      let up' : (i : ℕ) → i + 1 < length l → name_at col l i < name_at col l (i + 1) =
      λ i q. rw (add-one i) (rw (add-one (suc i)) at (up (suc i) (omega arith))) in (
        inside 0 (omega arith),
        above_first l (get_or col s 0) up' (λ q. up 0 (omega arith)),
        asc_neighbours l (λ i q. inside (suc i) (suc-le-suc q)) up',
      )

pub ascending : {col order : List ℕ} {n : ℕ} → Index col order n → Ascending col order n
ascending {col} {order} {n} index =
    let long : length (take n order) ≡ n = length-take-le n order index.fits in
    record {
      inside = λ k h. rw (get_or-take n order k 0 h) at (asc_inside col (take n order) index.asc k (omega arith));
      up = λ j k g h.
          rw (get_or-take n order k 0 h, get_or-take n order j 0 (omega arith)) at (asc_up col (take n order) index.asc j k g (omega arith));
    }

-- an index by its places, and what stands beyond it
pub index_places : (col order : List ℕ) (n : ℕ) → n ≤ length order → ((i : ℕ) → i < n → get_or order i 0 < length col)
    → ((i : ℕ) → i + 1 < n → name_at col order i < name_at col order (i + 1))
    → ((i : ℕ) → n ≤ i → i < length order → get_or order i 0 ≡ 0) → Index col order n
index_places col order n fits inside up clear =
    let long : length (take n order) ≡ n = length-take-le n order fits in
    let there : (i : ℕ) → i < n → get_or (take n order) i 0 ≡ get_or order i 0 = λ i h. get_or-take n order i 0 h in
    record {
      fits = fits;
      asc = asc_neighbours col (take n order) (λ i h. rw (there i (omega arith)) (inside i (omega arith)))
          (λ i h. rw (there i (omega arith), there (i + 1) (omega arith)) (up i (omega arith)));
      clear = all_of (λ x. x ≡ 0) (drop n order)
          (λ i h. get_or-drop n order i 0 ∙ clear (n + i) (omega arith) (omega (arith, length-drop n order)));
    }

pub index_clear : {col order : List ℕ} {n : ℕ} → Index col order n → (i : ℕ) → n ≤ i → i < length order → get_or order i 0 ≡ 0
index_clear {col} {order} {n} index i g h =
    let e : n + (i - n) ≡ i = omega arith in
    ap (λ (k : ℕ). get_or order k 0) (sym e) ∙ sym (get_or-drop n order (i - n) 0)
    ∙ all_at (λ x. x ≡ 0) (drop n order) index.clear (i - n) (omega (arith, length-drop n order))

-- not strictly: a place up to another has a name up to the other's
pub upto : {col order : List ℕ} {n : ℕ} → Ascending col order n → (j k : ℕ) → j ≤ k → k < n
    → name_at col order j ≤ name_at col order k
upto {col} {order} a j k h l =
    ⊎_elim (λ e. le_of_eq (ap (name_at col order) e)) (λ h'. le_of_lt (a.up j k h' l)) (eq-or-lt_of_le h)

-- ── by members ───────────────────────────────────────────────────────────────
module _ (col : List ℕ) where
  pub has_above : (x k : ℕ) (l : List ℕ) → All (λ t. x < get_or col t 0) l → has k l ≡ true → x < get_or col k 0
  has_above x k [] a h = absurd (true≢false (sym h))
  has_above x k (s ∷ l) a h = ⊎_elim (λ e. rw e a.0) (λ t. has_above x k l a.1 t) (has_cons k s l h)

  pub out_above : (s : ℕ) (l : List ℕ) → All (λ t. get_or col s 0 < get_or col t 0) l → Out s l
  out_above s [] a = tt
  out_above s (t ∷ l) a = ((λ e. less a.0 (ap (λ (k : ℕ). get_or col k 0) e)), out_above s l a.1)

  pub asc_apart : (l : List ℕ) → Asc col l → Apart l
  asc_apart [] a = tt
  asc_apart (s ∷ l) a = (out_above s l a.1, asc_apart l a.2)

  -- members with the same name are the same slot
  pub asc_names : (l : List ℕ) → Asc col l → (j k : ℕ) → has j l ≡ true → has k l ≡ true → get_or col j 0 ≡ get_or col k 0 → j ≡ k
  asc_names [] a j k g h e = absurd (true≢false (sym g))
  asc_names (s ∷ l) a j k g h e =
      ⊎_elim
      (λ p. ⊎_elim (λ q. p ∙ sym q) (λ q. absurd (less (has_above (get_or col s 0) k l a.1 q) (rw p at e))) (has_cons k s l h))
      (λ p. ⊎_elim (λ q. absurd (less (has_above (get_or col s 0) j l a.1 p) (sym (rw q at e)))) (λ q. asc_names l a.2 j k p q e)
      (has_cons k s l h))
      (has_cons j s l g)

-- ── a slot comes in or goes out, and a name is written ───────────────────────
module _ (col : List ℕ) where
  -- what stands before place `at` has names below that of s, and what stands from there on, above it
  pub asc_insert : (s : ℕ) → s < length col → (l : List ℕ) (at : ℕ) → Asc col l → ((k : ℕ) → k < at → name_at col l k < get_or col s 0)
      → ((k : ℕ) → at ≤ k → k < length l → get_or col s 0 < name_at col l k) → at ≤ length l → Asc col (insert_at l at s)
  asc_insert s i l zero a below above h = (i, all_of _ l (λ k q. above k zero-le q), a)
  asc_insert s i [] (suc at) a below above h = absurd (not-suc-le-zero h)
  asc_insert s i (t ∷ l) (suc at) a below above h = (
    a.0,
    all_insert (λ u. get_or col t 0 < get_or col u 0) s l at a.1 (below zero (suc-le-suc zero-le)),
    asc_insert s i l at a.2 (λ k q. below (suc k) (suc-le-suc q)) (λ k p q. above (suc k) (suc-le-suc p) (suc-le-suc q))
        (le_of_suc-le-suc h),
  )

  pub asc_remove : (l : List ℕ) (at : ℕ) → Asc col l → Asc col (remove_at l at)
  asc_remove [] zero a = a
  asc_remove (t ∷ l) zero a = a.2
  asc_remove [] (suc at) a = a
  asc_remove (t ∷ l) (suc at) a = (a.0, all_remove (λ u. get_or col t 0 < get_or col u 0) l at a.1, asc_remove l at a.2)

  -- the name of a slot that is not in the list
  pub asc_store : (s x : ℕ) (l : List ℕ) → Out s l → Asc col l → Asc (set col s x) l
  asc_store s x [] o a = tt
  asc_store s x (t ∷ l) o a = (
    rw length-set a.0,
    rw (get_or-set_other col s t x 0 (λ e. o.0 (sym e))) (higher (get_or col t 0) l o.1 a.1),
    asc_store s x l o.1 a.2,
  )
    where
      higher : (y : ℕ) (l : List ℕ) → Out s l → All (λ u. y < get_or col u 0) l → All (λ u. y < get_or (set col s x) u 0) l
      higher y [] o b = tt
      higher y (u ∷ l) o b = (rw (get_or-set_other col s u x 0 (λ e. o.0 (sym e))) b.0, higher y l o.1 b.1)
