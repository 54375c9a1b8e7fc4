-- What an index says of the seats that it lists, and that it goes on listing them: a slot comes in at the gap of its name,
-- goes out from its place, or has its name written while it is no seat.
use mathlib.Core.Path.{◌≡◌, refl, sym, ap, ◌∙◌, subst}
use mathlib.Core.Bool.{Bool, true, ◌||◌, true≢false}
use mathlib.Core.List.{List, ◌∷◌, ◌++◌}
use Prim.Native.Nat.{ℕ, suc, ◌+◌, ◌-◌, ◌<◌}
use native.Mathlib.Omega.{arith}
use native.Mathlib.Decide.{dec_lt}
use lib.Dec.{eqb}
use lib.ListN.{length, get_or, take, drop, set, length-set, length-append, take-append-drop}
use lib.Seq.{get_or-take, get_or-set_same, get_or-set_other, length-take-le, drop-drop, split_at}
use Rattle.page.specs.declared.entry.PageCacheEntry.{PageCacheEntry}
use Rattle.pool.specs.Slots.{blank}
use Rattle.ring_links.specs.Ring.{has, Out, Apart}
use Rattle.ring_links.specs.Links.{unlinked}
use Rattle.sorted_index.specs.declared.search.By.{By}
use Rattle.sorted_index.specs.Names.{name_of, names}
use Rattle.sorted_index.specs.Index.{Index, name_at, Hit, Miss, Inserted, Removed}
use Rattle.sorted_index.specs.Listed.{Listed, Fresh, Absent}
use Rattle.sorted_index.proofs.Names.{names_kept, names_unlinked}
use Rattle.sorted_index.proofs.Lists.{all_drop}
use Rattle.sorted_index.proofs.Membership.{has_out, out_has, has_get_d, Place, has_place, has_mid, apart_mid, same_without}
use Rattle.sorted_index.proofs.Ascending.{less, asc_insert, asc_remove, asc_store, asc_apart, asc_names}

-- ── what is listed ───────────────────────────────────────────────────────────
module _ {col order seats : List ℕ} {n : ℕ} (l : Listed col order seats) (held : length seats ≡ n) where
  pub listed_index : Index col order n
  listed_index = rw held at l.index

  pub listed_has : (k : ℕ) → has k (take n order) ≡ has k seats
  listed_has k = ap (λ (z : ℕ). has k (take z order)) (sym held) ∙ l.same k

  used_long : length (take n order) ≡ n
  used_long = length-take-le n order listed_index.fits

  -- what stands at a place is a seat
  pub place_seat : (i : ℕ) → i < n → has (get_or order i 0) seats ≡ true
  place_seat i h =
      ap (λ (z : ℕ). has z seats) (sym (get_or-take n order i 0 h)) ∙ sym (listed_has (get_or (take n order) i 0))
      ∙ has_get_d (take n order) i (omega (arith, used_long))

  -- a seat stands at a place
  pub seat_place : (k : ℕ) → has k seats ≡ true → Place order n k
  seat_place k h =
      let p = has_place k (take n order) (listed_has k ∙ h) in
      let w : p.at < n = omega (arith, p.within, used_long) in
      record { at = p.at; within = w; there = sym (get_or-take n order p.at 0 w) ∙ p.there }

  -- seats with the same name are the same seat
  pub listed_names : (j k : ℕ) → has j seats ≡ true → has k seats ≡ true → get_or col j 0 ≡ get_or col k 0 → j ≡ k
  listed_names j k g h e = asc_names col (take n order) listed_index.asc j k (listed_has j ∙ g) (listed_has k ∙ h) e

  -- a name that was found is a seat's, and no other seat has it
  pub hit_seat : {x at : ℕ} → Hit col order n x at → has (get_or order at 0) seats ≡ true
  hit_seat h = place_seat _ h.within

  pub hit_is : {x at s : ℕ} → Hit col order n x at → has s seats ≡ true → get_or col s 0 ≡ x → get_or order at 0 ≡ s
  hit_is h g e = listed_names _ _ (hit_seat h) g (h.same ∙ sym e)

  -- a name that was not found is no seat's
  pub miss_absent : {x at : ℕ} → Miss col order n x at → Absent col seats x
  miss_absent {x} {at} m k h e =
      let p = seat_place k h in
      let named : name_at col order p.at ≡ x = ap (λ (z : ℕ). get_or col z 0) p.there ∙ e in
      side (dec_lt p.at at) p.within named
    where
      side : {i : ℕ} → Dec (i < at) → i < n → name_at col order i ≡ x → ⊥
      side {i} (yes b) w q = less (m.below i b) q
      side {i} (no b) w q = less (m.above i (omega arith) w) (sym q)

  -- ── a slot comes in ──────────────────────────────────────────────────────────
  pub listed_enter : {s x at : ℕ} {order' : List ℕ} → Fresh col seats s → Miss col order n x at → n < length order
      → length order' ≡ length order → Inserted order n at s order' → Listed (set col s x) order' (s ∷ seats)
  listed_enter {s} {x} {at} {order'} f m room long i = record {
    index = subst (Index (set col s x) order') more (record {
      fits = omega arith;
      asc =
          rw i.used
          (asc_insert (set col s x) s (rw length-set f.inside) (take n order) at
          (asc_store col s x (take n order) unused listed_index.asc)
          (λ k h. rw (named, kept k (omega (arith, m.within))) (m.below k h))
          (λ k p h. rw (named, kept k (omega (arith, used_long))) (m.above k p (omega (arith, used_long))))
          (omega (arith, m.within, used_long)));
      clear = rw (i.rest, ← (drop-drop 1 n order)) (all_drop (λ y. y ≡ 0) 1 (drop n order) listed_index.clear);
    });
    same = λ k.
        ap (λ (z : ℕ). has k (take z order')) (sym more) ∙ ap (has k) i.used
        ∙ has_mid k s (take at (take n order)) (drop at (take n order))
        ∙ ap (λ (z : List ℕ). has k (s ∷ z)) (take-append-drop at (take n order))
        ∙ ap (λ (b : Bool). eqb k s || b) (listed_has k);
  }
    where
      more : n + 1 ≡ length (s ∷ seats)
      more = omega arith

      unused : Out s (take n order)
      unused = out_has s (take n order) (listed_has s ∙ has_out s seats f.out)

      named : get_or (set col s x) s 0 ≡ x
      named = get_or-set_same col s x 0 f.inside

      kept : (k : ℕ) → k < n → name_at (set col s x) (take n order) k ≡ name_at col order k
      kept k h =
          ap (λ (z : ℕ). get_or (set col s x) z 0) (get_or-take n order k 0 h)
          ∙ get_or-set_other col s (get_or order k 0) x 0
          (λ e. true≢false (sym (place_seat k h) ∙ ap (λ (z : ℕ). has z seats) e ∙ has_out s seats f.out))

-- ── a slot goes out ──────────────────────────────────────────────────────────
module _ {col order : List ℕ} {n : ℕ} (before : List ℕ) (s : ℕ) (after : List ℕ) (l : Listed col order (before ++ s ∷ after))
    (apart : Apart (before ++ s ∷ after)) (held : length (before ++ s ∷ after) ≡ n) where
  pub listed_leave : {at : ℕ} {order' : List ℕ} → at < n → get_or order at 0 ≡ s → length order' ≡ length order
      → Removed order n at order' → Listed col order' (before ++ after)
  listed_leave {at} {order'} w stands long r = record {
    index = subst (Index col order') fewer (record {
      fits = omega (arith, index.fits);
      asc = rw r.used (asc_remove col (take n order) at index.asc);
      clear = rw r.rest (refl, index.clear);
    });
    same = λ k.
        ap (λ (z : ℕ). has k (take z order')) (sym fewer) ∙ ap (has k) r.used
        ∙ same_without s (take at (take n order)) (drop (suc at) (take n order)) before after
        (λ j. ap (has j) (sym parts) ∙ listed_has l held j)
        (apart_mid s (take at (take n order)) (drop (suc at) (take n order))
        (subst Apart parts (asc_apart col (take n order) index.asc)))
        (apart_mid s before after apart) k;
  }
    where
      index : Index col order n
      index = listed_index l held

      parts : take n order ≡ take at (take n order) ++ s ∷ drop (suc at) (take n order)
      parts =
          split_at (take n order) at 0 (omega (arith, length-take-le n order index.fits))
          ∙ ap {B = List ℕ} (λ (z : ℕ). take at (take n order) ++ z ∷ drop (suc at) (take n order)) (get_or-take n order at 0 w ∙ stands)

      fewer : n - 1 ≡ length (before ++ after)
      fewer = omega (arith, length-append before (s ∷ after), length-append before after)

-- ── what keeps an index ──────────────────────────────────────────────────────
-- the name of a slot that is no seat is written
pub listed_store : {col order seats : List ℕ} (s x : ℕ) → Listed col order seats → Out s seats → Listed (set col s x) order seats
listed_store {col} {order} {seats} s x l o = record {
  index = record {
    fits = l.index.fits;
    asc =
        asc_store col s x (take (length seats) order)
        (out_has s (take (length seats) order) (l.same s ∙ has_out s seats o)) l.index.asc;
    clear = l.index.clear;
  };
  same = l.same;
}

-- the same seats in another order
pub listed_seats : {col order seats seats' : List ℕ} → Listed col order seats → length seats' ≡ length seats
    → ((k : ℕ) → has k seats' ≡ has k seats) → Listed col order seats'
listed_seats l long same = record { index = listed_index l (sym long); same = λ k. listed_has l (sym long) k ∙ sym (same k) }

pub listed_mid : {col order : List ℕ} (before : List ℕ) (s : ℕ) (after : List ℕ) → Listed col order (s ∷ (before ++ after))
    → Listed col order (before ++ s ∷ after)
listed_mid before s after l =
    listed_seats l (omega (arith, length-append before (s ∷ after), length-append before after)) (λ k. has_mid k s before after)

-- ── what keeps an index, in the words of the entries ─────────────────────────
module _ {order seats : List ℕ} (by : By) (es : List PageCacheEntry) (s : ℕ) (l : Listed (names by es) order seats) where
  -- an entry is stored that has the name of the one before
  pub listed_kept : (e : PageCacheEntry) → name_of by e ≡ name_of by (get_or es s blank) → Listed (names by (set es s e)) order seats
  listed_kept e q = rw (names_kept by es s e q) l

  -- a slot that is no seat any more leaves the ring
  pub listed_unlinked : Out s seats → Listed (names by (unlinked es s)) order seats
  listed_unlinked o = rw (names_unlinked by es s) (listed_store s (name_of by blank) l o)
