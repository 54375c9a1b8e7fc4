-- A list that is filled page by page: the stores of the pages that are left make the list that all stores make, and when none
-- is left it is that list.
use mathlib.Core.Path.{◌≡◌, refl, sym, ap, ◌∙◌}
use mathlib.Core.List.{List, [], ◌∷◌, ◌++◌, flat_map}
use Prim.Native.Nat.{ℕ, zero, suc, ◌+◌, ◌-◌, ◌≤◌, ◌<◌}
use native.Mathlib.Numerals.{add-one}
use native.Mathlib.Omega.{arith}
use lib.ListN.{length, drop, length-map, length-append}
use lib.Seq.{sets, length-sets}
use Rattle.pool.specs.Slots.{entries}
use Rattle.ring_links.specs.Links.{next_at}
use Rattle.model.specs.Row.{Row}
use Rattle.listing.specs.declared.listed.ListedPage.{ListedPage}
use Rattle.listing.specs.declared.listed.RingPage.{RingPage}
use Rattle.listing.specs.Listing.{page_of, pages_of, Form, Laid, ring_page_at, Stands, WritesRow}
use Rattle.listing.proofs.Stores.{sets_append, sets_first}
use Rattle.listing.proofs.Sweeping.{pages_from, Inside, stands_pages, stands_inside}

module _ {A : Type 0} where
  -- i of n pages are in the list, and slot s is next
  pub record Filling (F : Form A) (shown : ListedPage → List A) (slots : List ℕ) (h n : ℕ) (before : List A) (s i : ℕ) (list : List A) : Type 0 where
    pub left : ℕ
    pub count : i + left ≡ n
    pub inside : Inside (entries slots) s left
    pub long : length list ≡ length before
    pub whole : sets list (F.places i) (flat_map shown (pages_from (entries slots) s left)) ≡ sets before 0 (flat_map shown (pages_from (entries slots) h n))

  module _ {F : Form A} {shown : ListedPage → List A} (laid : Laid F shown) where
    written_flat : (row : Row) → F.written row ≡ flat_map shown (pages_of row)
    unfolding flat_map
    written_flat [] = laid.empty
    written_flat (e ∷ row) = laid.next e row ∙ ap (λ (l : List A). shown (page_of e) ++ l) (written_flat row)

    pub filling_none : {slots : List ℕ} {h n : ℕ} {list : List A} (row : Row) → Stands (entries slots) h row → length row ≡ n → Filling F shown slots h n list h 0 list
    filling_none {slots = slots} {h = h} {n = n} row stands count = record {
      left = n;
      count = omega arith;
      inside = rw count at (stands_inside (entries slots) h row stands);
      long = refl;
      whole = rw laid.none;
    }

    length_flat : (ps : List ListedPage) → length (flat_map shown ps) ≡ F.places (length ps)
    unfolding flat_map
    length_flat [] = sym laid.none
    length_flat (p ∷ ps) = length-append (shown p) (flat_map shown ps) ∙ rw (length_flat ps, laid.more (length ps) p) (omega arith)

    -- a longer run of pages takes no fewer places
    pub places_grow : (p : ListedPage) (i k : ℕ) → F.places i ≤ F.places (i + k)
    places_grow p i zero = let none : i + 0 ≡ i = omega arith in rw none (omega arith)
    places_grow p i (suc k) =
        let next : i + suc k ≡ suc (i + k) = omega arith in
        rw (next, laid.more (i + k) p) (omega (arith, places_grow p i k))

    module _ {slots : List ℕ} {h n : ℕ} {before : List A} {s i : ℕ} {list : List A} (g : Filling F shown slots h n before s i list) where
      pub filling_inside : i < n → s < length (entries slots)
      filling_inside more = at g.left g.count g.inside
        where
          at : (k : ℕ) → i + k ≡ n → Inside (entries slots) s k → s < length (entries slots)
          at zero e w = absurd (omega arith)
          at (suc k) e w = w.0

      -- the next page has its places in the list
      pub filling_room : ListedPage → F.places n ≤ length before → i < n → F.places (i + 1) ≤ length list
      filling_room p room more =
          let e : i + 1 + (n - (i + 1)) ≡ n = omega arith in
          omega (arith, g.long, rw e at (places_grow p (i + 1) (n - (i + 1))))

      pub filling_more : {p : RingPage} {list' : List A} → i < n → p ≡ ring_page_at (entries slots) s → list' ≡ sets list (F.places i) (shown p.page)
          → Filling F shown slots h n before p.next.0 (i + 1) list'
      unfolding pages_from flat_map
      filling_more {p} {list'} more there stored = at g.left g.count g.inside g.whole
        where
          at : (k : ℕ) → i + k ≡ n → Inside (entries slots) s k → sets list (F.places i) (flat_map shown (pages_from (entries slots) s k)) ≡ sets before 0 (flat_map shown (pages_from (entries slots) h n))
              → Filling F shown slots h n before p.next.0 (i + 1) list'
          at zero e w whole = absurd (omega arith)
          at (suc k) e w whole = record {
            left = k;
            count = omega arith;
            inside = rw there w.1;
            long = rw stored (length-sets list (F.places i) (shown p.page) ∙ g.long);
            whole =
                let page : ListedPage = (ring_page_at (entries slots) s).page in
                let q : F.places (i + 1) ≡ F.places i + length (shown page) = rw (add-one i) (laid.more i page) in
                rw (q, stored, there)
                (sym (sets_append list (shown page) (flat_map shown (pages_from (entries slots) (next_at (entries slots) s) k)) (F.places i)) ∙ whole);
          }

      pub filling_done : F.places n ≤ length before → n ≤ i → WritesRow F slots h n before list
      unfolding pages_from flat_map
      filling_done room done row stands count = record { list = at g.left g.count g.whole }
        where
          at : (k : ℕ) → i + k ≡ n → sets list (F.places i) (flat_map shown (pages_from (entries slots) s k)) ≡ sets before 0 (flat_map shown (pages_from (entries slots) h n))
              → list ≡ F.written row ++ drop (F.places (length row)) before
          at zero e whole =
              let pages : pages_from (entries slots) h n ≡ pages_of row = rw count at (sym (stands_pages (entries slots) h row stands)) in
              let long : length (flat_map shown (pages_of row)) ≡ F.places (length row) = length_flat (pages_of row) ∙ ap F.places (length-map row page_of) in
              let fits : length (flat_map shown (pages_of row)) ≤ length before = rw (long, count) room in
              whole ∙ ap (λ (ps : List ListedPage). sets before 0 (flat_map shown ps)) pages ∙ sets_first before (flat_map shown (pages_of row)) fits ∙ rw (long, written_flat row)
          at (suc k) e whole = absurd (omega arith)
