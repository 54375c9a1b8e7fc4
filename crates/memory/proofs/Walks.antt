-- The index by key is the order of every walk over keys. Both the model's walk and the index are the held pages by strictly
-- ascending key, and such an order is determined by its members: so the two are equal. A loop over the index meets the walk's entries
-- one after another.
use mathlib.Core.Path.{◌≡◌, refl, sym, ap, ◌∙◌, subst}
use mathlib.Core.Bool.{Bool, true, false, ◌||◌, true≢false}
use mathlib.Core.List.{List, [], ◌∷◌, ◌++◌, append-nil, map-append}
use Prim.Native.Nat.{ℕ, zero, suc, ◌+◌, ◌≤◌, ◌<◌, zero-le, suc-le-suc}
use native.Mathlib.Nat.{le_of_suc-le-suc, not-suc-le-zero}
use native.Mathlib.Numerals.{add-one}
use native.Mathlib.Omega.{arith}
use lib.Dec.{eqb, ltb}
use lib.ListN.{length, get_or, take, drop, take-append-drop, length-map, drop_of_length-le}
use lib.Seq.{take-suc, take-take, drop-cons, get_or-take, length-take-le}
use borrow.Author.Tests.{ltb-true, ltb-false}
use Rattle.page.specs.declared.cache.PageCache.{PageCache}
use Rattle.page.specs.declared.entry.PageCacheEntry.{PageCacheEntry}
use Rattle.ring_links.specs.Ring.{has, Out, Below}
use Rattle.ring_links.specs.Ring as ring
use Rattle.pool.specs.Slots.{blank, entries}
use Rattle.sorted_index.specs.Index.{Asc, name_at, insert_at}
use Rattle.sorted_index.specs.Names.{names}
use Rattle.sorted_index.specs.declared.search.By.TheVariants.{Key}
use Rattle.sorted_index.proofs.Ascending.{ascending, asc_insert}
use Rattle.sorted_index.proofs.Listed.{listed_index, listed_names}
use Rattle.sorted_index.proofs.Lists.{all_at}
use Rattle.sorted_index.proofs.Membership.{has_here, has_there, has_out, has_mid}
use Rattle.sorted_index.proofs.Names.{name_at_lem, names_length}
use Rattle.sorted_index.proofs.Once.{asc_once}
use Rattle.model.specs.Cache.{Cache}
use Rattle.model.specs.Row.{Page, Entry, Row, sort_in, sorted_by_key, those}
use Rattle.memory.specs.Memory.{Memory}
use Rattle.memory.specs.Holds.{seen, row_of, Holds}
use Rattle.memory.specs.Walk.{walk}

-- ── one page is sorted in ────────────────────────────────────────────────────
module _ (es : List PageCacheEntry) where
  abbrev keys : List ℕ
  keys = names Key es

  abbrev seen_at : ℕ → Entry
  seen_at s = seen s (get_or es s blank)

  -- the page of slot s goes into the row of the slots l at this place
  record SortedIn (s : ℕ) (l : List ℕ) : Type 0 where
    at : ℕ
    within : at ≤ length l
    below : (k : ℕ) → k < at → name_at keys l k < get_or keys s 0
    above : (k : ℕ) → at ≤ k → k < length l → get_or keys s 0 < name_at keys l k
    row : sort_in (seen_at s) (row_of es l) ≡ row_of es (insert_at l at s)

  sorted_in : (s : ℕ) (l : List ℕ) → Asc keys l → ((t : ℕ) → has t l ≡ true → get_or keys s 0 ≡ get_or keys t 0 → ⊥) → SortedIn s l
  unfolding sort_in
  sorted_in s [] a other = record {
    at = 0;
    within = zero-le;
    below = λ k h. absurd (not-suc-le-zero h);
    above = λ k g h. absurd (not-suc-le-zero h);
    row = refl;
  }
  sorted_in s (t ∷ l) a other =
      go (ltb (seen_at s).page.key (seen_at t).page.key) refl (sorted_in s l a.2 (λ u h. other u (has_there u t l h)))
    where
      first : ltb (seen_at s).page.key (seen_at t).page.key ≡ true → get_or keys s 0 < get_or keys t 0
      first q = rw (name_at_lem Key es s, name_at_lem Key es t) (ltb-true _ _ q)

      later : ltb (seen_at s).page.key (seen_at t).page.key ≡ false → get_or keys t 0 < get_or keys s 0
      later q =
          let upto : get_or keys t 0 ≤ get_or keys s 0 = rw (name_at_lem Key es s, name_at_lem Key es t) (ltb-false _ _ q) in
          omega (arith, other t (has_here t l))

      go : (b : Bool) → ltb (seen_at s).page.key (seen_at t).page.key ≡ b → SortedIn s l → SortedIn s (t ∷ l)
      go true q r = record {
        at = 0;
        within = zero-le;
        below = λ k h. absurd (not-suc-le-zero h);
        above = λ k g h. rest k h;
        row = rw (q, sort_in);
      }
        where
          rest : (k : ℕ) → k < suc (length l) → get_or keys s 0 < name_at keys (t ∷ l) k
          rest zero h = first q
          rest (suc k) h =
              omega (arith, first q, all_at (λ u. get_or keys t 0 < get_or keys u 0) l a.1 k (le_of_suc-le-suc h))
      go false q r = record {
        at = suc r.at;
        within = suc-le-suc r.within;
        below = under;
        above = over;
        row = rw (q, sort_in) (ap {B = Row} (λ (x : Row). seen_at t ∷ x) r.row);
      }
        where
          under : (k : ℕ) → k < suc r.at → name_at keys (t ∷ l) k < get_or keys s 0
          under zero h = later q
          under (suc k) h = r.below k (le_of_suc-le-suc h)

          over : (k : ℕ) → suc r.at ≤ k → k < suc (length l) → get_or keys s 0 < name_at keys (t ∷ l) k
          over zero g h = absurd (not-suc-le-zero g)
          over (suc k) g h = r.above k (le_of_suc-le-suc g) (le_of_suc-le-suc h)

  -- ── all of them ──────────────────────────────────────────────────────────────
  -- the walk over the keys of the row is the row of slots by ascending key
  record Sorted (seats : List ℕ) : Type 0 where
    order : List ℕ
    asc : Asc keys order
    same : (k : ℕ) → has k order ≡ has k seats
    row : sorted_by_key (row_of es seats) ≡ row_of es order

  -- seats with the same key are the same seat
  abbrev DistinctKeys : List ℕ → Type 0
  DistinctKeys seats = (j k : ℕ) → has j seats ≡ true → has k seats ≡ true → get_or keys j 0 ≡ get_or keys k 0 → j ≡ k

  sorted_more : (s : ℕ) (seats : List ℕ) → Out s seats → s < length keys → DistinctKeys (s ∷ seats) → Sorted seats → Sorted (s ∷ seats)
  unfolding sorted_by_key
  sorted_more s seats out inside tells r = record {
    order = insert_at r.order into.at s;
    asc = asc_insert keys s inside r.order into.at r.asc into.below into.above into.within;
    same = λ k.
        has_mid k s (take into.at r.order) (drop into.at r.order)
        ∙ ap (λ (l : List ℕ). has k (s ∷ l)) (take-append-drop into.at r.order) ∙ ap (λ (b : Bool). eqb k s || b) (r.same k);
    row = ap (sort_in (seen_at s)) r.row ∙ into.row;
  }
    where
      other : (t : ℕ) → has t r.order ≡ true → get_or keys s 0 ≡ get_or keys t 0 → ⊥
      other t h e =
          let seat : has t seats ≡ true = sym (r.same t) ∙ h in
          let one : s ≡ t = tells s t (has_here s seats) (has_there t s seats seat) e in
          true≢false (sym (ap (λ (k : ℕ). has k seats) one ∙ seat) ∙ has_out s seats out)

      into : SortedIn s r.order
      into = sorted_in s r.order r.asc other

  sorted : (seats : List ℕ) → ring.Apart seats → Below (length keys) seats → DistinctKeys seats → Sorted seats
  unfolding sorted_by_key
  sorted [] apart inside tells = record { order = []; asc = tt; same = λ k. refl; row = refl }
  sorted (s ∷ seats) apart inside tells =
      sorted_more s seats apart.0 inside.0 tells
      (sorted seats apart.1 inside.1 (λ j k g h e. tells j k (has_there j s seats g) (has_there k s seats h) e))

-- ── the walk ─────────────────────────────────────────────────────────────────
-- its entry at place i: that of the slot which the index has there
abbrev pub walk_at : (slots by_key : List ℕ) → ℕ → Entry
walk_at slots by_key i = seen (get_or by_key i 0) (get_or (entries slots) (get_or by_key i 0) blank)

-- its entries from place i up to place n
abbrev pub walk_from : (slots by_key : List ℕ) → ℕ → ℕ → Row
walk_from slots by_key i n = row_of (entries slots) (drop i (take n by_key))

module _ {m : Memory} {head : PageCache} {c : Cache} (g : Holds m head c) where
  pub walk_by_key : sorted_by_key c.row ≡ walk m.slots m.by_key head.held
  walk_by_key =
      let es : List PageCacheEntry = entries m.slots in
      let inside : Below (length (names Key es)) g.seats =
      subst (λ (n : ℕ). Below n g.seats) (length-map es _ ∙ sym (names_length Key es)) g.seated.ring.inside in
      let w = sorted es g.seats g.seated.ring.apart inside (listed_names g.keys refl) in
      ap sorted_by_key g.row ∙ w.row
      ∙ ap (row_of es)
      (asc_once (names Key es) w.order (take (length g.seats) m.by_key) w.asc g.keys.index.asc
      (λ k. w.same k ∙ sym (g.keys.same k)))
      ∙ ap (λ (n : ℕ). walk m.slots m.by_key n) (sym g.headed.held)

  -- the index has a place for each entry of the walk
  pub walk_fits : head.held ≤ length m.by_key
  walk_fits = (listed_index g.keys (sym g.headed.held)).fits

  -- and a slot there
  pub walk_inside : (i : ℕ) → i < head.held → get_or m.by_key i 0 < length (entries m.slots)
  walk_inside i h =
      rw (names_length Key (entries m.slots)) at ((ascending (listed_index g.keys (sym g.headed.held))).inside i h)

-- ── step by step ─────────────────────────────────────────────────────────────
module _ (slots by_key : List ℕ) where
  -- one more entry
  pub walk_more : (i : ℕ) → i < length by_key → walk slots by_key (i + 1) ≡ walk slots by_key i ++ walk_at slots by_key i ∷ []
  walk_more i h =
      rw (add-one i)
      (ap (row_of (entries slots)) (take-suc by_key i 0 h) ∙ map-append (seen_at (entries slots)) (take i by_key) (get_or by_key i 0 ∷ []))

  -- what was met, and what is left
  pub walk_split : (i n : ℕ) → i ≤ n → walk slots by_key n ≡ walk slots by_key i ++ walk_from slots by_key i n
  walk_split i n h =
      ap (row_of (entries slots)) (sym (take-append-drop i (take n by_key)))
      ∙ map-append (seen_at (entries slots)) (take i (take n by_key)) (drop i (take n by_key))
      ∙ ap {B = Row} (λ (l : List ℕ). row_of (entries slots) l ++ walk_from slots by_key i n) (take-take i n by_key h)

  -- the next of what is left
  pub walk_next : (i n : ℕ) → i < n → n ≤ length by_key
      → walk_from slots by_key i n ≡ walk_at slots by_key i ∷ walk_from slots by_key (i + 1) n
  walk_next i n h fits =
      rw (add-one i)
      (ap (row_of (entries slots)) (drop-cons (take n by_key) i 0 (omega (arith, length-take-le n by_key fits)))
      ∙ ap {B = Row} (λ (s : ℕ). seen_at (entries slots) s ∷ walk_from slots by_key (suc i) n) (get_or-take n by_key i 0 h))

  -- nothing is left
  pub walk_end : (n : ℕ) → n ≤ length by_key → walk_from slots by_key n n ≡ []
  walk_end n fits = ap (row_of (entries slots)) (drop_of_length-le (take n by_key) {i = n} (omega (arith, length-take-le n by_key fits)))

-- ── those of a row ───────────────────────────────────────────────────────────
module _ (test : Page → Bool) where
  pub those_one : (e : Entry) (es : Row) → test e.page ≡ true → those test (e ∷ es) ≡ e.page ∷ those test es
  unfolding those
  those_one e es q = rw (q, those)

  pub those_past : (e : Entry) (es : Row) → test e.page ≡ false → those test (e ∷ es) ≡ those test es
  unfolding those
  those_past e es q = rw (q, those)

  pub those_append : (xs ys : Row) → those test (xs ++ ys) ≡ those test xs ++ those test ys
  unfolding those
  those_append [] ys = refl
  those_append (x ∷ xs) ys = go (test x.page) refl (those_append xs ys)
    where
      go : (b : Bool) → test x.page ≡ b → those test (xs ++ ys) ≡ those test xs ++ those test ys
          → those test (x ∷ xs ++ ys) ≡ those test (x ∷ xs) ++ those test ys
      go true q r =
          those_one x (xs ++ ys) q ∙ ap {B = List Page} (λ (ps : List Page). x.page ∷ ps) r
          ∙ sym (ap (λ (ps : List Page). ps ++ those test ys) (those_one x xs q))
      go false q r = those_past x (xs ++ ys) q ∙ r ∙ sym (ap (λ (ps : List Page). ps ++ those test ys) (those_past x xs q))

-- ── those of the walk ────────────────────────────────────────────────────────
module _ (test : Page → Bool) (slots by_key : List ℕ) where
  pub walked_none : those test (walk slots by_key 0) ≡ []
  unfolding those
  walked_none = refl

  pub walked_one : (i : ℕ) → i < length by_key → test (walk_at slots by_key i).page ≡ true
      → those test (walk slots by_key (i + 1)) ≡ those test (walk slots by_key i) ++ (walk_at slots by_key i).page ∷ []
  unfolding those
  walked_one i h q =
      ap (those test) (walk_more slots by_key i h) ∙ those_append test (walk slots by_key i) (walk_at slots by_key i ∷ [])
      ∙ ap {B = List Page} (λ (ps : List Page). those test (walk slots by_key i) ++ ps) (those_one test (walk_at slots by_key i) [] q)

  pub walked_past : (i : ℕ) → i < length by_key → test (walk_at slots by_key i).page ≡ false
      → those test (walk slots by_key (i + 1)) ≡ those test (walk slots by_key i)
  unfolding those
  walked_past i h q =
      ap (those test) (walk_more slots by_key i h) ∙ those_append test (walk slots by_key i) (walk_at slots by_key i ∷ [])
      ∙ ap {B = List Page} (λ (ps : List Page). those test (walk slots by_key i) ++ ps) (those_past test (walk_at slots by_key i) [] q)
      ∙ append-nil (those test (walk slots by_key i))

  -- those that were met, and those that are left
  pub walked_split : (i n : ℕ) → i ≤ n
      → those test (walk slots by_key n) ≡ those test (walk slots by_key i) ++ those test (walk_from slots by_key i n)
  walked_split i n h =
      ap (those test) (walk_split slots by_key i n h) ∙ those_append test (walk slots by_key i) (walk_from slots by_key i n)
