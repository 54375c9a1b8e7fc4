-- A column of the entries after a store: a store changes one place of each column, and keeps every column that does not
-- read what it changed. So the links change as the laws of rings have it, and all else only where an entry comes or
-- goes.
use mathlib.Core.Path.{◌≡◌, refl, ap, ◌∙◌}
use mathlib.Core.List.{List, [], ◌∷◌, ◌++◌, map}
use Prim.Native.Nat.{ℕ, zero, suc, ◌<◌}
use lib.ListN.{length, get_or, set, length-set, length-map, get_or-map}
use lib.Seq.{map-set_same}
use Rattle.page.specs.declared.entry.PageCacheEntry.{PageCacheEntry}
use Rattle.pool.specs.Slots.{blank}
use Rattle.ring_links.specs.Ring.{Out}
use Rattle.ring_links.specs.Links.{nexts, prevs, RingOf, next_at, prev_at, with_links, set_next, set_prev, linked_first, linked_after, unlinked, Linkable, Unlinkable}
use Rattle.ring_links.proofs.Rings as rings

-- ── one store ────────────────────────────────────────────────────────────────
pub map_set : {A B : Type 0} (f : A → B) (l : List A) (k : ℕ) (v : A) → map f (set l k v) ≡ set (map f l) k (f v)
map_set f [] k v = refl
map_set f (x ∷ l) zero v = refl
map_set {A} {B} f (x ∷ l) (suc k) v = ap {B = List B} (λ r. f x ∷ r) (map_set f l k v)

-- a store that keeps what f reads keeps the column of f
pub kept : {B : Type 0} (f : PageCacheEntry → B) (es : List PageCacheEntry) (k : ℕ) {v : PageCacheEntry} → f v ≡ f (get_or es k blank) → map f (set es k v) ≡ map f es
kept f es k {v} e = map-set_same f es k v blank e

-- what a column has at a slot
pub column_at : {B : Type 0} (f : PageCacheEntry → B) (es : List PageCacheEntry) (k : ℕ) → get_or (map f es) k (f blank) ≡ f (get_or es k blank)
column_at f es k = get_or-map f es k blank

pub next_at_lem : (es : List PageCacheEntry) (k : ℕ) → get_or (nexts es) k 0 ≡ next_at es k
unfolding blank
next_at_lem es k = column_at (λ (e : PageCacheEntry). e.next.0) es k

pub prev_at_lem : (es : List PageCacheEntry) (k : ℕ) → get_or (prevs es) k 0 ≡ prev_at es k
unfolding blank
prev_at_lem es k = column_at (λ (e : PageCacheEntry). e.prev.0) es k

-- ── one link ─────────────────────────────────────────────────────────────────
-- f does not read the links
pub record Linkless {B : Type 0} (f : PageCacheEntry → B) : Type 0 where
  pub blind : (e : PageCacheEntry) (next prev : ℕ) → f (with_links e next prev) ≡ f e

module _ (es : List PageCacheEntry) (k to : ℕ) where
  pub length_next : length (set_next es k to) ≡ length es
  unfolding set_next
  length_next = length-set es k _

  pub length_prev : length (set_prev es k to) ≡ length es
  unfolding set_prev
  length_prev = length-set es k _

  nexts_next : nexts (set_next es k to) ≡ set (nexts es) k to
  unfolding set_next
  nexts_next = map_set (λ e. e.next.0) es k _

  prevs_next : prevs (set_next es k to) ≡ prevs es
  unfolding set_next
  prevs_next = kept (λ e. e.prev.0) es k refl

  nexts_prev : nexts (set_prev es k to) ≡ nexts es
  unfolding set_prev
  nexts_prev = kept (λ e. e.next.0) es k refl

  prevs_prev : prevs (set_prev es k to) ≡ set (prevs es) k to
  unfolding set_prev
  prevs_prev = map_set (λ e. e.prev.0) es k _

  module _ {B : Type 0} (f : PageCacheEntry → B) (l : Linkless f) where
    column_next : map f (set_next es k to) ≡ map f es
    unfolding set_next
    column_next = kept f es k (l.blind _ _ _)

    column_prev : map f (set_prev es k to) ≡ map f es
    unfolding set_prev
    column_prev = kept f es k (l.blind _ _ _)

-- ── a first slot ─────────────────────────────────────────────────────────────
module _ (es : List PageCacheEntry) (s : ℕ) (e : PageCacheEntry) where
  pub column_first : {B : Type 0} (f : PageCacheEntry → B) → Linkless f → map f (linked_first es s e) ≡ set (map f es) s (f e)
  unfolding linked_first
  column_first f l = map_set f es s _ ∙ ap (set (map f es) s) (l.blind e s s)

  pub ring_first : s < length es → RingOf es [] → RingOf (linked_first es s e) (s ∷ [])
  unfolding linked_first
  ring_first inside g =
      rw (map_set (λ (x : PageCacheEntry). x.next.0) es s (with_links e s s), map_set (λ (x : PageCacheEntry). x.prev.0) es s (with_links e s s))
      (rings.link_first (nexts es) (prevs es) s (simp length-map inside) g)

-- ── a slot after the hand ────────────────────────────────────────────────────
module _ (es : List PageCacheEntry) (h s : ℕ) (e : PageCacheEntry) where
  pub column_after : {B : Type 0} (f : PageCacheEntry → B) → Linkless f → map f (linked_after es h s e) ≡ set (map f es) s (f e)
  unfolding linked_after
  column_after f l = column_prev _ _ _ f l ∙ column_next _ _ _ f l ∙ map_set f es s _ ∙ ap (set (map f es) s) (l.blind e (next_at es h) h)

  nexts_after : nexts (linked_after es h s e) ≡ set (set (nexts es) s (get_or (nexts es) h 0)) h s
  unfolding linked_after
  nexts_after = rw (nexts_prev, nexts_next, map_set, next_at_lem es h)

  prevs_after : prevs (linked_after es h s e) ≡ set (set (prevs es) s h) (get_or (nexts es) h 0) s
  unfolding linked_after
  prevs_after = rw (prevs_prev, prevs_next, map_set, next_at_lem es h)

  pub ring_after : (row : List ℕ) → s < length es → RingOf es (h ∷ row) → Out s (h ∷ row) → RingOf (linked_after es h s e) (h ∷ s ∷ row)
  ring_after row inside g o = rw (nexts_after, prevs_after) (rings.link_after (nexts es) (prevs es) h s row (simp length-map inside) g o)

-- what linking asks holds in a ring that begins at the hand
pub linkable : {es : List PageCacheEntry} {h s : ℕ} {row : List ℕ} → RingOf es (h ∷ row) → s < length es → Linkable es h s
linkable {es} {h} g inside = record {
  slot = inside;
  hand = simp length-map at g.inside.0;
  after = simp (length-map, next_at_lem) at (rings.next_inside g);
}

-- ── a slot taken out ─────────────────────────────────────────────────────────
module _ (es : List PageCacheEntry) (s : ℕ) where
  pub column_unlinked : {B : Type 0} (f : PageCacheEntry → B) → Linkless f → map f (unlinked es s) ≡ set (map f es) s (f blank)
  unfolding unlinked
  column_unlinked f l =
      map_set f (set_prev (set_next es (prev_at es s) (next_at es s)) (next_at es s) (prev_at es s)) s blank
      ∙ ap (λ r. set r s (f blank))
      (column_prev (set_next es (prev_at es s) (next_at es s)) (next_at es s) (prev_at es s) f l ∙ column_next es (prev_at es s) (next_at es s) f l)

  nexts_unlinked : nexts (unlinked es s) ≡ set (set (nexts es) (get_or (prevs es) s 0) (get_or (nexts es) s 0)) s 0
  unfolding unlinked blank
  nexts_unlinked = rw (map_set, nexts_prev, nexts_next, prev_at_lem es s, next_at_lem es s)

  prevs_unlinked : prevs (unlinked es s) ≡ set (set (prevs es) (get_or (nexts es) s 0) (get_or (prevs es) s 0)) s 0
  unfolding unlinked blank
  prevs_unlinked = rw (map_set, prevs_prev, prevs_next, prev_at_lem es s, next_at_lem es s)

  pub ring_unlinked : (before after : List ℕ) → RingOf es (before ++ s ∷ after) → RingOf (unlinked es s) (before ++ after)
  ring_unlinked before after g = rw (nexts_unlinked, prevs_unlinked) (rings.unlink (nexts es) (prevs es) s before after g)

-- what unlinking asks holds at any slot of a ring
pub unlinkable : {es : List PageCacheEntry} {s : ℕ} (before after : List ℕ) → RingOf es (before ++ s ∷ after) → Unlinkable es s
unlinkable {es} {s} before after g =
    let front : RingOf es (s ∷ after ++ before) = rings.turns before (s ∷ after) g in
    record {
      slot = simp length-map at front.inside.0;
      before = simp (length-map, prev_at_lem) at (rings.prev_inside front);
      after = simp (length-map, next_at_lem) at (rings.next_inside front);
    }
