-- The pages that next links lead to from a slot: they are those of the row that stands there, and the row of a cache stands
-- in the slots from its hand on.
use mathlib.Core.Path.{◌≡◌, refl, sym, ◌∙◌, subst}
use mathlib.Core.List.{List, [], ◌∷◌}
use Prim.Native.Nat.{ℕ, zero, suc, ◌<◌}
use lib.ListN.{length, length-map}
use Rattle.page.specs.declared.cache.PageCache.{PageCache}
use Rattle.page.specs.declared.entry.PageCacheEntry.{PageCacheEntry}
use Rattle.pool.specs.Slots.{entries}
use Rattle.ring_links.specs.Ring.{Below, Way, first_of}
use Rattle.ring_links.specs.Links.{RingOf, nexts, prevs, next_at}
use Rattle.ring_links.proofs.Columns.{next_at_lem}
use Rattle.model.specs.Cache.{Cache}
use Rattle.model.specs.Row.{Row}
use Rattle.memory.specs.Memory.{Memory}
use Rattle.memory.specs.Holds.{row_of, Holds}
use Rattle.listing.specs.declared.listed.ListedPage.{ListedPage}
use Rattle.listing.specs.Listing.{page_of, pages_of, ring_page_at, Stands}

-- ── from a slot ──────────────────────────────────────────────────────────────
-- the pages at k slots, from slot s on
unfoldable pub pages_from : List PageCacheEntry → ℕ → ℕ → List ListedPage
pages_from es s zero = []
pages_from es s (suc k) = (ring_page_at es s).page ∷ pages_from es (next_at es s) k

-- those slots are there
abbrev pub Inside : List PageCacheEntry → ℕ → ℕ → Type 0
Inside es s zero = Unit
Inside es s (suc k) = (s < length es) × Inside es (next_at es s) k

pub stands_pages : (es : List PageCacheEntry) (s : ℕ) (row : Row) → Stands es s row → pages_of row ≡ pages_from es s (length row)
unfolding pages_from
stands_pages es s [] w = refl
stands_pages es s (e ∷ row) w = λ i. page_of (w.1.0 i) ∷ stands_pages es (next_at es s) row w.1.1 i

pub stands_inside : (es : List PageCacheEntry) (s : ℕ) (row : Row) → Stands es s row → Inside es s (length row)
stands_inside es s [] w = tt
stands_inside es s (e ∷ row) w = (w.0, stands_inside es (next_at es s) row w.1.1)

-- ── in a ring ────────────────────────────────────────────────────────────────
module _ (es : List PageCacheEntry) where
  stands_way : (a z : ℕ) (r : List ℕ) → Below (length es) (a ∷ r) → Way (nexts es) (prevs es) a r z → Stands es a (row_of es (a ∷ r))
  stands_way a z [] b w = (b.0, (refl, tt))
  stands_way a z (x ∷ r) b w =
      let q : x ≡ next_at es a = sym w.0.0 ∙ next_at_lem es a in
      (b.0, (refl, subst (λ (s : ℕ). Stands es s (row_of es (x ∷ r))) q (stands_way x z r b.1 w.1)))

  stands_ring : (seats : List ℕ) → RingOf es seats → Stands es (first_of seats) (row_of es seats)
  stands_ring [] g = tt
  stands_ring (a ∷ r) g = stands_way a a r (subst (λ (n : ℕ). Below n (a ∷ r)) (length-map es _) g.inside) g.round

module _ {m : Memory} {head : PageCache} {c : Cache} (g : Holds m head c) where
  pub row_stands : Stands (entries m.slots) head.hand.0 c.row
  row_stands = rw (g.row, g.headed.hand) (stands_ring (entries m.slots) g.seats g.seated.ring)
