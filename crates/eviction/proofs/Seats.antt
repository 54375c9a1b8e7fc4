-- The seats after a page was passed: its use count alone was written, and the ring begins one seat further on. So neither
-- names nor links have changed, and its entry, lowered, stands behind the rest of the row.
use mathlib.Core.Path.{◌≡◌, refl}
use mathlib.Core.List.{List, [], ◌∷◌, ◌++◌}
use Prim.Native.Nat.{ℕ, ◌<◌}
use lib.ListN.{length, get_or, set, length-map}
use lib.Seq.{get_or-set_same}
use Rattle.page.specs.Entry.{with_uses}
use Rattle.page.specs.declared.entry.PageCacheEntry.{PageCacheEntry}
use Rattle.page.proofs.Each.{each_turn}
use Rattle.pool.specs.Slots.{blank}
use Rattle.ring_links.proofs.Columns.{kept}
use Rattle.ring_links.proofs.Rings.{turn}
use Rattle.sorted_index.specs.Names.{names}
use Rattle.sorted_index.specs.declared.search.By.{By}
use Rattle.sorted_index.specs.declared.search.By.TheVariants.{Key, Handle}
use Rattle.sorted_index.proofs.Membership.{has_here}
use Rattle.model.specs.Cache.{page_may_go}
use Rattle.model.specs.Sweep.{lower}
use Rattle.memory.specs.Holds.{Seated, row_of}
use Rattle.memory.proofs.Columns.{written_store, row_else, row_append}
use Rattle.memory.proofs.Seats.{seated_store}
use Rattle.eviction.specs.Sweep.{seen_at}

pub seat_inside : {es : List PageCacheEntry} {s : ℕ} {rest : List ℕ} → Seated es (s ∷ rest) → s < length es
seat_inside g = simp length-map at g.ring.inside.0

-- the ring begins one seat further on
pub seated_turn : {es : List PageCacheEntry} {s : ℕ} {rest : List ℕ} → Seated es (s ∷ rest) → Seated es (rest ++ s ∷ [])
seated_turn {es} {s} {rest} g = record {
  ring = turn g.ring;
  vacant = λ k o. g.vacant k (each_turn _ rest (s ∷ []) o);
  spare = g.spare;
}

-- ── a use count is written ───────────────────────────────────────────────────
module _ (es : List PageCacheEntry) (s uses : ℕ) where
  abbrev used : List PageCacheEntry
  used = set es s (with_uses (get_or es s blank) uses)

  pub names_used : (by : By) → names by used ≡ names by es
  names_used Key = kept (λ e. e.key.0) es s refl
  names_used Handle = kept (λ e. e.handle.0) es s refl

  pub seated_used : {rest : List ℕ} → Seated es (s ∷ rest) → Seated used (s ∷ rest)
  seated_used {rest} g =
      seated_store es s (with_uses (get_or es s blank) uses) (seat_inside g) (has_here s rest) refl refl (g.spare s) g

-- ── a page is passed ─────────────────────────────────────────────────────────
pub row_passed : (es : List PageCacheEntry) (s : ℕ) (rest : List ℕ) → Seated es (s ∷ rest)
    → row_of (used es s (lower page_may_go 1 (seen_at es s)).uses) (rest ++ s ∷ []) ≡ row_of es rest ++ lower page_may_go 1 (seen_at es s) ∷ []
unfolding lower
row_passed es s rest g =
    let e : PageCacheEntry = with_uses (get_or es s blank) (lower page_may_go 1 (seen_at es s)).uses in
    rw (
      row_append (set es s e) rest (s ∷ []),
      row_else (written_store es s e) rest g.ring.apart.0,
      get_or-set_same es s e blank (seat_inside g),
    )
