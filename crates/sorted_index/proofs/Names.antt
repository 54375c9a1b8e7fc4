-- The columns of names: a name is read off its slot's entry, so a store to a slot changes that slot's name alone, and links
-- change none.
use mathlib.Core.Path.{◌≡◌, refl, sym}
use mathlib.Core.List.{List}
use Prim.Native.Nat.{ℕ, ◌<◌}
use lib.ListN.{length, get_or, set, length-map}
use Rattle.page.specs.declared.entry.PageCacheEntry.{PageCacheEntry}
use Rattle.pool.specs.Slots.{blank}
use Rattle.ring_links.specs.Links.{unlinked}
use Rattle.ring_links.proofs.Columns.{kept, column_at, Linkless, column_unlinked}
use Rattle.sorted_index.specs.declared.search.By.{By}
use Rattle.sorted_index.specs.declared.search.By.TheVariants.{Key, Handle}
use Rattle.sorted_index.specs.Index.{Index}
use Rattle.sorted_index.specs.Names.{name_of, names}
use Rattle.sorted_index.proofs.Ascending.{ascending}

-- ── reading ──────────────────────────────────────────────────────────────────
pub names_length : (by : By) (es : List PageCacheEntry) → length (names by es) ≡ length es
names_length by es = length-map es (name_of by)

-- a slot that is not there has the name of a blank one
name_blank : (by : By) → name_of by blank ≡ 0
unfolding blank
name_blank Key = refl
name_blank Handle = refl

pub name_at_lem : (by : By) (es : List PageCacheEntry) (s : ℕ) → get_or (names by es) s 0 ≡ name_of by (get_or es s blank)
name_at_lem by es s = rw (← (name_blank by)) (column_at (name_of by) es s)

-- the name of an entry that was loaded
pub name_read : (es : List PageCacheEntry) (s : ℕ) {by by' : By} {e : PageCacheEntry} → by ≡ by' → e ≡ get_or es s blank
    → name_of by' e ≡ get_or (names by es) s 0
name_read es s {by} {by'} q l = rw (q, l) (sym (name_at_lem by' es s))

-- what stands at a place of an index is a slot
pub index_slot : (by : By) (es : List PageCacheEntry) {order : List ℕ} {n at : ℕ} → Index (names by es) order n → at < n
    → get_or order at 0 < length es
index_slot by es i h = simp length-map at ((ascending i).inside _ h)

-- ── writing ──────────────────────────────────────────────────────────────────
module _ (by : By) (es : List PageCacheEntry) (s : ℕ) (e : PageCacheEntry) where
  -- an entry of the same name is stored
  pub names_kept : name_of by e ≡ name_of by (get_or es s blank) → names by (set es s e) ≡ names by es
  names_kept q = kept (name_of by) es s q

-- ── linking ──────────────────────────────────────────────────────────────────
pub names_linkless : (by : By) → Linkless (name_of by)
names_linkless Key = record { blind = λ e next prev. refl }
names_linkless Handle = record { blind = λ e next prev. refl }

module _ (by : By) (es : List PageCacheEntry) where
  pub names_unlinked : (s : ℕ) → names by (unlinked es s) ≡ set (names by es) s (name_of by blank)
  names_unlinked s = column_unlinked es s (name_of by) (names_linkless by)
