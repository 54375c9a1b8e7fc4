-- What a write to one slot leaves of all that is no link. Linking, unlinking and storing change the links of the slot and of
-- its neighbours; links apart, each of them writes one entry to one slot, so one law serves all three.
use mathlib.Core.Path.{◌≡◌, refl, sym, ap, ◌∙◌}
use mathlib.Core.List.{List, [], ◌∷◌, ◌++◌, map}
use Prim.Native.Nat.{ℕ, ◌<◌}
use lib.ListN.{length, get_or, set, length-map}
use lib.Seq.{get_or-set_same, get_or-set_other}
use Rattle.page.specs.declared.entry.PageCacheEntry.{PageCacheEntry}
use Rattle.pool.specs.Slots.{blank}
use Rattle.ring_links.specs.Ring.{Out}
use Rattle.ring_links.specs.Links.{with_links, linked_first, linked_after, unlinked}
use Rattle.ring_links.proofs.Columns.{Linkless, map_set, column_at, column_first, column_after, column_unlinked}
use Rattle.sorted_index.specs.Names.{name_of, names}
use Rattle.sorted_index.specs.declared.search.By.{By}
use Rattle.sorted_index.specs.declared.search.By.TheVariants.{Key, Handle}
use Rattle.model.specs.Row.{Entry, Row}
use Rattle.memory.specs.Holds.{seen, row_of}

-- an entry without its links
abbrev pub bare : PageCacheEntry → PageCacheEntry
bare e = with_links e 0 0

-- links apart, e is written to the slot s, and nothing else is
pub record Written (es : List PageCacheEntry) (s : ℕ) (e : PageCacheEntry) (es' : List PageCacheEntry) : Type 0 where
  pub bared : map bare es' ≡ set (map bare es) s (bare e)

-- ── what writes ──────────────────────────────────────────────────────────────
linkless : Linkless bare
linkless = record { blind = λ e next prev. refl }

pub written_store : (es : List PageCacheEntry) (s : ℕ) (e : PageCacheEntry) → Written es s e (set es s e)
written_store es s e = record { bared = map_set bare es s e }

pub written_first : (es : List PageCacheEntry) (s : ℕ) (e : PageCacheEntry) → Written es s e (linked_first es s e)
written_first es s e = record { bared = column_first es s e bare linkless }

pub written_after : (es : List PageCacheEntry) (hand s : ℕ) (e : PageCacheEntry) → Written es s e (linked_after es hand s e)
written_after es hand s e = record { bared = column_after es hand s e bare linkless }

pub written_unlinked : (es : List PageCacheEntry) (s : ℕ) → Written es s blank (unlinked es s)
written_unlinked es s = record { bared = column_unlinked es s bare linkless }

-- ── what is read after it ────────────────────────────────────────────────────
bare_map : (f : PageCacheEntry → ℕ) → ((x : PageCacheEntry) → f (bare x) ≡ f x) → (es : List PageCacheEntry) → map f (map bare es) ≡ map f es
bare_map f blind [] = refl
bare_map f blind (x ∷ es) = λ i. blind x i ∷ bare_map f blind es i

module _ {es : List PageCacheEntry} {s : ℕ} {e : PageCacheEntry} {es' : List PageCacheEntry} (w : Written es s e es') where
  -- the slot has the entry
  pub bare_here : s < length es → bare (get_or es' s blank) ≡ bare e
  bare_here inside =
      sym (column_at bare es' s) ∙ ap (λ (l : List PageCacheEntry). get_or l s (bare blank)) w.bared
      ∙ get_or-set_same (map bare es) s (bare e) (bare blank) (simp length-map inside)

  -- every other slot has what it had
  pub bare_else : (k : ℕ) → (k ≡ s → ⊥) → bare (get_or es' k blank) ≡ bare (get_or es k blank)
  bare_else k other =
      sym (column_at bare es' k) ∙ ap (λ (l : List PageCacheEntry). get_or l k (bare blank)) w.bared
      ∙ get_or-set_other (map bare es) s k (bare e) (bare blank) other ∙ column_at bare es k

  numbers_written : (f : PageCacheEntry → ℕ) → ((x : PageCacheEntry) → f (bare x) ≡ f x) → map f es' ≡ set (map f es) s (f e)
  numbers_written f blind =
      sym (bare_map f blind es') ∙ ap (map f) w.bared ∙ map_set f (map bare es) s (bare e)
      ∙ (λ i. set (bare_map f blind es i) s (blind e i))

  -- the slot's name is the entry's
  pub names_written : (by : By) → names by es' ≡ set (names by es) s (name_of by e)
  names_written Key = numbers_written (name_of Key) (λ x. refl)
  names_written Handle = numbers_written (name_of Handle) (λ x. refl)

  -- a row without the slot is the row that it was
  pub row_else : (seats : List ℕ) → Out s seats → row_of es' seats ≡ row_of es seats
  row_else [] out = refl
  row_else (k ∷ seats) out =
      let here : seen k (get_or es' k blank) ≡ seen k (get_or es k blank) = ap {B = Entry} (seen k) (bare_else k (λ q. out.0 (sym q))) in
      λ i. here i ∷ row_else seats out.1 i

pub row_append : (es : List PageCacheEntry) (xs ys : List ℕ) → row_of es (xs ++ ys) ≡ row_of es xs ++ row_of es ys
row_append es [] ys = refl
row_append es (x ∷ xs) ys = ap {B = Row} (λ row. seen x (get_or es x blank) ∷ row) (row_append es xs ys)
