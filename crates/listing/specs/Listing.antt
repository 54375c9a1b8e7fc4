-- The pool listing: the held pages in sweep order, each with its key, handle and use count (01, "The pool listing").
use Rattle.std.specs.Prelude.{◌≡◌, ℕ, suc, ◌+◌, ◌*◌, ◌≤◌, ◌<◌, length, get_or, drop}
use mathlib.Core.List.{List, [], ◌∷◌, ◌++◌, map, flat_map}
use Rattle.page.specs.declared.entry.PageCacheEntry.{PageCacheEntry}
use Rattle.ring_links.specs.Links.{next_at}
use Rattle.pool.specs.Slots.{blank, entries}
use Rattle.model.specs.Row.{Entry, Row}
use Rattle.memory.specs.Holds.{seen}
use Rattle.listing.specs.declared.listed.ListedPage.{ListedPage}
use Rattle.listing.specs.declared.listed.RingPage.{RingPage}

-- ── what is listed ───────────────────────────────────────────────────────────
-- of an entry: its page record, with key, handle and use count
abbrev pub page_of : Entry → ListedPage
page_of e = record { key = record { 0 = e.page.key }; handle = record { 0 = e.page.handle }; page = e.page.state; uses = e.uses }

-- of a row: its pages, in sweep order
abbrev pub pages_of : Row → List ListedPage
pages_of row = map page_of row

-- a page as eight numbers: key, handle, the five of the record, use count
abbrev pub numbers_of : ListedPage → List ℕ
numbers_of p = p.key.0 ∷ p.handle.0 ∷ p.page.flags ∷ p.page.pins ∷ p.page.holders ∷ p.page.cells ∷ p.page.frame ∷ p.uses ∷ []

-- the pages of a row as numbers, one page after another
abbrev pub listed : Row → List ℕ
listed row = flat_map numbers_of (pages_of row)

-- a form of the listing: what it writes for a row, and how many places n pages take
pub record Form (A : Type 0) : Type 0 where
  pub written : Row → List A
  pub places : ℕ → ℕ

abbrev pub in_numbers : Form ℕ
in_numbers = record { written = listed; places = λ n. 8 * n }

abbrev pub in_records : Form ListedPage
in_records = record { written = pages_of; places = λ n. n }

module _ {A : Type 0} (F : Form A) where
  -- the form shows pages one after another, `shown` for each, and each takes as many places as any other
  pub record Laid (shown : ListedPage → List A) : Type 0 where
    pub empty : F.written [] ≡ []
    pub next : (e : Entry) (row : Row) → F.written (e ∷ row) ≡ shown (page_of e) ++ F.written row
    pub none : F.places 0 ≡ 0
    pub more : (n : ℕ) (p : ListedPage) → F.places (suc n) ≡ F.places n + length (shown p)

  -- the list has places for n pages and no more
  pub record Room (list : List A) (n : ℕ) : Type 0 where
    pub enough : (k : ℕ) → k ≤ n → F.places k ≤ length list
    pub short : (k : ℕ) → n < k → length list < F.places k

-- ── where it stands ──────────────────────────────────────────────────────────
-- the page at slot s, and the slot after it
abbrev pub ring_page_at : List PageCacheEntry → ℕ → RingPage
ring_page_at es s = record { page = page_of (seen s (get_or es s blank)); next = (get_or es s blank).next }

-- the row stands in the slots from s on, by their next links
abbrev pub Stands : List PageCacheEntry → ℕ → Row → Type 0
Stands es s [] = Unit
Stands es s (e ∷ row) = (s < length es) × ((e ≡ seen s (get_or es s blank)) × Stands es (next_at es s) row)

-- ── contracts ────────────────────────────────────────────────────────────────
module _ {A : Type 0} (F : Form A) where
  -- a row of n pages stands in the slots from s on, and the list has places for it
  pub record CanListRow (slots : List ℕ) (s n : ℕ) (list : List A) : Type 0 where
    pub row : Row
    pub stands : Stands (entries slots) s row
    pub count : length row ≡ n
    pub room : F.places n ≤ length list

  -- the row is written to the first places of the list; places past it keep their values
  pub record RowWritten (row : Row) (before after : List A) : Type 0 where
    pub list : after ≡ F.written row ++ drop (F.places (length row)) before

  -- the row of n pages that stands in the slots from s on is listed
  abbrev pub WritesRow : (slots : List ℕ) (s n : ℕ) (before after : List A) → Type 0
  WritesRow slots s n before after = (row : Row) → Stands (entries slots) s row → length row ≡ n → RowWritten row before after
