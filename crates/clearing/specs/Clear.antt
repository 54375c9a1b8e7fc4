-- The removal of all pages (01, rule 11).
use Rattle.std.specs.Prelude.{◌≡◌, Bool, true, false, List, [], ◌∷◌, map, ℕ, ◌≤◌, length, Option, None, Some}
use Rattle.page.specs.Record.{dirty}
use Rattle.pool.specs.Slots.{entries}
use Rattle.sorted_index.specs.Index.{Index}
use Rattle.sorted_index.specs.Names.{names}
use Rattle.sorted_index.specs.declared.search.By.TheVariants.{Key}
use Rattle.model.specs.Row.{Page, Row, those}
use Rattle.page.specs.declared.names.PageCacheKey.{PageCacheKey}

abbrev pub handles_of : Row → List ℕ
handles_of row = map (λ e. e.page.handle) row

-- the pages that hinder it: the dirty ones, unless they are to go too
abbrev pub hindering : Bool → Row → List Page
hindering true row = []
hindering false row = those (λ p. dirty p.state) row

-- the first of the pages has the key
pub record First (pages : List Page) (key : ℕ) : Type 0 where
  pub page : Page
  pub rest : List Page
  pub parts : pages ≡ page ∷ rest
  pub named : key ≡ page.key

-- it is the key of the first of the pages, if there is one
abbrev pub FirstIs : List Page → Option PageCacheKey → Type 0
FirstIs pages None = pages ≡ []
FirstIs pages (Some key) = First pages key.0

-- an index of n slots, and a list with a place for each
pub record CanListAll (slots by_key list : List ℕ) (n : ℕ) : Type 0 where
  pub index : Index (names Key (entries slots)) by_key n
  pub long : n ≤ length list
