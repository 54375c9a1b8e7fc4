-- The pages that a cache holds, in sweep order: a row, the list of entries that begins at the hand.
use Rattle.std.specs.Prelude.{Bool, true, false, List, [], ◌∷◌, ℕ, ◌+◌, eqb, ltb}
use Rattle.std.proofs.Math.Option.{Option, none, some}
use Rattle.page.specs.All.{All}
use Rattle.page.specs.declared.record.PageRecord.{PageRecord}

-- all of a held page but its use count
pub record Page : Type 0 where
  pub slot : ℕ
  pub key : ℕ
  pub handle : ℕ
  pub state : PageRecord

pub record Entry : Type 0 where
  pub page : Page
  pub uses : ℕ

abbrev pub Row : Type 0
Row = List Entry

-- P holds of every entry of the row
abbrev pub Each : (Entry → Type 0) → Row → Type 0
Each P row = All P row

-- the sum of its use counts
unfoldable pub total : Row → ℕ
total [] = 0
total (e ∷ es) = e.uses + total es

-- ── by key ───────────────────────────────────────────────────────────────────
abbrev pub keyed : ℕ → Entry → Bool
keyed key e = eqb e.page.key key

-- the entry with the key, if there is one
unfoldable pub find : ℕ → Row → Option Entry
find key [] = none
find key (e ∷ es) = elim (keyed key e) [ true ↦ some e | false ↦ find key es ]

-- the row with that entry changed
unfoldable pub change : ℕ → (Entry → Entry) → Row → Row
change key f [] = []
change key f (e ∷ es) = elim (keyed key e) [ true ↦ f e ∷ es | false ↦ e ∷ change key f es ]

-- the row without that entry: if it was the hand's, the next one is the hand's now (rule 4)
unfoldable pub without : ℕ → Row → Row
without key [] = []
without key (e ∷ es) = elim (keyed key e) [ true ↦ es | false ↦ e ∷ without key es ]

-- ── the order of every walk over keys: ascending ─────────────────────────────
unfoldable pub sort_in : Entry → Row → Row
sort_in e [] = e ∷ []
sort_in e (x ∷ xs) = elim (ltb e.page.key x.page.key) [ true ↦ e ∷ x ∷ xs | false ↦ x ∷ sort_in e xs ]

unfoldable pub sorted_by_key : Row → Row
sorted_by_key [] = []
sorted_by_key (e ∷ es) = sort_in e (sorted_by_key es)

-- the pages of the row that pass the test, in the row's order
unfoldable pub those : (Page → Bool) → Row → List Page
those test [] = []
those test (e ∷ es) = elim (test e.page) [ true ↦ e.page ∷ those test es | false ↦ those test es ]
