-- Rules 2 and 3: a touch, a look at the hand, and a sweep, over any test of which pages may go.
use Rattle.std.specs.Prelude.{Bool, true, false, cond, ◌&&◌, [], ◌∷◌, ◌++◌, ℕ, zero, suc, ◌+◌, ◌*◌, ◌-◌, eqb, length}
use Rattle.std.proofs.Math.Option.{Option, none, some}
use Rattle.page.specs.Entry.{ref_max, raised}
use Rattle.model.specs.Row.{Page, Entry, Row}

-- rule 2: a touch raises the count by 1, at most to 3
abbrev pub touched : Entry → Entry
touched e = record { page = e.page; uses = raised e.uses }

-- what a sweep comes to: the page that it took, or none for Full; how many pages it passed; the row that it leaves
pub record Swept : Type 0 where
  pub victim : Option Page
  pub passed : ℕ
  pub row : Row

-- the same, after n pages more were passed
unfoldable pub pass : ℕ → Swept → Swept
pass n s = record { victim = s.victim; passed = n + s.passed; row = s.row }

module _ (may : Page → Bool) where
  -- an entry that may go loses r uses, and any other none
  unfoldable pub lower : ℕ → Entry → Entry
  lower r e = record { page = e.page; uses = cond (may e.page) (e.uses - r) e.uses }

  -- a page that may go with count 0 is removed
  unfoldable pub goes_now : Entry → Bool
  goes_now e = may e.page && eqb e.uses 0

  -- rule 3, k looks at most. A look at the hand: the page is removed and the hand moves on; otherwise it loses 1 if
  -- it may go, and either way the hand moves on and passed grows by 1
  unfoldable pub looks : ℕ → Row → Swept
  looks zero row = record { victim = none; passed = 0; row = row }
  looks (suc k) [] = record { victim = none; passed = 0; row = [] }
  looks (suc k) (e ∷ es) = elim (goes_now e) [
    | true ↦ record { victim = some e.page; passed = 0; row = es }
    | false ↦ pass 1 (looks k (es ++ lower 1 e ∷ []))
  ]

  -- after 4n passed: Full
  unfoldable pub sweep : Row → Swept
  sweep row = looks (suc ref_max * length row) row

  -- the uses that those looks take away, counted look by look
  unfoldable pub falls : ℕ → Row → ℕ
  falls zero row = 0
  falls (suc k) [] = 0
  falls (suc k) (e ∷ es) = elim (goes_now e) [
    | true ↦ 0
    | false ↦ (e.uses - (lower 1 e).uses) + falls k (es ++ lower 1 e ∷ [])
  ]

  unfoldable pub sweep_falls : Row → ℕ
  sweep_falls row = falls (suc ref_max * length row) row
