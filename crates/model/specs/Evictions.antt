-- Demand 3 of every eviction from a cache: one, and several one after another.
use Rattle.std.specs.Prelude.{true, [], ◌∷◌, ◌++◌, ◌≡◌, ℕ, suc, ◌+◌, ◌*◌, ◌≤◌, ◌<◌, length}
use Rattle.model.specs.Row.{Entry, Row, Each, total}
use Rattle.model.specs.Demand.{MayGo, Stays, Victim}
use Rattle.model.specs.Cache.{Cache, held_in, with_row, with_estimate, page_may_go, count_out}
use Rattle.model.specs.Rooms.{Room}
use Rattle.model.specs.Rooms as rooms

-- ── one eviction ─────────────────────────────────────────────────────────────
-- the same page; it has lost exactly r uses if it may go, and none if not
pub record Loses (r : ℕ) (e e' : Entry) : Type 0 where
  pub page : e'.page ≡ e.page
  pub falls : MayGo page_may_go e → e'.uses + r ≡ e.uses
  pub keeps : Stays page_may_go e → e'.uses ≡ e.uses

-- each entry of a row has lost r uses so, and the order is the same
abbrev pub EachLoses : ℕ → Row → Row → Type 0
EachLoses r [] [] = Unit {0}
EachLoses r [] (e' ∷ es') = ⊥
EachLoses r (e ∷ es) [] = ⊥
EachLoses r (e ∷ es) (e' ∷ es') = Loses r e e' × EachLoses r es es'

-- the page v, whose handle is `gone`, is evicted from the cache c of n = `held_in c` pages, which leaves the cache c'; `passed` pages were
-- passed
pub record OneGoes (c : Cache) (gone passed : ℕ) (c' : Cache) : Type 0 where
  -- the row from the hand: the pages that the sweep meets before v, v, the others
  pub met : Row
  pub v : Entry
  pub others : Row
  pub parts : c.row ≡ met ++ v ∷ others
  -- of those that may go, v has the lowest use count, and is the first from the hand among equals
  pub victim : Victim page_may_go met v others
  pub handle : gone ≡ v.page.handle
  -- with count r and distance d from the hand, r * n + d pages are passed, under 4n
  pub distance : passed ≡ v.uses * held_in c + length met
  pub under : passed < 4 * held_in c
  -- the hand rests just after v
  pub others' : Row
  pub met' : Row
  pub row : c'.row ≡ others' ++ met'
  -- every other page that may go loses r uses, or r + 1 if met before v; the rest lose none
  pub others_lose : EachLoses v.uses others others'
  pub met_lose : EachLoses (suc v.uses) met met'
  -- v is out of the estimate, and nothing else of the cache changes
  pub cache : c' ≡ with_estimate (count_out v.page c.estimate) (with_row c'.row c)

-- Full: none may go, and 4n were passed
pub record NoneGoes (c : Cache) (passed : ℕ) : Type 0 where
  pub stay : Each (Stays page_may_go) c.row
  pub rounds : passed ≡ 4 * held_in c

-- ── evictions, one after another ─────────────────────────────────────────────
-- evictions from c while more than `target` pages are held. The uses that fall in one eviction are the row's total before it minus the
-- total after it: the page that goes has no use left by then
pub data EvictsTo (target : ℕ) : Cache → Room → Type 0 where
  -- no more are held: done
  enough : {c : Cache} → held_in c ≤ target → EvictsTo target c (rooms.enough c)
  -- Full is the end, and changes nothing
  full : {c : Cache} {passed : ℕ} → target < held_in c → NoneGoes c passed
      → EvictsTo target c (record { full = true; passed = passed; falls = 0; gone = []; cache = c })
  -- a page goes, and the other evictions follow
  takes : {c c' : Cache} {rest : Room} {gone passed : ℕ} → target < held_in c → OneGoes c gone passed c' → (fell : ℕ)
      → fell + total c'.row ≡ total c.row → EvictsTo target c' rest
      → EvictsTo target c (record {
        full = rest.full;
        passed = passed + rest.passed;
        falls = fell + rest.falls;
        gone = gone ∷ rest.gone;
        cache = rest.cache;
      })
