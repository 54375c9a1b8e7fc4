-- Demand 3: the result of one eviction, in one statement instead of look by look.
use Rattle.std.specs.Prelude.{Bool, true, false, ◌∷◌, ◌++◌, map, ◌≡◌, suc, ◌+◌, ◌*◌, ◌≤◌, ◌<◌, length}
use Rattle.std.proofs.Math.Option.{none, some}
use Rattle.page.specs.Entry.{ref_max}
use Rattle.model.specs.Row.{Page, Entry, Row, Each}
use Rattle.model.specs.Sweep.{Swept, lower}

-- use counts are 0 to 3
abbrev pub Limited : Entry → Type 0
Limited e = e.uses ≤ ref_max

module _ (may : Page → Bool) where
  abbrev pub MayGo : Entry → Type 0
  MayGo e = may e.page ≡ true

  abbrev pub Stays : Entry → Type 0
  Stays e = may e.page ≡ false

  -- of the entries of the row `before ++ v ∷ after` that may go, v has the lowest use count, and is the first from the
  -- hand among equals
  pub record Victim (before : Row) (v : Entry) (after : Row) : Type 0 where
    pub goes : MayGo v
    pub first : Each (λ e. MayGo e → v.uses < e.uses) before
    pub lowest : Each (λ e. MayGo e → v.uses ≤ e.uses) after

  -- with count r and distance d from the hand it reports r * n + d pages passed. Every other page that may go loses r
  -- uses, or r + 1 if met before the victim; the rest lose none. The hand rests just after the victim
  unfoldable pub taken : Row → Entry → Row → Swept
  taken before v after = record {
    victim = some v.page;
    passed = v.uses * length (before ++ v ∷ after) + length before;
    row = map (lower may v.uses) after ++ map (lower may (suc v.uses)) before;
  }

  -- Full changes nothing
  unfoldable pub refused : Row → Swept
  refused row = record { victim = none; passed = suc ref_max * length row; row = row }

  -- one eviction answers Full if none may go, and otherwise takes the victim
  pub data Evicts (row : Row) (s : Swept) : Type 0 where
    full : Each Stays row → s ≡ refused row → Evicts row s
    takes : (before : Row) (v : Entry) (after : Row) → row ≡ before ++ v ∷ after → Victim before v after → s ≡ taken before v after → Evicts row s
