-- A row has a victim, or none of its entries may go: walking the row from its end, an entry that may go and has no more uses
-- than the victim of the rest is the victim itself, and any other leaves it as it was.
use mathlib.Core.Bool.{Bool, true, false}
use mathlib.Core.List.{[], ◌∷◌, ◌++◌}
use mathlib.Core.Logic.{◌⊎◌, inl, inr}
use mathlib.Core.Path.{◌≡◌, refl, ap}
use Prim.Native.Nat.{ℕ, suc, ◌≤◌}
use native.Mathlib.Decide.{dec_le}
use native.Mathlib.Omega.{arith}
use Rattle.page.proofs.Each.{each_append}
use Rattle.model.specs.Row.{Page, Entry, Row, Each}
use Rattle.model.specs.Demand.{Stays, Victim}
use Rattle.model.proofs.Lowering.{AtLeast, fewer, stays_any, all_stay_any}

module _ (may : Page → Bool) where
  -- a row and its victim
  pub record Chosen (row : Row) : Type 0 where
    pub before : Row
    pub v : Entry
    pub after : Row
    pub parts : row ≡ before ++ v ∷ after
    pub is : Victim may before v after

  -- the first entry itself
  here : (e : Entry) (es : Row) → may e.page ≡ true → Each (AtLeast may e.uses) es → Chosen (e ∷ es)
  here e es g l = record { before = []; v = e; after = es; parts = refl; is = record { goes = g; first = tt; lowest = l } }

  -- the victim of the rest, which has fewer uses than the first entry, if that may go at all
  further : (e : Entry) (es : Row) (f : Chosen es) → AtLeast may (suc f.v.uses) e → Chosen (e ∷ es)
  further e es f h = record {
    before = e ∷ f.before;
    v = f.v;
    after = f.after;
    parts = ap {B = Row} (λ r. e ∷ r) f.parts;
    is = record { goes = f.is.goes; first = (h, f.is.first); lowest = f.is.lowest };
  }

  -- one of the two, by their use counts
  nearer : (e : Entry) (es : Row) → may e.page ≡ true → (f : Chosen es) → Dec (e.uses ≤ f.v.uses) → Chosen (e ∷ es)
  nearer e es g f (yes h) =
      let u : ℕ = e.uses in
      let nearer_ones : Each (AtLeast may u) f.before = fewer may u (suc f.v.uses) (omega arith) f.before f.is.first in
      let farther_ones : Each (AtLeast may u) f.after = fewer may u f.v.uses h f.after f.is.lowest in
      here e es g (rw f.parts (each_append (AtLeast may u) f.before (f.v ∷ f.after) nearer_ones (λ _. h, farther_ones)))
  nearer e es g f (no h) = further e es f (λ _. omega arith)

  pick : (e : Entry) (es : Row) (b : Bool) → may e.page ≡ b → Each (Stays may) es ⊎ Chosen es
      → Each (Stays may) (e ∷ es) ⊎ Chosen (e ∷ es)
  pick e es false q (inl t) = inl (q, t)
  pick e es false q (inr f) = inr (further e es f (stays_any may (suc f.v.uses) e q))
  pick e es true q (inl t) = inr (here e es q (all_stay_any may e.uses es t))
  pick e es true q (inr f) = inr (nearer e es q f (dec_le e.uses f.v.uses))

  -- none may go, or there is a victim
  pub choose : (row : Row) → Each (Stays may) row ⊎ Chosen row
  choose [] = inl tt
  choose (e ∷ es) = pick e es (may e.page) refl (choose es)
