-- What is known of a call that passed the tests.
use mathlib.Core.Bool.{Bool, true, false, cond, not, ◌&&◌, true≢false, false≢true}
use mathlib.Core.List.{[], ◌∷◌}
use mathlib.Core.Path.{◌≡◌, refl, sym}
use Prim.Native.Nat.{ℕ}
use native.Mathlib.Omega.{arith}
use lib.Dec.{eqb}
use borrow.Author.Tests.{eqb-true, eq-eqb}
use Rattle.model.specs.Row.{Entry, Row, Each}
use Rattle.model.specs.Cache.{Cache}
use Rattle.model.specs.Call.{Call}
use Rattle.model.specs.Tests.{asks, too_large, bad_record, short_list, under_other, handle_elsewhere, refusal}
use Rattle.model.proofs.KeptCases.{either}

-- none of the four tests refuses: `refl` answers for a test that the call doesn't have
pub record Passes (call : Call) (c : Cache) : Type 0 where
  pub capacity : too_large (asks call).capacity c ≡ false
  pub state : bad_record (asks call).state ≡ false
  pub places : short_list (asks call).places c ≡ false
  pub naming : handle_elsewhere (asks call).naming c ≡ false

all_four : (a b c d : Bool) → ◌≡◌ {A = ℕ} (cond a 15 (cond b 2 (cond c 3 (cond d 12 0)))) 0
    → (a ≡ false) × (b ≡ false) × (c ≡ false) × (d ≡ false)
all_four true b c d h = absurd (omega arith)
all_four false true c d h = absurd (omega arith)
all_four false false true d h = absurd (omega arith)
all_four false false false true h = absurd (omega arith)
all_four false false false false h = (refl, refl, refl, refl)

pub passes : (call : Call) (c : Cache) → refusal call c ≡ 0 → Passes call c
unfolding refusal
passes call c h =
    let large : Bool = too_large (asks call).capacity c in
    let bad : Bool = bad_record (asks call).state in
    let short : Bool = short_list (asks call).places c in
    let elsewhere : Bool = handle_elsewhere (asks call).naming c in
    let all = all_four large bad short elsewhere h in
    record { capacity = all.0; state = all.1; places = all.2; naming = all.3 }

-- ── code 12 ──────────────────────────────────────────────────────────────────
implied : (a b : Bool) → a && not b ≡ false → a ≡ true → b ≡ true
implied true true q t = refl
implied true false q t = absurd (true≢false q)
implied false b q t = absurd (false≢true t)

module _ (key handle : ℕ) where
  -- if the handle is the entry's, so is the key
  abbrev pub Under : Entry → Type 0
  Under e = handle ≡ e.page.handle → key ≡ e.page.key

  under : (e : Entry) → eqb e.page.handle handle && not (eqb e.page.key key) ≡ false → Under e
  under e q same = sym (eqb-true e.page.key key
      (implied (eqb e.page.handle handle) (eqb e.page.key key) q (eq-eqb e.page.handle handle (sym same))))

  -- the handle stands under no other key
  pub each_under : (row : Row) → under_other key handle row ≡ false → Each Under row
  unfolding under_other
  each_under [] h = tt
  each_under (e ∷ es) h = either (λ (b : Bool). b ≡ false → Each Under (e ∷ es))
      (eqb e.page.handle handle && not (eqb e.page.key key))
      (λ _ g. absurd (true≢false g)) (λ q g. (under e q, each_under es g)) h
