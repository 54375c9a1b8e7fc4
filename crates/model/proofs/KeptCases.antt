-- What holds after each branch of a test holds after the test: so a fact of an outcome is shown rule by rule, by the answers
-- that the rule can give.
use Rattle.std.specs.Prelude.{Ok, Err, Result}
use mathlib.Core.Bool.{Bool, true, false, cond}
use mathlib.Core.List.{[], ◌∷◌}
use mathlib.Core.Path.{◌≡◌, refl}
use Prim.Native.Nat.{ℕ, ◌≤◌}
use native.Mathlib.Omega.{arith}
use Rattle.page.specs.Record.{deletable}
use Rattle.page.specs.declared.record.Hindrance.{Hindrance}
use Rattle.page.specs.declared.record.Hindrance.TheVariants.{Locked, Dirty, Pinned}
use Rattle.model.specs.Row.{Page}
use Rattle.model.specs.Cache.{Cache, leave}
use Rattle.model.specs.Call.{Outcome, answer, listing}
use Rattle.model.specs.Rules.{deleting}

pub either {ℓ} : {A : Type 0} (P : A → Type ℓ) {x y : A} (b : Bool) → (b ≡ true → P x) → (b ≡ false → P y)
    → P (elim b [ true ↦ x | false ↦ y ])
either P true t f = t refl
either P false t f = f refl

pub one_of {ℓ} : {A : Type 0} (P : A → Type ℓ) {x y : A} (b : Bool) → P x → P y → P (cond b x y)
one_of P true t f = t
one_of P false t f = f

one_of_four : (P : Outcome → Type 0) {x y z w : Outcome} (d : Result Unit Hindrance) → P x → P y → P z → P w
    → P (elim d [ Ok _ ↦ x | Err Locked ↦ y | Err Dirty ↦ z | Err Pinned ↦ w ])
one_of_four P (Ok _) x y z w = x
one_of_four P (Err Locked) x y z w = y
one_of_four P (Err Dirty) x y z w = z
one_of_four P (Err Pinned) x y z w = w

-- rule 8: the page is deleted, or the answer is 5, 6 or 7
pub deleted_or_refused : (P : Outcome → Type 0) (p : Page) (follow : Cache → Outcome) (c : Cache)
    → P (listing (p.handle ∷ []) (follow (leave p c)))
    → ((code : ℕ) → 5 ≤ code → code ≤ 7 → P (answer code p.key c)) → P (deleting p follow c)
deleted_or_refused P p follow c deleted refused = one_of_four P (deletable p.state) deleted
    (refused 5 (omega arith) (omega arith)) (refused 6 (omega arith) (omega arith)) (refused 7 (omega arith) (omega arith))
