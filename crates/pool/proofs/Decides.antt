-- Answers of tests: made, carried over to another question, and joined. Each law is by cases on the answer.
use mathlib.Core.Path.{◌≡◌, refl, sym, ◌∙◌}
use mathlib.Core.Bool.{Bool, true, false, not, ◌&&◌, true≢false}
use Prim.Native.Nat.{ℕ}
use lib.Dec.{eqb}
use borrow.Author.Tests.{eq-eqb, eqb-true, not-true, not-false}
use Rattle.pool.specs.Decides.{Decides}

pub decides_yes : {P : Type 0} → P → Decides true P
decides_yes p = record { right = λ _. p; whole = λ _. refl }

pub decides_no : {P : Type 0} → (P → ⊥) → Decides false P
decides_no n = record { right = λ e. absurd (true≢false (sym e)); whole = λ p. absurd (n p) }

pub decides_eq : (a b : ℕ) → Decides (eqb a b) (a ≡ b)
decides_eq a b = record { right = λ e. eqb-true a b e; whole = λ e. eq-eqb a b e }

-- the answer to a question is the answer to an equivalent one
pub decides_as : {b : Bool} {P Q : Type 0} → Decides b P → (P → Q) → (Q → P) → Decides b Q
decides_as t f g = record { right = λ e. f (t.right e); whole = λ q. t.whole (g q) }

-- both
pub decides_and : {a b : Bool} {P Q : Type 0} → Decides a P → Decides b Q → Decides (a && b) (P × Q)
decides_and {a = true} {b = true} p q = decides_yes (p.right refl, q.right refl)
decides_and {a = true} {b = false} p q = decides_no (λ w. true≢false (sym (q.whole w.1)))
decides_and {a = false} p q = decides_no (λ w. true≢false (sym (p.whole w.0)))

-- a test of a part failed, and so does the whole; or it passed
module _ {b : Bool} {P : Type 0} (t : Decides b P) where
  pub fails : not b ≡ true → P → ⊥
  fails e p = true≢false (sym (t.whole p) ∙ not-true b e)

  pub passes : not b ≡ false → P
  passes e = t.right (not-false b e)

  pub refuses : {Q : Type 0} → not b ≡ true → (Q → P) → Decides false Q
  refuses e g = decides_no (λ q. fails e (g q))
