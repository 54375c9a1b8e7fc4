-- How many numbers below a limit pass a test. A list of different numbers that pass it is no longer than that; and if it is as long, it
-- has all of them.
use mathlib.Core.Path.{◌≡◌, refl, sym, ap, ◌∙◌}
use mathlib.Core.Bool.{Bool, true, false, not, ◌&&◌, true≢false, and-true, and-false}
use mathlib.Core.Logic.{⊎_elim}
use mathlib.Core.List.{List, [], ◌∷◌}
use Prim.Native.Nat.{ℕ, zero, suc, ◌≤◌, ◌<◌}
use native.Mathlib.Omega.{arith}
use native.Mathlib.Decide.{ℕ_discrete}
use lib.Dec.{eqb}
use lib.ListN.{length}
use borrow.Author.Tests.{eq-eqb, ne_eqb}
use Rattle.page.specs.All.{All}
use Rattle.ring_links.specs.Ring.{has, Out, Apart}
use Rattle.sorted_index.proofs.Membership.{has_here, has_there, has_skip, has_cons, out_has}

-- ── the number of those that pass ────────────────────────────────────────────
-- n + 1 if the test says yes, else n
abbrev pub tick : Bool → ℕ → ℕ
tick true n = suc n
tick false n = n

unfoldable pub count_below : ℕ → (ℕ → Bool) → ℕ
count_below zero test = zero
count_below (suc k) test = tick (test k) (count_below k test)

-- ── the test without one number ──────────────────────────────────────────────
minus : (ℕ → Bool) → ℕ → ℕ → Bool
minus f a k = f k && not (eqb k a)

minus_here : (f : ℕ → Bool) (a : ℕ) → minus f a a ≡ false
unfolding minus
minus_here f a = ap (λ (b : Bool). f a && not b) (eq-eqb a a refl) ∙ and-false (f a)

minus_else : (f : ℕ → Bool) (a k : ℕ) → (k ≡ a → ⊥) → minus f a k ≡ f k
unfolding minus
minus_else f a k ne = ap (λ (b : Bool). f k && not b) (ne_eqb k a ne) ∙ and-true (f k)

count_same : (f g : ℕ → Bool) (s : ℕ) → ((k : ℕ) → k < s → f k ≡ g k) → count_below s f ≡ count_below s g
unfolding count_below
count_same f g zero e = refl
count_same f g (suc s) e = ap (λ (b : Bool). tick b (count_below s f)) (e s (omega arith)) ∙ ap (tick (g s)) (count_same f g s (λ k h. e k (omega arith)))

count_minus : (f : ℕ → Bool) (a s : ℕ) → a < s → f a ≡ true → suc (count_below s (minus f a)) ≡ count_below s f
unfolding count_below
count_minus f a zero h t = absurd (omega arith)
count_minus f a (suc s) h t = go (ℕ_discrete a s) (λ l. count_minus f a s l t)
  where
    slide : (b : Bool) (n : ℕ) → suc (tick b n) ≡ tick b (suc n)
    slide true n = refl
    slide false n = refl

    go : Dec (a ≡ s) → (a < s → suc (count_below s (minus f a)) ≡ count_below s f) → suc (tick (minus f a s) (count_below s (minus f a))) ≡ tick (f s) (count_below s f)
    go (yes e) ih =
        ap (λ (b : Bool). suc (tick b (count_below s (minus f a)))) (ap (minus f a) (sym e) ∙ minus_here f a)
        ∙ ap suc (count_same (minus f a) f s (λ k l. minus_else f a k (λ q. omega arith)))
        ∙ ap (λ (b : Bool). tick b (count_below s f)) (sym t ∙ ap f e)
    go (no ne) ih =
        ap (λ (b : Bool). suc (tick b (count_below s (minus f a)))) (minus_else f a s (λ q. ne (sym q)))
        ∙ slide (f s) (count_below s (minus f a)) ∙ ap (tick (f s)) (ih (omega arith))

-- ── what holds of all ────────────────────────────────────────────────────────
pub all_has : (P : ℕ → Type 0) (l : List ℕ) → All P l → (k : ℕ) → has k l ≡ true → P k
all_has P [] g k h = absurd (true≢false (sym h))
all_has P (a ∷ l) g k h = ⊎_elim (λ (e : k ≡ a). rw e g.0) (λ t. all_has P l g.1 k t) (has_cons k a l h)

pub has_all : (P : ℕ → Type 0) (l : List ℕ) → ((k : ℕ) → has k l ≡ true → P k) → All P l
has_all P [] f = tt
has_all P (a ∷ l) f = (f a (has_here a l), has_all P l (λ k h. f k (has_there k a l h)))

-- ── as many, and so all ──────────────────────────────────────────────────────
-- k is below s, and f says yes to it
abbrev Yes : (ℕ → Bool) → ℕ → ℕ → Type 0
Yes f s k = (k < s) × (f k ≡ true)

yes_minus : (f : ℕ → Bool) (a s : ℕ) (l : List ℕ) → Out a l → All (Yes f s) l → All (Yes (minus f a) s) l
yes_minus f a s [] o g = tt
yes_minus f a s (x ∷ l) o g = ((g.0.0, minus_else f a x (λ q. o.0 (sym q)) ∙ g.0.1), yes_minus f a s l o.1 g.1)

no_more : (l : List ℕ) (f : ℕ → Bool) (s : ℕ) → Apart l → All (Yes f s) l → length l ≤ count_below s f
no_more [] f s d g = omega arith
no_more (a ∷ l) f s d g = omega (arith, no_more l (minus f a) s d.1 (yes_minus f a s l d.0 g.1), count_minus f a s g.0.0 g.0.1)

pub covers : (l : List ℕ) (f : ℕ → Bool) (s : ℕ) → Apart l → All (Yes f s) l → length l ≡ count_below s f → (k : ℕ) → k < s → has k l ≡ f k
covers l f s d g e k h = go (has k l) (f k) refl refl
  where
    go : (b c : Bool) → has k l ≡ b → f k ≡ c → b ≡ c
    go true c p q = sym (all_has (Yes f s) l g k p).1 ∙ q
    go false false p q = refl
    go false true p q = absurd (omega (arith, no_more (k ∷ l) f s (out_has k l p, d) ((h, q), g)))

-- ── all, and so as many ──────────────────────────────────────────────────────
count_none : (f : ℕ → Bool) (s : ℕ) → ((k : ℕ) → k < s → f k ≡ true → ⊥) → count_below s f ≡ 0
unfolding count_below
count_none f zero n = refl
count_none f (suc s) n = go (f s) refl ∙ count_none f s (λ k h. n k (omega arith))
  where
    go : (b : Bool) → f s ≡ b → tick b (count_below s f) ≡ count_below s f
    go true e = absurd (n s (omega arith) e)
    go false e = refl

pub as_many : (l : List ℕ) (f : ℕ → Bool) (s : ℕ) → Apart l → All (Yes f s) l → ((k : ℕ) → k < s → f k ≡ true → has k l ≡ true) → count_below s f ≡ length l
as_many [] f s d g c = count_none f s (λ k h t. true≢false (sym (c k h t)))
as_many (a ∷ l) f s d g c =
    sym (count_minus f a s g.0.0 g.0.1)
    ∙ ap suc (as_many l (minus f a) s d.1 (yes_minus f a s l d.0 g.1) (λ k h t. go k h t (ℕ_discrete k a)))
  where
    go : (k : ℕ) → k < s → minus f a k ≡ true → Dec (k ≡ a) → has k l ≡ true
    go k h t (yes e) = absurd (true≢false (sym t ∙ ap (minus f a) e ∙ minus_here f a))
    go k h t (no ne) = sym (has_skip k a l ne) ∙ c k h (sym (minus_else f a k ne) ∙ t)
