-- Finding, changing and removing by key, as one fact: the row splits at the entry. `find` stops at the first entry with the key,
-- and so do `change` and `without`, so a split whose front has only other keys gives the result of all three. If all keys are
-- different, every split is of that kind.
use mathlib.Core.Bool.{true, false}
use mathlib.Core.List.{[], ◌∷◌, ◌++◌}
use mathlib.Core.Option.{Option, none, some, some-injective, none-ne-some, some-ne-none}
use mathlib.Core.Path.{◌≡◌, refl, sym, ap, subst}
use Prim.Native.Nat.{ℕ}
use borrow.Author.Tests.{eqb-true, eqb-false, eq-eqb, ne_eqb}
use Rattle.page.proofs.Each.{each_left}
use Rattle.model.specs.Row.{Entry, Row, Each, keyed, find, change, without}
use Rattle.model.specs.Limits.{Apart}
use Rattle.model.proofs.KeptCases.{either}
use Rattle.model.proofs.Numbers.{OtherKey, apart_others}

-- the entry stands in the row between these two parts, and is the first with the key
pub record Stands (key : ℕ) (row : Row) (e : Entry) : Type 0 where
  pub before : Row
  pub after : Row
  pub parts : row ≡ before ++ e ∷ after
  pub named : e.page.key ≡ key
  pub earlier : Each (OtherKey key) before

module _ (key : ℕ) where
  is_keyed : (e : Entry) → e.page.key ≡ key → keyed key e ≡ true
  is_keyed e q = eq-eqb e.page.key key q

  isn't_keyed : (e : Entry) → OtherKey key e → keyed key e ≡ false
  isn't_keyed e o = ne_eqb e.page.key key (λ q. o (sym q))

  other : (e : Entry) → keyed key e ≡ false → OtherKey key e
  other e h q = eqb-false e.page.key key h (sym q)

  -- ── a split with only other keys before it ───────────────────────────────────
  find_at : (before : Row) (e : Entry) (after : Row) → Each (OtherKey key) before → e.page.key ≡ key
      → find key (before ++ e ∷ after) ≡ some e
  unfolding find
  find_at [] e after o q = rw (is_keyed e q, find)
  find_at (x ∷ xs) e after o q = rw (isn't_keyed x o.0, find) (find_at xs e after o.1 q)

  without_at : (before : Row) (e : Entry) (after : Row) → Each (OtherKey key) before → e.page.key ≡ key
      → without key (before ++ e ∷ after) ≡ before ++ after
  unfolding without
  without_at [] e after o q = rw (is_keyed e q, without)
  without_at (x ∷ xs) e after o q = rw (isn't_keyed x o.0, without)
      (ap {B = Row} (λ r. x ∷ r) (without_at xs e after o.1 q))

  change_at : (f : Entry → Entry) (before : Row) (e : Entry) (after : Row) → Each (OtherKey key) before → e.page.key ≡ key
      → change key f (before ++ e ∷ after) ≡ before ++ f e ∷ after
  unfolding change
  change_at f [] e after o q = rw (is_keyed e q, change)
  change_at f (x ∷ xs) e after o q = rw (isn't_keyed x o.0, change)
      (ap {B = Row} (λ r. x ∷ r) (change_at f xs e after o.1 q))

  -- ── what the three come to ─────────────────────────────────────────────────
  pub stands_find : (row : Row) (e : Entry) → Stands key row e → find key row ≡ some e
  stands_find row e s = rw s.parts (find_at s.before e s.after s.earlier s.named)

  pub stands_without : (row : Row) (e : Entry) (s : Stands key row e) → without key row ≡ s.before ++ s.after
  stands_without row e s = rw s.parts (without_at s.before e s.after s.earlier s.named)

  pub stands_change : (row : Row) (e : Entry) (s : Stands key row e) (f : Entry → Entry)
      → change key f row ≡ s.before ++ f e ∷ s.after
  stands_change row e s f = rw s.parts (change_at f s.before e s.after s.earlier s.named)

  -- ── what is found stands there ─────────────────────────────────────────────
  here : (e : Entry) (es : Row) → keyed key e ≡ true → Stands key (e ∷ es) e
  here e es h = record { before = []; after = es; parts = refl; named = eqb-true e.page.key key h; earlier = tt }

  further : (x : Entry) (xs : Row) (e : Entry) → keyed key x ≡ false → Stands key xs e → Stands key (x ∷ xs) e
  further x xs e h s = record {
    before = x ∷ s.before;
    after = s.after;
    parts = ap {B = Row} (λ r. x ∷ r) s.parts;
    named = s.named;
    earlier = (other x h, s.earlier);
  }

  pub find_stands : (row : Row) (e : Entry) → find key row ≡ some e → Stands key row e
  unfolding find
  find_stands [] e q = absurd (none-ne-some e q)
  find_stands (x ∷ xs) e q = either (λ (v : Option Entry). v ≡ some e → Stands key (x ∷ xs) e) (keyed key x)
      (λ h p. subst (Stands key (x ∷ xs)) (some-injective x e p) (here x xs h))
      (λ h p. further x xs e h (find_stands xs e p)) q

  -- ── a key that isn't there ─────────────────────────────────────────────────
  -- not found: every entry has another key
  pub find_none : (row : Row) → find key row ≡ none → Each (OtherKey key) row
  unfolding find
  find_none [] q = tt
  find_none (x ∷ xs) q = either (λ (v : Option Entry). v ≡ none → Each (OtherKey key) (x ∷ xs)) (keyed key x)
      (λ _ p. absurd (some-ne-none x p)) (λ h p. (other x h, find_none xs p)) q

  -- and the other way round
  pub none_find : (row : Row) → Each (OtherKey key) row → find key row ≡ none
  unfolding find
  none_find [] o = refl
  none_find (x ∷ xs) o = rw (isn't_keyed x o.0, find) (none_find xs o.1)

  -- then nothing is removed
  pub without_none : (row : Row) → Each (OtherKey key) row → without key row ≡ row
  unfolding without
  without_none [] o = refl
  without_none (x ∷ xs) o = rw (isn't_keyed x o.0, without) (ap {B = Row} (λ r. x ∷ r) (without_none xs o.1))

-- ── another view of the same place ───────────────────────────────────────────
-- by the entry's own key
abbrev pub stands_own : (key : ℕ) (row : Row) (e : Entry) → Stands key row e → Stands e.page.key row e
stands_own key row e s = record {
  before = s.before;
  after = s.after;
  parts = s.parts;
  named = refl;
  earlier = subst (λ (k : ℕ). Each (OtherKey k) s.before) (sym s.named) s.earlier;
}

-- after a change that keeps the key
abbrev pub stands_changed : (key : ℕ) (row : Row) (e : Entry) (s : Stands key row e) (f : Entry → Entry) → (f e).page.key ≡ key
    → Stands key (change key f row) (f e)
stands_changed key row e s f same = record {
  before = s.before;
  after = s.after;
  parts = stands_change key row e s f;
  named = same;
  earlier = s.earlier;
}

-- ── where keys are different, a split is enough ──────────────────────────────
abbrev pub apart_stands : (before : Row) (e : Entry) (after : Row) → Apart (λ p. p.key) (before ++ e ∷ after)
    → Stands e.page.key (before ++ e ∷ after) e
apart_stands before e after a = record {
  before = before;
  after = after;
  parts = refl;
  named = refl;
  earlier = each_left (OtherKey e.page.key) before after (apart_others (λ p. p.key) before e after a);
}
