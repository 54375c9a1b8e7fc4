-- What a hit is for. The page that was found has one holder more; a page with a holder is neither evicted nor selected for a spill; and a
-- release gives back what a peek took.
use Rattle.std.specs.Prelude.{Some, None}
use mathlib.Core.Bool.{Bool, true, false, cond, not, ◌&&◌, false≢true}
use mathlib.Core.List.{◌∷◌, ◌++◌}
use mathlib.Core.Option.{Option, none, some}
use mathlib.Core.Path.{◌≡◌, refl, sym, ap, ◌∙◌}
use Prim.Native.Nat.{ℕ, zero, suc, ◌+◌, ◌-◌}
use native.Mathlib.Omega.{arith}
use lib.Dec.{eqb, ltb}
use borrow.Author.Tests.{not-false, eqb-true, lt-ltb}
use Rattle.page.specs.Cache.{page_one, may_go, spillable}
use Rattle.page.specs.Record.{locked, dirty, spilled, pinned, held, stale, clean_or_spilled, holders_max, with_holders}
use Rattle.page.specs.declared.record.PageRecord.{PageRecord}
use Rattle.model.specs.Row.{Entry, Row, find, change}
use Rattle.model.specs.Sweep.{touched}
use Rattle.model.specs.Cache.{Cache, with_row, rewritten, rewrite}
use Rattle.model.specs.Call.{Outcome, lookup, peek, release, answer}
use Rattle.model.specs.Rules.{hit_with, hit, lookup_found, peek_found, release_with, release_found}
use Rattle.model.specs.Step.{act, tested, step}
use Rattle.model.specs.Tests.{refusal}
use Rattle.model.proofs.ByKey.{Stands, find_stands, stands_find, stands_change, stands_changed}
use Rattle.model.proofs.KeptCases.{either, deleted_or_refused}

-- ── a page with a holder stays ───────────────────────────────────────────────
no_holders : (p : PageRecord) → held p ≡ false → p.holders ≡ 0
no_holders p is = eqb-true p.holders 0 (not-false (eqb p.holders 0) is)

-- it isn't evicted
fourth : (a b c d e : Bool) → a && not b && not c && not d && not e ≡ true → d ≡ false
fourth a b c false e all = refl
fourth false b c true e all = absurd (false≢true all)
fourth true true c true e all = absurd (false≢true all)
fourth true false true true e all = absurd (false≢true all)
fourth true false false true e all = absurd (false≢true all)

pub may_go_unheld : (key : ℕ) (p : PageRecord) → may_go key p ≡ true → p.holders ≡ 0
may_go_unheld key p may = no_holders p (fourth (clean_or_spilled p) (locked p) (pinned p) (held p) (page_one key) may)

-- nor selected for a spill
fifth : (a b c d e f g : Bool) → a && not b && not c && not d && not e && not f && g ≡ true → e ≡ false
fifth a b c d false f g all = refl
fifth false b c d true f g all = absurd (false≢true all)
fifth true true c d true f g all = absurd (false≢true all)
fifth true false true d true f g all = absurd (false≢true all)
fifth true false false true true f g all = absurd (false≢true all)
fifth true false false false true f g all = absurd (false≢true all)

pub spillable_unheld : (key : ℕ) (p : PageRecord) → spillable key p ≡ true → p.holders ≡ 0
spillable_unheld key p may = no_holders p (fifth (dirty p) (spilled p) (locked p) (pinned p) (held p) (page_one key) (eqb p.cells 0) may)

-- ── one holder more, in the place where the page stands ──────────────────────
module _ (key : ℕ) (c : Cache) (e : Entry) (s : Stands key c.row e) where
  abbrev n : ℕ
  n = e.page.state.holders

  abbrev more : PageRecord
  more = with_holders e.page.state (n + 1)

  abbrev written : Stands key (rewrite key more c).row (rewritten more e)
  written = stands_changed key c.row e s (rewritten more) s.named

  -- and then one less is as many as before
  same_record : with_holders more (n + 1 - 1) ≡ e.page.state
  same_record = ap {B = PageRecord} (with_holders e.page.state) (omega arith)

  same_row : change key (rewritten (with_holders more (n + 1 - 1))) (rewrite key more c).row ≡ c.row
  same_row =
      stands_change key (rewrite key more c).row (rewritten more e) written (rewritten (with_holders more (n + 1 - 1)))
      ∙ ap {B = Row} (λ (state : PageRecord). s.before ++ rewritten state e ∷ s.after) same_record
      ∙ sym s.parts

-- ── a hit ────────────────────────────────────────────────────────────────────
-- a page was found, and has one holder more
pub record OneMore (key : ℕ) (c : Cache) (o : Outcome) : Type 0 where
  pub before : Entry
  pub after : Entry
  pub was : find key c.row ≡ some before
  pub is : find key o.cache.row ≡ some after
  pub found : o.value ≡ before.page.handle
  pub handle : after.page.handle ≡ before.page.handle
  pub holders : after.page.state ≡ with_holders before.page.state (before.page.state.holders + 1)

-- whenever the answer is 0
abbrev IfDone : ℕ → Cache → Outcome → Type 0
IfDone key c o = o.code ≡ 0 → OneMore key c o

hit_holds : (key : ℕ) (asked : Bool) (c : Cache) (e : Entry) → find key c.row ≡ some e → IfDone key c (hit key asked e.page c)
hit_holds key asked c e there = go (ltb e.page.state.holders holders_max) asked
  where
    s : Stands key c.row e
    s = find_stands key c.row e there

    go : (b asked : Bool) → IfDone key c (hit_with key (cond b (Some (e.page.state.holders + 1)) None) asked e.page c)
    go true true done = record {
      before = e;
      after = touched (rewritten (more key c e s) e);
      was = there;
      is = stands_find key _ _ (stands_changed key _ (rewritten (more key c e s) e) (written key c e s) touched s.named);
      found = refl;
      handle = refl;
      holders = refl;
    }
    go true false done = record {
      before = e;
      after = rewritten (more key c e s) e;
      was = there;
      is = stands_find key _ _ (written key c e s);
      found = refl;
      handle = refl;
      holders = refl;
    }
    go false asked done = absurd (omega arith)

-- a lookup that answers 0 holds the page that it found
pub lookup_holds : (key places : ℕ) (c : Cache) → (step (lookup key places) c).code ≡ 0 → OneMore key c (step (lookup key places) c)
unfolding step act
lookup_holds key places c = go (refusal (lookup key places) c)
  where
    by_found : (v : Option Entry) → find key c.row ≡ v → IfDone key c (lookup_found key v c)
    by_found none q = λ done. absurd (omega arith)
    by_found (some e) q = either (IfDone key c) (stale e.page.state)
        (λ _. deleted_or_refused (IfDone key c) e.page (answer 4 0) c (λ done. absurd (omega arith)) (λ code low high done. absurd (omega (arith, low))))
        (λ _. hit_holds key true c e q)

    go : (code : ℕ) → IfDone key c (tested code (lookup key places) c)
    go zero = by_found (find key c.row) refl
    go (suc n) = λ done. absurd (omega arith)

-- and so does a peek, touch asked or not
peek_found_lem : (key : ℕ) (asked : Bool) (c : Cache) → step (peek key asked) c ≡ peek_found key asked (find key c.row) c
unfolding step act refusal
peek_found_lem key asked c = refl

pub peek_holds : (key : ℕ) (asked : Bool) (c : Cache) → (step (peek key asked) c).code ≡ 0 → OneMore key c (step (peek key asked) c)
peek_holds key asked c = rw (peek_found_lem key asked c) (go (find key c.row) refl)
  where
    go : (v : Option Entry) → find key c.row ≡ v → IfDone key c (peek_found key asked v c)
    go none q = λ done. absurd (omega arith)
    go (some e) q = hit_holds key asked c e q

-- ── a release ────────────────────────────────────────────────────────────────
release_found_lem : (key : ℕ) (c : Cache) → step (release key) c ≡ release_found key (find key c.row) c
unfolding step act refusal
release_found_lem key c = refl

module _ (key : ℕ) (c : Cache) (e : Entry) (s : Stands key c.row e) where
  released : step (release key) (rewrite key (more key c e s) c) ≡ answer 0 0 c
  released =
      let d = rewrite key (more key c e s) c in
      release_found_lem key d
      ∙ ap {B = Outcome} (λ (v : Option Entry). release_found key v d) (stands_find key _ _ (written key c e s))
      ∙ ap {B = Outcome} (λ (b : Bool). release_with key (cond b (Some (n key c e s + 1 - 1)) None) (rewritten (more key c e s) e).page d) (lt-ltb 0 (n key c e s + 1) (omega arith))
      ∙ ap {B = Outcome} (λ (row : Row). answer 0 0 (with_row row c)) (same_row key c e s)

-- after a peek without a touch it leaves the cache as it was before the peek
abbrev Undone : ℕ → Cache → Outcome → Type 0
Undone key c o = o.code ≡ 0 → step (release key) o.cache ≡ answer 0 0 c

pub release_undoes : (key : ℕ) (c : Cache) → (step (peek key false) c).code ≡ 0 → step (release key) (step (peek key false) c).cache ≡ answer 0 0 c
release_undoes key c = rw (peek_found_lem key false c) (go (find key c.row) refl)
  where
    counted : (e : Entry) (s : Stands key c.row e) (b : Bool) → Undone key c (hit_with key (cond b (Some (e.page.state.holders + 1)) None) false e.page c)
    counted e s true = λ done. released key c e s
    counted e s false = λ done. absurd (omega arith)

    go : (v : Option Entry) → find key c.row ≡ v → Undone key c (peek_found key false v c)
    go none q = λ done. absurd (omega arith)
    go (some e) q = counted e (find_stands key c.row e q) (ltb e.page.state.holders holders_max)
