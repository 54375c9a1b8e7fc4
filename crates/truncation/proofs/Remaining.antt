-- What is left of the sweeping deletions at a place of the walk, and what it comes to. A page that is passed is not among
-- the chosen ones, and a deletion leaves the rest of the walk as it is.
use Rattle.std.specs.Prelude.{Ok}
use mathlib.Core.Path.{◌≡◌, refl, sym, ap, ◌∙◌}
use mathlib.Core.Bool.{Bool, true, false}
use mathlib.Core.List.{List, [], ◌∷◌, ◌++◌, append_assoc}
use Prim.Native.Nat.{ℕ, ◌+◌, ◌<◌}
use Rattle.page.specs.Record.{deletable}
use Rattle.page.specs.declared.cache.PageCache.{PageCache}
use Rattle.model.specs.Cache.{Cache, leave}
use Rattle.model.specs.Call.{Outcome, answer, listing}
use Rattle.model.specs.Row.{Page, those}
use Rattle.model.specs.Rules.{deleting, delete_each}
use Rattle.memory.specs.Memory.{Memory}
use Rattle.memory.specs.Holds.{Holds}
use Rattle.memory.proofs.Walks.{walk_at, walk_from, walk_fits, walk_next, walk_end, those_one, those_past}
use Rattle.answer.proofs.Steps.{deleting_done}
use Rattle.truncation.specs.Deletions.{page_at}
use Rattle.truncation.proofs.Places.{place_closed}

-- ── the model's deletions ────────────────────────────────────────────────────
each_none : (c : Cache) → delete_each [] c ≡ answer 0 0 c
unfolding delete_each
each_none c = refl

each_next : (p : Page) (ps : List Page) (c : Cache) → delete_each (p ∷ ps) c ≡ deleting p (delete_each ps) c
unfolding delete_each
each_next p ps c = refl

listing_more : (gone : List ℕ) (handle : ℕ) (o : Outcome) → listing gone (listing (handle ∷ []) o) ≡ listing (gone ++ handle ∷ []) o
listing_more gone handle o = λ i. record {
  code = o.code;
  value = o.value;
  passed = o.passed;
  listed = sym (append_assoc gone (handle ∷ []) o.listed) i;
  touches = o.touches;
  falls = o.falls;
  cache = o.cache;
}

none_chosen : (test : Page → Bool) → those test [] ≡ []
unfolding those
none_chosen test = refl

-- ── what is left ─────────────────────────────────────────────────────────────
-- the pages that are chosen from place i on
abbrev pub left : (Page → Bool) → Memory → PageCache → ℕ → List Page
left test m head i = those test (walk_from m.slots m.by_key i head.held)

-- the deletions that are left, from the cache that the memory holds now, come to the whole outcome, after these handles went
pub record Toward (whole : Outcome) (test : Page → Bool) (m : Memory) (head : PageCache) (gone : List ℕ) (i : ℕ) : Type 0 where
  pub now : Cache
  pub holds : Holds m head now
  pub comes : whole ≡ listing gone (delete_each (left test m head i) now)

module _ {whole : Outcome} {test : Page → Bool} {m : Memory} {head : PageCache} {gone : List ℕ} {i : ℕ} (t : Toward whole test m head gone i) where
  -- nothing is left
  pub toward_end : head.held ≡ i → whole ≡ listing gone (answer 0 0 t.now)
  toward_end end =
      let none : left test m head head.held ≡ [] =
      ap (those test) (walk_end m.slots m.by_key head.held (walk_fits t.holds)) ∙ none_chosen test in
      t.comes ∙ ap {B = Outcome} (λ (ps : List Page). listing gone (delete_each ps t.now)) (ap {B = List Page} (left test m head) (sym end) ∙ none)
      ∙ ap {B = Outcome} (listing gone) (each_none t.now)

  module _ (more : i < head.held) where
    abbrev p : Page
    p = page_at m.slots m.by_key i

    next : walk_from m.slots m.by_key i head.held ≡ walk_at m.slots m.by_key i ∷ walk_from m.slots m.by_key (i + 1) head.held
    next = walk_next m.slots m.by_key i head.held more (walk_fits t.holds)

    -- the page there is not chosen
    pub toward_passed : test p ≡ false → Toward whole test m head gone (i + 1)
    toward_passed not_Chosen = record {
      now = t.now;
      holds = t.holds;
      comes = t.comes ∙ ap {B = Outcome} (λ (ps : List Page). listing gone (delete_each ps t.now))
          (ap (those test) next ∙ those_past test (walk_at m.slots m.by_key i) (walk_from m.slots m.by_key (i + 1) head.held) not_Chosen);
    }

    -- it is
    module _ (chosen : test p ≡ true) where
      pub toward_one : whole ≡ listing gone (deleting p (delete_each (left test m head (i + 1))) t.now)
      toward_one =
          t.comes ∙ ap {B = Outcome} (λ (ps : List Page). listing gone (delete_each ps t.now))
          (ap (those test) next ∙ those_one test (walk_at m.slots m.by_key i) (walk_from m.slots m.by_key (i + 1) head.held) chosen)
          ∙ ap {B = Outcome} (listing gone) (each_next p (left test m head (i + 1)) t.now)

      -- and goes
      pub toward_deleted : {m' : Memory} {head' : PageCache} → deletable p.state ≡ Ok tt → Holds m' head' (leave p t.now)
          → Toward whole test m' head' (gone ++ p.handle ∷ []) i
      toward_deleted may H' = record {
        now = leave p t.now;
        holds = H';
        comes = toward_one ∙ ap {B = Outcome} (listing gone) (deleting_done p (delete_each (left test m head (i + 1))) t.now may)
            ∙ listing_more gone p.handle (delete_each (left test m head (i + 1)) (leave p t.now))
            ∙ ap {B = Outcome} (λ (ps : List Page). listing (gone ++ p.handle ∷ []) (delete_each ps (leave p t.now)))
            (ap (those test) (sym (place_closed t.holds i more H')));
      }
