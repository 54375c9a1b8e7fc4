-- What hinders a clear: the index by key is the model's walk, so that the first dirty page along it is the first of
-- those that the model's rule asks for.
use mathlib.Core.Path.{◌≡◌, refl, sym, ap, ◌∙◌}
use mathlib.Core.Bool.{Bool, true, false}
use mathlib.Core.List.{List, [], ◌++◌}
use Prim.Native.Nat.{ℕ, ◌+◌, ◌≤◌, ◌<◌}
use native.Mathlib.Omega.{arith}
use lib.ListN.{length, get_or}
use Rattle.page.specs.Record.{dirty}
use Rattle.page.specs.declared.cache.PageCache.{PageCache}
use Rattle.page.specs.declared.entry.PageCacheEntry.{PageCacheEntry}
use Rattle.page.specs.declared.names.PageCacheKey.{PageCacheKey}
use Rattle.pool.specs.Slots.{blank, entries}
use Rattle.sorted_index.specs.Index.{Index}
use Rattle.sorted_index.specs.Names.{names}
use Rattle.sorted_index.specs.declared.search.By.TheVariants.{Key}
use Rattle.model.specs.Cache.{Cache}
use Rattle.model.specs.Call.{Outcome, answer}
use Rattle.model.specs.Row.{Page, Row, sorted_by_key, those}
use Rattle.model.specs.Rules.{emptied, clear_unless, on_clear}
use Rattle.memory.specs.Memory.{Memory}
use Rattle.memory.specs.Holds.{Holds}
use Rattle.memory.specs.Walk.{walk}
use Rattle.memory.proofs.Walks.{walk_at, walk_from, walk_by_key, walk_next, walked_none, walked_past, walked_split, those_one}
use Rattle.answer.specs.Answer.{plainly, MatchesOutcome}
use Rattle.answer.specs.declared.answer.Answer.TheVariants as answers
use Rattle.answer.proofs.Steps.{plain_comes, comes_as}
use Rattle.clearing.specs.Clear.{hindering, First}

-- ── the first dirty page ─────────────────────────────────────────────────────
abbrev is_dirty : Page → Bool
is_dirty p = dirty p.state

-- no page before place i is dirty
pub record Clean (slots by_key : List ℕ) (n i : ℕ) : Type 0 where
  pub within : i ≤ n
  pub none : those is_dirty (walk slots by_key i) ≡ []

pub clean_start : {slots by_key : List ℕ} {n : ℕ} → Clean slots by_key n 0
clean_start {slots} {by_key} = record { within = omega arith; none = walked_none is_dirty slots by_key }

module _ {slots by_key : List ℕ} {n i : ℕ} (index : Index (names Key (entries slots)) by_key n) (g : Clean slots by_key n i) where
  pub clean_place : i < n → i < length by_key
  clean_place more = omega (arith, index.fits)

  module _ {e : PageCacheEntry} (loaded : e ≡ get_or (entries slots) (get_or by_key i 0) blank) {b : Bool} (asked : b ≡ dirty e.page) (more : i < n) where
    asked_at : is_dirty (walk_at slots by_key i).page ≡ b
    asked_at = ap (λ (x : PageCacheEntry). dirty x.page) (sym loaded) ∙ sym asked

    pub clean_more : b ≡ false → Clean slots by_key n (i + 1)
    clean_more no_dirt = record {
      within = omega arith;
      none = walked_past is_dirty slots by_key i (clean_place more) (asked_at ∙ no_dirt) ∙ g.none;
    }

    pub clean_ends : b ≡ true → First (those is_dirty (walk slots by_key n)) e.key.0
    clean_ends dirt = record {
      page = (walk_at slots by_key i).page;
      rest = those is_dirty (walk_from slots by_key (i + 1) n);
      parts =
          walked_split is_dirty slots by_key i n g.within
          ∙ ap {B = List Page} (λ (ps : List Page). ps ++ those is_dirty (walk_from slots by_key i n)) g.none
          ∙ ap (those is_dirty) (walk_next slots by_key i n more index.fits)
          ∙ those_one is_dirty (walk_at slots by_key i) (walk_from slots by_key (i + 1) n) (asked_at ∙ dirt);
      named = ap (λ (x : PageCacheEntry). x.key.0) loaded;
    }

  pub clean_done : n ≤ i → those is_dirty (walk slots by_key n) ≡ []
  clean_done end =
      let whole : i ≡ n = omega (arith, g.within) in
      ap (λ (k : ℕ). those is_dirty (walk slots by_key k)) (sym whole) ∙ g.none

-- ── the rule ─────────────────────────────────────────────────────────────────
by_hindrance : (dirty_too : Bool) (c : Cache) → on_clear dirty_too c ≡ clear_unless (hindering dirty_too (sorted_by_key c.row)) c
by_hindrance true c = refl
by_hindrance false c = refl

module _ (dirty_too : Bool) {m : Memory} {head : PageCache} {c : Cache} (H : Holds m head c) where
  abbrev stand : List Page
  stand = hindering dirty_too (walk m.slots m.by_key head.held)

  walks_index : on_clear dirty_too c ≡ clear_unless stand c
  walks_index = by_hindrance dirty_too c ∙ ap {B = Outcome} (λ (row : Row). clear_unless (hindering dirty_too row) c) (walk_by_key H)

  pub clear_dirty : (key : PageCacheKey) {list : List ℕ} → First stand key.0
      → MatchesOutcome (on_clear dirty_too c) list m list (plainly (answers.Dirty key) head)
  clear_dirty key {list} first =
      comes_as (walks_index ∙ ap {B = Outcome} (λ (ps : List Page). clear_unless ps c) first.parts ∙ ap {B = Outcome} (λ (k : ℕ). answer 6 k c) (sym first.named))
      (plain_comes (answers.Dirty key) H list)

  pub clear_all : stand ≡ [] → on_clear dirty_too c ≡ emptied c
  clear_all none = walks_index ∙ ap {B = Outcome} (λ (ps : List Page). clear_unless ps c) none
