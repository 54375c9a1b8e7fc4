-- Where the walk may begin: no page before that place is chosen, so that none is missed. Keys ascend along the index, so the walk over
-- the keys above the limit may begin at the limit's place.
use mathlib.Core.Path.{◌≡◌, sym, ap, ◌∙◌, subst}
use mathlib.Core.Bool.{Bool, false}
use mathlib.Core.List.{List, [], ◌++◌}
use Prim.Native.Nat.{ℕ, zero, suc, ◌+◌, ◌≤◌, ◌<◌, ◌^◌}
use native.Mathlib.Numerals.{add-one}
use native.Mathlib.Omega.{arith}
use lib.ListN.{length, get_or}
use borrow.Author.Tests.{le-ltb}
use Rattle.page.specs.declared.cache.PageCache.{PageCache}
use Rattle.page.specs.declared.entry.PageCacheEntry.{PageCacheEntry}
use Rattle.pool.specs.Slots.{decode, blank, entries}
use Rattle.pool.proofs.Packing.{entries_at}
use Rattle.sorted_index.specs.Index.{Index, Hit, Miss, name_at}
use Rattle.sorted_index.specs.Names.{names}
use Rattle.sorted_index.specs.declared.search.By.TheVariants.{Key}
use Rattle.sorted_index.proofs.Ascending.{ascending, upto}
use Rattle.sorted_index.proofs.Names.{name_at_lem, index_slot}
use Rattle.model.specs.Cache.{Cache}
use Rattle.model.specs.Row.{Page, sorted_by_key, those}
use Rattle.memory.specs.Memory.{Memory}
use Rattle.memory.specs.Holds.{Holds}
use Rattle.memory.specs.Walk.{walk}
use Rattle.memory.proofs.Walks.{walk_from, walk_by_key, walk_fits, walked_none, walked_past, walked_split}
use Rattle.truncation.specs.Deletions.{key_above, page_at, NoneBefore, FirstAbove}

-- ── none before ──────────────────────────────────────────────────────────────
none_walked : (test : Page → Bool) (slots by_key : List ℕ) (n : ℕ) → n ≤ length by_key → NoneBefore slots by_key test n
    → those test (walk slots by_key n) ≡ []
none_walked test slots by_key zero h none = walked_none test slots by_key
none_walked test slots by_key (suc n) h none =
    ap (λ (k : ℕ). those test (walk slots by_key k)) (sym (add-one n))
    ∙ walked_past test slots by_key n (omega arith) (none n (omega arith))
    ∙ none_walked test slots by_key n (omega arith) (λ k g. none k (omega arith))

pub none_missed : (test : Page → Bool) {m : Memory} {head : PageCache} {c : Cache} → Holds m head c → (from : ℕ) → from ≤ head.held
    → NoneBefore m.slots m.by_key test from
    → those test (sorted_by_key c.row) ≡ those test (walk_from m.slots m.by_key from head.held)
none_missed test {m} {head} H from within none =
    ap (those test) (walk_by_key H) ∙ walked_split test m.slots m.by_key from head.held within
    ∙ ap {B = List Page} (λ (ps : List Page). ps ++ those test (walk_from m.slots m.by_key from head.held))
    (none_walked test m.slots m.by_key from (omega (arith, walk_fits H)) none)

-- what is so of a view of the memory is so of the memory
pub none_seen : (test : Page → Bool) {m m' : Memory} (from : ℕ) → m ≡ m' → NoneBefore m.slots m.by_key test from → NoneBefore m'.slots m'.by_key test from
none_seen test from seen none = subst (λ (m : Memory). NoneBefore m.slots m.by_key test from) seen none

-- ── keys are numbers of 32 bits ──────────────────────────────────────────────
key_decoded : (a b c d : ℕ) → (decode a b c d).key.0 < 2 ^ 32
unfolding decode
key_decoded a b c d = omega arith

key_small : (slots : List ℕ) (s : ℕ) → s < length (entries slots) → (get_or (entries slots) s blank).key.0 < 2 ^ 32
key_small slots s inside = subst (λ (e : PageCacheEntry). e.key.0 < 2 ^ 32) (sym (entries_at slots s inside)) (key_decoded _ _ _ _)

-- ── keys above the limit ─────────────────────────────────────────────────────
module _ (slots by_key : List ℕ) (n limit : ℕ) where
  -- the key at place k is not above the limit
  not_above : (k : ℕ) → name_at (names Key (entries slots)) by_key k ≤ limit → key_above limit (page_at slots by_key k) ≡ false
  not_above k h = le-ltb limit (page_at slots by_key k).key (omega (arith, name_at_lem Key (entries slots) (get_or by_key k 0)))

  module _ (index : Index (names Key (entries slots)) by_key n) where
    -- the limit is above every key
    pub above_all : 4294967295 < limit → FirstAbove slots by_key n limit n
    above_all h = record {
      within = omega arith;
      none = λ k g. not_above k (omega (arith, name_at_lem Key (entries slots) (get_or by_key k 0), key_small slots (get_or by_key k 0) (index_slot Key (entries slots) index g)));
    }

    -- it stands at a place: the next one
    pub above_hit : (at : ℕ) → Hit (names Key (entries slots)) by_key n limit at → FirstAbove slots by_key n limit (at + 1)
    above_hit at hit = record {
      within = omega (arith, hit.within);
      none = λ k h. not_above k (omega (arith, hit.same, upto (ascending index) k at (omega arith) hit.within));
    }

    -- or would go there
    pub above_miss : (at : ℕ) → Miss (names Key (entries slots)) by_key n limit at → FirstAbove slots by_key n limit at
    above_miss at miss = record { within = miss.within; none = λ k h. not_above k (omega (arith, miss.below k h)) }
