-- The head of a cache after a page went or came, and the entries after one came (01, rules 1, 4 and 12).
use Rattle.std.specs.Prelude.{cond, List, ℕ, ◌+◌, ◌-◌, eqb}
use Rattle.page.specs.declared.cache.PageCache.{PageCache}
use Rattle.page.specs.declared.entry.PageCacheEntry.{PageCacheEntry}
use Rattle.ring_links.specs.Links.{linked_first, linked_after}

-- rule 4. The page at slot s is out: if it was the hand's, the hand moves on to the slot after it; if it was the only one,
-- the hand is none
abbrev pub head_without : PageCache → (s after estimate : ℕ) → PageCache
head_without head s after estimate = record {
  capacity = head.capacity;
  held = head.held - 1;
  hand = record { 0 = cond (eqb head.held 1) 0 (cond (eqb head.hand.0 s) after head.hand.0) };
  spill = head.spill;
  estimate = estimate;
}

-- rule 1. A page is in at slot s: a first one is the hand
abbrev pub head_with : PageCache → (s estimate : ℕ) → PageCache
head_with head s estimate = record {
  capacity = head.capacity;
  held = head.held + 1;
  hand = record { 0 = cond (eqb head.held 0) s head.hand.0 };
  spill = head.spill;
  estimate = estimate;
}

-- rule 1. The entry e is put in at slot s: a first one is its own ring, another goes directly after the hand
abbrev pub seated_at : List PageCacheEntry → PageCache → ℕ → PageCacheEntry → List PageCacheEntry
seated_at es head s e = cond (eqb head.held 0) (linked_first es s e) (linked_after es head.hand.0 s e)
