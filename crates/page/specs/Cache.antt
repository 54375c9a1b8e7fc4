-- The head of a cache, its limits, and its rules for a single page (01, demand 3 and rules 1, 12, 13 and 14).
use Rattle.std.specs.Prelude.{Bool, not, ◌&&◌, ℕ, ◌*◌, ◌/◌, max, eqb}
use Rattle.page.specs.declared.cache.PageCache.{PageCache}
use Rattle.page.specs.declared.record.PageRecord.{PageRecord}
use Rattle.page.specs.Record.{locked, dirty, spilled, pinned, held, clean_or_spilled}

-- a pool has 1 to 4,096 slots
abbrev pub max_slots : ℕ
max_slots = 4096

-- rule 1: nothing held, estimate 0, spill on
abbrev pub created : ℕ → PageCache
created capacity = record {
  capacity = capacity;
  held = 0;
  hand = record { 0 = 0 };
  spill = 1;
  estimate = 0;
}

-- threshold = max(1, capacity * 90 / 100, rounded down)
abbrev pub threshold : ℕ → ℕ
threshold capacity = max 1 (capacity * 90 / 100)

-- ── a page by its key and its record ─────────────────────────────────────────
abbrev pub page_one : ℕ → Bool
page_one key = eqb key 1

-- a page may go if it is clean or spilled, unlocked, unpinned, held by nobody else and not page 1
abbrev pub may_go : ℕ → PageRecord → Bool
may_go key p = clean_or_spilled p && not (locked p) && not (pinned p) && not (held p) && not (page_one key)

-- rule 12: a page counts if it isn't page 1 and is clean or spilled
abbrev pub counts : ℕ → PageRecord → Bool
counts key p = not (page_one key) && clean_or_spilled p

-- rule 14: dirty, not spilled, not locked, not pinned, with 0 holders, not page 1, no overflow cells
abbrev pub spillable : ℕ → PageRecord → Bool
spillable key p = dirty p && not (spilled p) && not (locked p) && not (pinned p) && not (held p) && not (page_one key) && eqb p.cells 0
