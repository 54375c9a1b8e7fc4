-- The entry of a held page, and its use count (01, rules 1 to 3).
use Rattle.std.specs.Prelude.{ℕ, ◌+◌, ◌-◌, min}
use Rattle.page.specs.declared.entry.PageCacheEntry.{PageCacheEntry}
use Rattle.page.specs.declared.names.PageCacheKey.{PageCacheKey}
use Rattle.page.specs.declared.names.PageHandle.{PageHandle}
use Rattle.page.specs.declared.record.PageRecord.{PageRecord}

-- the use count is 0 to 3
abbrev pub ref_max : ℕ
ref_max = 3

-- rule 1: a new page has count 0
abbrev pub new_entry : PageCacheKey → PageHandle → PageRecord → PageCacheEntry
new_entry k h p = record {
  key = k;
  handle = h;
  page = p;
  uses = 0;
  spare = 0;
  next = record { 0 = 0 };
  prev = record { 0 = 0 };
}

-- the entry with another use count
abbrev pub with_uses : PageCacheEntry → ℕ → PageCacheEntry
with_uses e u = record {
  key = e.key;
  handle = e.handle;
  page = e.page;
  uses = u;
  spare = e.spare;
  next = e.next;
  prev = e.prev;
}

-- rule 2: a touch raises the count by 1, at most to 3
abbrev pub raised : ℕ → ℕ
raised u = min ref_max (u + 1)

-- rule 3: a page that a sweep passes loses 1, if it may go
abbrev pub lowered : ℕ → ℕ
lowered u = u - 1
