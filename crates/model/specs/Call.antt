-- The calls with their arguments, and what a call comes to.
use Rattle.std.specs.Prelude.{Bool, List, [], ◌++◌, ℕ, ◌+◌}
use Rattle.page.specs.declared.record.PageRecord.{PageRecord}
use Rattle.model.specs.Cache.{Cache}

-- the three insertions
pub data Insertion : Type 0 where
  plain : Insertion
  forced : Insertion
  upsert : Insertion

-- `places` is the length of the list that is lent to a call that removes or selects
pub data Call : Type 0 where
  create : (capacity : ℕ) → Call
  insert : (how : Insertion) (key handle : ℕ) (state : PageRecord) (places : ℕ) → Call
  lookup : (key places : ℕ) → Call
  peek : (key : ℕ) (touch : Bool) → Call
  release : (key : ℕ) → Call
  delete : (key places : ℕ) → Call
  resize : (capacity places : ℕ) → Call
  truncate : (limit places : ℕ) → Call
  remove_frames : (limit places : ℕ) → Call
  clear : (dirty_too : Bool) (places : ℕ) → Call
  notify_dirty : (key : ℕ) → Call
  notify_spilled : (key : ℕ) → Call
  write : (key : ℕ) (state : PageRecord) → Call
  spill : (most places : ℕ) → Call
  evict_one : (places : ℕ) → Call
  switch : (on : Bool) → Call

pub record Outcome : Type 0 where
  -- 01's answer code
  pub code : ℕ
  -- found handle, replaced handle, refusing key, number selected, else 0
  pub value : ℕ
  -- pages passed, over all sweeps of the call
  pub passed : ℕ
  -- the handles that the call removed, in order of removal, or selected, by key
  pub listed : List ℕ
  -- the touches that the call did, and the uses that its sweeps took away: no part of the answer, but demand 3 counts them
  pub touches : ℕ
  pub falls : ℕ
  pub cache : Cache

-- ── outcomes are put together from these ─────────────────────────────────────
-- a code and a value, nothing passed, nothing listed
abbrev pub answer : (code value : ℕ) → Cache → Outcome
answer code value c = record { code = code; value = value; passed = 0; listed = []; touches = 0; falls = 0; cache = c }

-- the outcome, with these handles before those that it lists
abbrev pub listing : List ℕ → Outcome → Outcome
listing handles o = record {
  code = o.code;
  value = o.value;
  passed = o.passed;
  listed = handles ++ o.listed;
  touches = o.touches;
  falls = o.falls;
  cache = o.cache;
}

-- the outcome, with one touch more
abbrev pub touching : Outcome → Outcome
touching o = record {
  code = o.code;
  value = o.value;
  passed = o.passed;
  listed = o.listed;
  touches = o.touches + 1;
  falls = o.falls;
  cache = o.cache;
}
