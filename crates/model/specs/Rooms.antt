-- Rule 5: evictions, one after another, until there is room.
use Rattle.std.specs.Prelude.{Bool, true, false, List, [], ◌∷◌, ◌++◌, ℕ, zero, suc, ◌+◌, ◌-◌, eqb, ltb}
use Rattle.std.proofs.Math.Option.{Option, none, some}
use Rattle.model.specs.Row.{Page}
use Rattle.model.specs.Sweep.{Swept, sweep, sweep_falls}
use Rattle.model.specs.Cache.{Cache, held_in, with_row, with_estimate, page_may_go, count_out}
use Rattle.model.specs.Call.{Outcome}

-- ── one eviction ─────────────────────────────────────────────────────────────
abbrev pub sweep_of : Cache → Swept
sweep_of c = sweep page_may_go c.row

abbrev pub victim_out : Option Page → ℕ → ℕ
victim_out none n = n
victim_out (some p) n = count_out p n

-- the cache after the sweep
abbrev pub evicted : Cache → Cache
evicted c = with_estimate (victim_out (sweep_of c).victim c.estimate) (with_row (sweep_of c).row c)

-- ── evictions ────────────────────────────────────────────────────────────────
-- what they come to: whether the last sweep answered Full; pages passed, a failed sweep counting 4n; uses taken away;
-- the handles of the pages that went, in order
pub record Room : Type 0 where
  pub full : Bool
  pub passed : ℕ
  pub falls : ℕ
  pub gone : List ℕ
  pub cache : Cache

abbrev pub enough : Cache → Room
enough c = record { full = false; passed = 0; falls = 0; gone = []; cache = c }

-- a sweep of c that took this victim, and then the rest; a sweep that took none is the last
abbrev pub sweeping : Cache → Option Page → Room → Room
sweeping c none rest = record { full = true; passed = (sweep_of c).passed; falls = sweep_falls page_may_go c.row; gone = []; cache = evicted c }
sweeping c (some p) rest = record {
  full = rest.full;
  passed = (sweep_of c).passed + rest.passed;
  falls = sweep_falls page_may_go c.row + rest.falls;
  gone = p.handle ∷ rest.gone;
  cache = rest.cache;
}

-- evict while held > target, k times at most
unfoldable pub evictions : ℕ → ℕ → Cache → Room
evictions zero target c = enough c
evictions (suc k) target c = elim (ltb target (held_in c)) [
  | true ↦ sweeping c (sweep_of c).victim (evictions k target (evicted c))
  | false ↦ enough c
]

-- evict while held > target
abbrev pub evict_to : ℕ → Cache → Room
evict_to target c = evictions (held_in c) target c

-- making room for one: capacity 0 is Full without a sweep; otherwise evict while held > capacity - 1
unfoldable pub make_room : Cache → Room
make_room c = elim (eqb c.capacity 0) [
  | true ↦ record { full = true; passed = 0; falls = 0; gone = []; cache = c }
  | false ↦ evict_to (c.capacity - 1) c
]

-- the outcome, after those evictions
abbrev pub following : Room → Outcome → Outcome
following r o = record {
  code = o.code;
  value = o.value;
  passed = r.passed + o.passed;
  listed = r.gone ++ o.listed;
  touches = o.touches;
  falls = r.falls + o.falls;
  cache = o.cache;
}
