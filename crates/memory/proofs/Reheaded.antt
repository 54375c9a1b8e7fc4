-- Capacity, switch and estimate stand in the head alone: memory that holds a cache holds the one with others, once a head says so.
use mathlib.Core.Bool.{Bool}
use Prim.Native.Nat.{ℕ, ◌≤◌}
use Rattle.page.specs.declared.cache.PageCache.{PageCache}
use Rattle.model.specs.Cache.{Cache}
use Rattle.memory.specs.Memory.{Memory}
use Rattle.memory.specs.Holds.{Headed, Holds}

-- the cache with another capacity, switch and estimate
abbrev pub reset : (capacity : ℕ) (spill : Bool) (estimate : ℕ) → Cache → Cache
reset capacity spill estimate c = record { size = c.size; capacity = capacity; spill = spill; estimate = estimate; row = c.row }

pub reheaded : {m : Memory} {head head' : PageCache} {c : Cache} (H : Holds m head c) (capacity : ℕ) (spill : Bool) (estimate : ℕ)
    → capacity ≤ c.size → Headed head' (reset capacity spill estimate c) H.seats → Holds m head' (reset capacity spill estimate c)
reheaded H capacity spill estimate within headed = record {
  seats = H.seats;
  lengths = H.lengths;
  seated = H.seated;
  row = H.row;
  keys = H.keys;
  handles = H.handles;
  marked = H.marked;
  headed = headed;
  limits = record { some = H.limits.some; most = H.limits.most; capacity = within; good = H.limits.good };
}
