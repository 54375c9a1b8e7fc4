-- A turn of a loop over the n slots of an index: it is at one of its places, and loads the entry of the slot there.
use mathlib.Core.Path.{◌≡◌, ap}
use mathlib.Core.List.{List}
use Prim.Native.Nat.{ℕ, ◌≤◌, ◌<◌}
use native.Mathlib.Omega.{arith}
use lib.ListN.{length, get_or, take}
use lib.Seq.{length-take-le}
use Rattle.std.proofs.lemmas.List.{get_or-take}
use Rattle.page.specs.declared.entry.PageCacheEntry.{PageCacheEntry}
use Rattle.pool.specs.Slots.{blank, entries}
use Rattle.sorted_index.specs.Index.{Index}
use Rattle.sorted_index.specs.Names.{names}
use Rattle.sorted_index.specs.declared.search.By.TheVariants.{Key}
use Rattle.sorted_index.proofs.Names.{index_slot}
use Rattle.memory.specs.Memory.{Memory}
use Rattle.memory.specs.Walk.{walk}

module _ (by_key : List ℕ) {n i : ℕ} (fits : n ≤ length by_key) (turn : i < length (take n by_key)) where
  pub turn_within : i < n
  turn_within = omega (arith, length-take-le n by_key fits)

  turn_slot : get_or (take n by_key) i 0 ≡ get_or by_key i 0
  turn_slot = get_or-take n by_key i 0 turn_within

module _ (slots by_key : List ℕ) {n i : ℕ} (index : Index (names Key (entries slots)) by_key n) (turn : i < length (take n by_key)) where
  pub turn_inside : get_or (take n by_key) i 0 < length (entries slots)
  turn_inside = rw (turn_slot by_key index.fits turn) (index_slot Key (entries slots) index (turn_within by_key index.fits turn))

  pub turn_loads : {e : PageCacheEntry} → e ≡ get_or (entries slots) (get_or (take n by_key) i 0) blank → e ≡ get_or (entries slots) (get_or by_key i 0) blank
  turn_loads loaded = rw (turn_slot by_key index.fits turn) at loaded

-- the walk over a memory is that over a view of it
pub walk_seen : {m m' : Memory} (n : ℕ) → m ≡ m' → walk m.slots m.by_key n ≡ walk m'.slots m'.by_key n
walk_seen n seen = ap (λ (m : Memory). walk m.slots m.by_key n) seen
