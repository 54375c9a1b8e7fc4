-- Room for one page more: with capacity 0 none is made, and nothing changes; otherwise one page less than the capacity may
-- stay. The head's capacity is the cache's.
use mathlib.Core.Path.{◌≡◌, refl, sym, ◌∙◌}
use mathlib.Core.Bool.{true}
use mathlib.Core.List.{List, []}
use Prim.Native.Nat.{ℕ, ◌-◌}
use borrow.Author.Tests.{eq-eqb, ne_eqb}
use Rattle.page.specs.declared.cache.PageCache.{PageCache}
use Rattle.model.specs.Cache.{Cache}
use Rattle.model.specs.Rooms.{evict_to, make_room}
use Rattle.memory.specs.Memory.{Memory}
use Rattle.memory.specs.Holds.{Holds}
use Rattle.eviction.specs.Room.{Made}
use Rattle.eviction.specs.declared.making_room.Room as code
use Rattle.eviction.proofs.Written.{written_none}

-- ── in the model ─────────────────────────────────────────────────────────────
module _ (c : Cache) where
  -- capacity 0 is Full without a sweep
  room_none : c.capacity ≡ 0 → make_room c ≡ record { full = true; passed = 0; falls = 0; gone = []; cache = c }
  unfolding make_room
  room_none q = rw (eq-eqb c.capacity 0 q, make_room)

  -- otherwise evict while held > capacity - 1
  room_one : (c.capacity ≡ 0 → ⊥) → make_room c ≡ evict_to (c.capacity - 1) c
  unfolding make_room
  room_one n = rw (ne_eqb c.capacity 0 n, make_room)

-- ── in memory ────────────────────────────────────────────────────────────────
module _ {m : Memory} {head : PageCache} {c : Cache} (H : Holds m head c) {list : List ℕ} {from : ℕ} where
  pub made_none : head.capacity ≡ 0 → Made (make_room c) list from m list (record { full = true; passed = 0; listed = from; head = head })
  made_none q =
      let w = written_none list from in
      rw (room_none c (sym H.headed.capacity ∙ q)) record {
        full = refl;
        passed = refl;
        holds = H;
        listed = w.counted;
        handles = rw (← w.counted) w.handles;
      }

  pub made_one : {m' : Memory} {list' : List ℕ} {r : code.Room} → (head.capacity ≡ 0 → ⊥)
      → Made (evict_to (head.capacity - 1) c) list from m' list' r → Made (make_room c) list from m' list' r
  made_one n made = rw (room_one c (λ q. n (H.headed.capacity ∙ q))) (rw H.headed.capacity at made)
