-- The loop of evictions: each page that goes leaves its handle at the next place of the list, and there are as many places
-- left as pages. A sweep passes at most 4 * max_slots pages and leaves one less, so that the sum of the passed ones is bounded.
use mathlib.Core.Path.{◌≡◌, ap, ◌∙◌}
use mathlib.Core.Bool.{Bool, true, false}
use mathlib.Core.List.{List, [], ◌∷◌, ◌++◌}
use Prim.Native.Nat.{ℕ, suc, ◌+◌, ◌*◌, ◌≤◌, ◌<◌}
use native.Mathlib.Omega.{arith}
use lib.ListN.{length, set}
use Rattle.page.specs.Cache.{max_slots}
use Rattle.page.specs.Entry.{ref_max}
use Rattle.page.specs.declared.cache.PageCache.{PageCache}
use Rattle.page.specs.declared.names.PageHandle.{PageHandle}
use Rattle.model.specs.Cache.{Cache}
use Rattle.model.specs.Rooms.{Room, evict_to}
use Rattle.memory.specs.Memory.{Memory}
use Rattle.memory.specs.Holds.{Holds}
use Rattle.memory.proofs.OnceKept.{holds_held, holds_fits}
use Rattle.eviction.specs.Evict.{Occupied, Takes, Refuses}
use Rattle.eviction.specs.Room.{ReadyToEvict, Made}
use Rattle.eviction.proofs.Step.{took_is_the_sweep, full_is_the_sweep, took_passed_bound}
use Rattle.eviction.proofs.Rooms.{Toward, Reached, toward_start, toward_enough, toward_held, toward_took, toward_full}
use Rattle.eviction.proofs.Written.{Written, written_none, written_long, written_more}

-- the loop began with memory m, its head and a list of `from` handles, and has come to m', head' and a list of `count`
pub record EvictLoop (m : Memory) (head : PageCache) (list : List ℕ) (from target : ℕ) (m' : Memory) (head' : PageCache) (list' : List ℕ)
    (passed count : ℕ) : Type 0 where
  pub ready : ReadyToEvict m head list from
  -- the handles that went, and a place for each page that is left
  pub gone : List ℕ
  pub written : Written list from gone list' count
  pub places : count + head'.held ≤ length list
  -- each page that went stands for at most 4 * max_slots passed
  pub small : passed + suc ref_max * max_slots * head'.held ≤ suc ref_max * max_slots * max_slots
  -- and the evictions that are left come to what all of them come to, whatever cache the memory held at first
  pub toward : (c : Cache) → Holds m head c → Toward (evict_to target c) target m' head' passed gone

-- no more pages are held than a pool may have slots
held_most : {m : Memory} {head : PageCache} {c : Cache} → Holds m head c → head.held ≤ max_slots
held_most H = omega (arith, holds_held H, holds_fits H, H.limits.most)

pub evict_loop_start : {m : Memory} {head : PageCache} {list : List ℕ} {from : ℕ} (target : ℕ) → ReadyToEvict m head list from
    → EvictLoop m head list from target m head list 0 from
evict_loop_start target ready = record {
  ready = ready;
  gone = [];
  written = written_none _ _;
  places = ready.places;
  small = omega (arith, held_most ready.sound.holds);
  toward = λ c H. toward_start H;
}

module _ {m : Memory} {head : PageCache} {list : List ℕ} {from target : ℕ} {m' : Memory} {head' : PageCache} {list' : List ℕ} {passed count : ℕ}
    (u : EvictLoop m head list from target m' head' list' passed count) where
  -- for the cache that the memory is known to hold
  abbrev known : Toward (evict_to target u.ready.sound.cache) target m' head' passed u.gone
  known = u.toward u.ready.sound.cache u.ready.sound.holds

  pub evict_loop_long : length list' ≡ length list
  evict_loop_long = written_long u.written (omega (arith, u.places))

  reached_made : {room : Room} {m'' : Memory} {is_full : Bool} {n : ℕ} → Reached room m'' head' is_full n u.gone
      → Made room list from m'' list' (record { full = is_full; passed = n; listed = count; head = head' })
  reached_made {room} r =
      let counted : count ≡ from + length room.gone = u.written.counted ∙ ap (λ (l : List ℕ). from + length l) r.gone in
      record {
        full = r.full;
        passed = r.passed;
        holds = r.holds;
        listed = counted;
        handles = rw (← counted, ← r.gone) u.written.handles;
      }

  -- `full` is as it was when the loop began
  pub evict_loop_done : {is_full : Bool} → is_full ≡ false → head'.held ≤ target → (c : Cache) → Holds m head c
      → Made (evict_to target c) list from m' list' (record { full = is_full; passed = passed; listed = count; head = head' })
  evict_loop_done going few c H = rw going (reached_made (toward_enough (u.toward c H) few))

  module _ (more : target < head'.held) where
    pub evict_loop_occupied : Occupied m' head'
    evict_loop_occupied = record { sound = record { cache = _; holds = known.holds }; some_held = omega arith }

    -- a page goes
    module _ {m'' : Memory} {handle : PageHandle} {n : ℕ} {head'' : PageCache} (took : (c : Cache) → Holds m' head' c → Takes c m'' handle n head'') where
      pub evict_loop_held : head''.held + 1 ≡ head'.held
      evict_loop_held = toward_held known more (took_is_the_sweep known.holds (took known.now known.holds))

      evict_loop_bound : n ≤ suc ref_max * max_slots
      evict_loop_bound =
          let H = known.holds in
          omega (arith, took_passed_bound H (took known.now H), holds_held H, held_most H)

      pub evict_loop_sum : passed + n ≤ suc ref_max * max_slots * max_slots
      evict_loop_sum = omega (arith, u.small, evict_loop_bound)

      pub evict_loop_took : EvictLoop m head list from target m'' head'' (set list' count handle.0) (passed + n) (count + 1)
      evict_loop_took = record {
        ready = u.ready;
        gone = u.gone ++ handle.0 ∷ [];
        written = written_more u.written handle.0 (omega (arith, u.places));
        places = omega (arith, u.places, evict_loop_held);
        small = omega (arith, u.small, evict_loop_bound, evict_loop_held);
        toward = λ c H.
            let t = u.toward c H in
            toward_took t more (took_is_the_sweep t.holds (took t.now t.holds));
      }

    -- none may go
    module _ {m'' : Memory} {n : ℕ} (full : (c : Cache) → Holds m' head' c → Refuses c m'' n head') where
      pub evict_loop_full_sum : passed + n ≤ suc ref_max * max_slots * max_slots
      evict_loop_full_sum =
          let H = known.holds in
          omega (arith, u.small, (full known.now H).none.rounds, holds_held H, held_most H)

      pub evict_loop_full : (c : Cache) → Holds m head c
          → Made (evict_to target c) list from m'' list' (record { full = true; passed = passed + n; listed = count; head = head' })
      evict_loop_full c H =
          let t = u.toward c H in
          reached_made (toward_full t more (full_is_the_sweep t.holds (full t.now t.holds)))
