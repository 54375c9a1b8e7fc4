-- The hand's key in an answer is that of the first page in sweep order: the head's hand is the first seat of the ring, and a seat is
-- a slot.
use mathlib.Core.Path.{◌≡◌}
use mathlib.Core.List.{List, [], ◌∷◌}
use Prim.Native.Nat.{ℕ, ◌<◌}
use native.Mathlib.Omega.{arith}
use lib.ListN.{length, length-map}
use borrow.Author.Tests.{eq-eqb, ne_eqb, lt-ltb}
use Rattle.page.specs.declared.cache.PageCache.{PageCache}
use Rattle.page.specs.declared.entry.PageCacheEntry.{PageCacheEntry}
use Rattle.ring_links.specs.Links.{RingOf, nexts}
use Rattle.ring_links.specs.Ring.{first_of}
use Rattle.pool.specs.Slots.{entries}
use Rattle.model.specs.Cache.{Cache}
use Rattle.memory.specs.Memory.{Memory}
use Rattle.memory.specs.Holds.{Holds, row_of}
use Rattle.c_numbers.specs.Head.{hand_key, first_key}

by_seats : (es : List PageCacheEntry) (head : PageCache) (seats : List ℕ) → RingOf es seats → head.held ≡ length seats
    → head.hand.0 ≡ first_of seats → hand_key es head ≡ first_key (row_of es seats)
by_seats es head [] ring held hand = rw (eq-eqb head.held 0 held)
by_seats es head (s ∷ seats) ring held hand =
    let slots : length (nexts es) ≡ length es = length-map es (λ (e : PageCacheEntry). e.next.0) in
    let inside : head.hand.0 < length es = omega (arith, slots, hand, ring.inside.0) in
    rw (ne_eqb head.held 0 (λ z. absurd (omega (arith, z, held))), lt-ltb head.hand.0 (length es) inside, hand)

-- for memory that holds a cache
pub hand_key_first : {m : Memory} {head : PageCache} {c : Cache} → Holds m head c → hand_key (entries m.slots) head ≡ first_key c.row
hand_key_first {m} {head} {c} h =
    rw h.row (by_seats (entries m.slots) head h.seats h.seated.ring h.headed.held h.headed.hand)
