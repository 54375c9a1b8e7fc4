-- Each turn is an eviction: a page goes and its handle is listed, or none may go and the loop ends there. The measure is the
-- number of pages held.
use Rattle.std.specs.Prelude.{◌≡◌, false}
use Rattle.memory.specs.Memory.{memory_in, SameSlices}
use Rattle.eviction.proofs.EvictLoop.{EvictLoop}
use Rattle.eviction.proofs.making_room.evict_to.Given as goal

abbrev pub invariant-loop-room : goal.invariant-loop-room
invariant-loop-room l =
    EvictLoop (memory_in l.initial.memory) l.initial.room.head l.initial.list l.listed l.target (memory_in l.memory) l.room.head l.list l.room.passed l.room.listed
    × l.room.full ≡ false × SameSlices l.initial.memory l.memory

abbrev pub decreases-loop-room : goal.decreases-loop-room
decreases-loop-room l = l.room.head.held
