-- Each turn is an eviction: a page goes and its handle is listed, or none may go and the loop ends there. The measure is the
-- number of pages held.
use mathlib.Core.Path.{refl}
use borrow.Author.Rules.{rules}
use native.Mathlib.Omega.{arith}
use Rattle.eviction.proofs.EvictLoop.{evict_loop_start, evict_loop_done, evict_loop_occupied, evict_loop_held, evict_loop_sum, evict_loop_took, evict_loop_full_sum, evict_loop_full}
use Rattle.eviction.proofs.making_room.evict_to.Goals as goal

pub loop-room-init : goal.loop-room-init
loop-room-init c = (evict_loop_start c.args.target c.requires, refl, search rules)

pub evict_one-requires : goal.evict_one-requires
evict_one-requires c = evict_loop_occupied c.loop-room.invariant.0 c.loop-room-test.true

pub overflow_add-room-in-Err : goal.overflow_add-room-in-Err
overflow_add-room-in-Err c =
    omega (arith, evict_loop_full_sum c.loop-room.invariant.0 c.loop-room-test.true c.in-Err.ensures.outcome)

pub returns-in-Err-clause-outcome : goal.returns-in-Err-clause-outcome
returns-in-Err-clause-outcome c =
    evict_loop_full c.loop-room.invariant.0 c.loop-room-test.true c.in-Err.ensures.outcome

pub overflow_add-room-in-Ok : goal.overflow_add-room-in-Ok
overflow_add-room-in-Ok c =
    omega (arith, evict_loop_sum c.loop-room.invariant.0 c.loop-room-test.true c.in-Ok.ensures.outcome)

pub loop-room-smaller : goal.loop-room-smaller
loop-room-smaller c =
    omega (arith, evict_loop_held c.loop-room.invariant.0 c.loop-room-test.true c.in-Ok.ensures.outcome)

pub loop-room-preserved : goal.loop-room-preserved
loop-room-preserved c =
    (evict_loop_took c.loop-room.invariant.0 c.loop-room-test.true c.in-Ok.ensures.outcome, c.loop-room.invariant.1, search rules)

pub returns-clause-outcome : goal.returns-clause-outcome
returns-clause-outcome c = evict_loop_done c.loop-room.invariant.0 c.loop-room.invariant.1 c.loop-room-test.false
