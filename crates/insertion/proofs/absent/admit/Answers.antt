-- Room is made, or the mode decides whether the page goes in without it. The gaps are right for the memory with the room.
use native.Mathlib.Omega.{arith}
use Rattle.insertion.proofs.Admission.{few_listed, room_known, room_placeable, admits_refused, admits_placed}
use Rattle.insertion.proofs.absent.admit.Goals as goal

pub overflow_cast-count : goal.overflow_cast-count
overflow_cast-count c =
    omega (arith, few_listed c.requires.holds (c.make_room_for-room.ensures.outcome _ c.requires.holds) c.requires.kept c.requires.few)

pub returns-then-room-goes_in-clause-outcome : goal.returns-then-room-goes_in-clause-outcome
returns-then-room-goes_in-clause-outcome c = admits_refused c.make_room_for-room.ensures.outcome c.goes_in.ensures c.turned_away.ensures c.if-room-goes_in.true

pub gaps_now-right-requires : goal.gaps_now-right-requires
gaps_now-right-requires c =
    rw c.view.ensures
    (room_known c.requires.holds (c.make_room_for-room.ensures.outcome _ c.requires.holds) c.args.asked c.requires.kept
    c.words_fit.ensures.marks c.words_fit-2.ensures.marks c.requires.right)

pub place-after-requires : goal.place-after-requires
place-after-requires c =
    room_placeable c.requires.holds (c.make_room_for-room.ensures.outcome _ c.requires.holds) c.args.asked.mode c.goes_in.ensures
    c.requires.kept (rw c.view.ensures at c.gaps_now-right.ensures) c.requires.flags c.if-room-goes_in.false

pub returns-clause-outcome : goal.returns-clause-outcome
returns-clause-outcome c = admits_placed c.make_room_for-room.ensures.outcome c.goes_in.ensures c.if-room-goes_in.false c.place-after.ensures.placed
