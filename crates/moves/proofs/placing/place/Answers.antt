-- The memory is put together by the calls in order: what each asks is a law of sound memory with a slot to spare, and what
-- they leave holds the cache that the page has entered.
use Rattle.moves.proofs.Placement.{spare_mark, by_key_room, by_handle_room, held_small, free_marked, free_seatable, placed}
use Rattle.moves.proofs.placing.place.Goals as goal

pub lowest_free-s-requires : goal.lowest_free-s-requires
lowest_free-s-requires c = spare_mark c.requires.holds c.requires.room

pub mark_held-requires : goal.mark_held-requires
mark_held-requires c = free_marked c.requires.holds c.lowest_free-s.ensures

pub enlist_at-requires : goal.enlist_at-requires
enlist_at-requires c = by_key_room c.requires.holds c.requires.room c.requires.right

pub enlist_at-requires-2 : goal.enlist_at-requires-2
enlist_at-requires-2 c = by_handle_room c.requires.holds c.requires.room c.requires.right

pub seat-requires : goal.seat-requires
seat-requires c = free_seatable c.requires.holds c.lowest_free-s.ensures

pub head_with-requires : goal.head_with-requires
head_with-requires c = held_small c.requires.holds c.requires.room

pub returns-clause-placed : goal.returns-clause-placed
returns-clause-placed c = λ w H names. placed H c.requires.right c.requires.flags (record {
  slot = c.lowest_free-s.result;
  estimate = c.count_in-estimate.result;
  entry = c.new-e.result;
  slots_kept = c.seat.auto.slots;
  keys_kept = c.enlist_at.auto.order;
  handles_kept = c.enlist_at-2.auto.order;
  lowest = c.lowest_free-s.ensures;
  taken = c.mark_held.ensures;
  by_key = c.enlist_at.ensures;
  by_handle = c.enlist_at-2.ensures;
  made = c.new-e.ensures;
  seated = c.seat.ensures;
  counted = c.count_in-estimate.ensures;
  head_is = c.head_with.ensures;
})
