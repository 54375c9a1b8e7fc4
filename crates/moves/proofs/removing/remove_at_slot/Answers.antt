-- The memory is taken apart by the calls in order: what each asks is a law of sound memory, and what they leave holds the
-- cache without the page.
use Rattle.memory.proofs.Standing.{holds_by_key, holds_by_handle}
use Rattle.moves.proofs.Removal.{slot_inside, slot_unlinkable, slot_marked, some_held, removed}
use Rattle.moves.proofs.removing.remove_at_slot.Goals as goal

pub load-e-requires : goal.load-e-requires
load-e-requires c = slot_inside c.requires.holds c.requires.stands

pub unlist-requires : goal.unlist-requires
unlist-requires c = holds_by_key c.requires.holds

pub unlist-requires-2 : goal.unlist-requires-2
unlist-requires-2 c = holds_by_handle c.requires.holds

pub unlink-after-requires : goal.unlink-after-requires
unlink-after-requires c = slot_unlinkable c.requires.holds c.requires.stands

pub mark_free-requires : goal.mark_free-requires
mark_free-requires c = slot_marked c.requires.holds c.requires.stands

pub head_without-requires : goal.head_without-requires
head_without-requires c = some_held c.requires.holds c.requires.stands

pub returns-clause-removed : goal.returns-clause-removed
returns-clause-removed c = λ w key e H at. removed H at (record {
  stored = c.load-e.result;
  after = c.unlink-after.result;
  estimate = c.count_out-estimate.result;
  slots_kept = c.unlink-after.auto.slots;
  keys_kept = c.unlist.auto.order;
  handles_kept = c.unlist-2.auto.order;
  loaded = c.load-e.ensures;
  by_key = c.unlist.ensures;
  by_handle = c.unlist-2.ensures;
  unlinked = c.unlink-after.ensures;
  freed = c.mark_free.ensures;
  counted = c.count_out-estimate.ensures;
  head_is = c.head_without.ensures;
})
