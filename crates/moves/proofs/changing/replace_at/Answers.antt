-- What is stored is what was loaded, with the handle and the record; the index lists it so, and the estimate follows.
use mathlib.Core.Path.{refl}
use Rattle.moves.proofs.Replacement.{slot_inside, can_relist, replaced_at}
use Rattle.moves.proofs.changing.replace_at.Goals as goal

pub load-old-requires : goal.load-old-requires
load-old-requires c = slot_inside c.requires.holds c.requires.stands

pub relist-requires : goal.relist-requires
relist-requires c = can_relist c.requires.holds c.requires.stands c.requires.free c.load-old.ensures

pub store-requires : goal.store-requires
store-requires c = slot_inside c.requires.holds c.requires.stands

pub returns : goal.returns
returns c = λ by_key marks w key e H at free. replaced_at H at free c.requires.flags (record {
  old = c.load-old.result;
  estimate = c.count_over.result;
  loaded = c.load-old.ensures;
  handles_kept = c.relist.auto.by_handle;
  relisted = c.relist.ensures;
  stored = record { long = c.store.auto.slots; written = c.store.ensures };
  counted = c.count_over.ensures;
  head_is = refl;
})
