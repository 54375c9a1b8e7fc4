-- What stands from place `at` on is copied one place up, and the slot goes there.
use Rattle.sorted_index.proofs.Shifting.{put_in}
use Rattle.sorted_index.proofs.shift.insert_at.Goals as goal

pub returns : goal.returns
returns c = rw c.copy_within.ensures.after (put_in c.args.order.now c.args.n c.args.at c.args.slot.0 c.requires)
