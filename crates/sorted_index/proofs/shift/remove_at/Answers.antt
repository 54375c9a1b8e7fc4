-- What stands after place `at` is copied one place down, and the last place is zeroed.
use Rattle.sorted_index.proofs.Shifting.{taken_out}
use Rattle.sorted_index.proofs.shift.remove_at.Goals as goal

pub returns : goal.returns
returns c = rw c.copy_within.ensures.after (taken_out c.args.order.now c.args.n c.args.at c.requires)
