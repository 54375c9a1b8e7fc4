-- The places behind the index are looked at only if the index is in order.
use native.Mathlib.Omega.{arith}
use lib.ListN.{length}
use Rattle.std.proofs.Common.{refl}
use Rattle.std.proofs.lemmas.Slice.{between_to_end}
use Rattle.soundness.proofs.Ordering.{index_decides}
use Rattle.soundness.proofs.index.lists.Goals as goal

pub returns-then-is_ordered : goal.returns-then-is_ordered
returns-then-is_ordered c = index_decides c.requires.fits (c.if-is_ordered.ensures.right refl) (rw (between_to_end c.args.order.now c.args.n (length c.args.order.now) (omega arith)) at c.is_clear.ensures)
