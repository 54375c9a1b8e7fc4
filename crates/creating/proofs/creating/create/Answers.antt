-- The refusals come before the first store; after them the four stores leave a new pool.
use borrow.Author.Rules.{rules}
use mathlib.Core.Path.{refl}
use Rattle.pool.proofs.Decides.{fails, passes}
use Rattle.creating.specs.Creation.{done, too_large, bad_lengths}
use Rattle.creating.proofs.NewPool.{created_well}
use Rattle.creating.proofs.creating.create.Goals as goal

pub returns-then-not-lengths_agree-clause-made : goal.returns-then-not-lengths_agree-clause-made
returns-then-not-lengths_agree-clause-made c =
    bad_lengths (record { lengths = fails (rw c.view.ensures at c.if-not-lengths_agree.ensures) refl; memory = refl })

pub returns-then-capacity-size-clause-made : goal.returns-then-capacity-size-clause-made
returns-then-capacity-size-clause-made c =
    too_large (record { lengths = passes (rw c.view.ensures at c.if-not-lengths_agree.ensures) refl; above = c.if-capacity-size.true; memory = refl })

pub returns-clause-made : goal.returns-clause-made
returns-clause-made c =
    done (created_well
    (passes (rw c.view.ensures at c.if-not-lengths_agree.ensures) refl)
    c.if-capacity-size.false
    (c.fill.ensures.after (search rules))
    (c.fill-2.ensures.after (search rules))
    (c.fill-3.ensures.after (search rules))
    c.mark_all_free.ensures
    c.new.ensures)
