-- A block that may stand where it does, and has a size that it can have, is passed; at any other the chain is bad.
use Rattle.std.proofs.Common.{arith, rules}
use Rattle.std.proofs.lemmas.Grind.{common_steps}
use Rattle.freeblocks.proofs.Walking.{walk_ends, walk_strays, walk_missized, walk_goes_on}
use Rattle.freeblocks.proofs.first_bad.Goals as goal

pub returns-then-block-eq0 : goal.returns-then-block-eq0
returns-then-block-eq0 c = walk_ends c.loop-end.invariant c.half_at-block.ensures.value c.if-block-eq0.true

pub returns-then-not-contains : goal.returns-then-not-contains
returns-then-not-contains c =
    walk_strays c.loop-end.invariant c.half_at-block.ensures.value c.if-block-eq0.false
    (λ stands. grind (arith, common_steps, stands.after, stands.room))

pub returns-then-not-contains-2 : goal.returns-then-not-contains-2
returns-then-not-contains-2 c =
    walk_missized c.loop-end.invariant c.half_at-block.ensures.value c.if-block-eq0.false (search rules)
    c.half_at-size.ensures.value (λ fits. grind (arith, common_steps, fits.large, fits.within))

pub loop-end-preserved : goal.loop-end-preserved
loop-end-preserved c =
    walk_goes_on c.loop-end.invariant c.half_at-block.ensures.value c.if-block-eq0.false (search rules)
    c.half_at-size.ensures.value (search rules)
