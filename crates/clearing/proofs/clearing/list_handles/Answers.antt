-- The list has the handles of the pages that the walk has passed.
use Rattle.clearing.proofs.Turns.{turn_within, turn_inside, turn_loads}
use Rattle.clearing.proofs.Handles.{listing_more}
use Rattle.clearing.proofs.clearing.list_handles.Goals as goal

pub load-requires : goal.load-requires
load-requires c = turn_inside c.args.memory.slots.now c.args.memory.by_key.now c.requires.index c.loop-i-test.true

pub loop-i-preserved : goal.loop-i-preserved
loop-i-preserved c =
    let loaded = turn_loads c.args.memory.slots.now c.args.memory.by_key.now c.requires.index c.loop-i-test.true c.load.ensures in
    listing_more c.requires c.loop-i.invariant loaded (turn_within c.args.memory.by_key.now c.requires.index.fits c.loop-i-test.true)
