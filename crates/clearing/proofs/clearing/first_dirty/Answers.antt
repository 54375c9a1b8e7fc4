-- Every page that the walk has passed is clean.
use Rattle.clearing.proofs.Turns.{turn_within, turn_inside, turn_loads}
use Rattle.clearing.proofs.Hindered.{clean_start, clean_more, clean_ends}
use Rattle.clearing.proofs.clearing.first_dirty.Goals as goal

pub loop-s-init : goal.loop-s-init
loop-s-init c = clean_start

pub load-e-requires : goal.load-e-requires
load-e-requires c = turn_inside c.args.memory.slots.now c.args.memory.by_key.now c.requires c.loop-s-test.true

pub returns-then-is_dirty : goal.returns-then-is_dirty
returns-then-is_dirty c =
    let loaded = turn_loads c.args.memory.slots.now c.args.memory.by_key.now c.requires c.loop-s-test.true c.load-e.ensures in
    clean_ends c.requires c.loop-s.invariant loaded c.is_dirty.ensures (turn_within c.args.memory.by_key.now c.requires.fits c.loop-s-test.true) c.if-is_dirty.true

pub loop-s-preserved : goal.loop-s-preserved
loop-s-preserved c =
    let loaded = turn_loads c.args.memory.slots.now c.args.memory.by_key.now c.requires c.loop-s-test.true c.load-e.ensures in
    clean_more c.requires c.loop-s.invariant loaded c.is_dirty.ensures (turn_within c.args.memory.by_key.now c.requires.fits c.loop-s-test.true) c.if-is_dirty.false
