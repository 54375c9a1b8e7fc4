-- The search's answer, and what it says of the row: of a handle that is found the key of its entry tells.
use Rattle.pool.specs.Slots.{entries}
use Rattle.sorted_index.specs.declared.search.By.TheVariants.{Handle}
use Rattle.sorted_index.proofs.Names.{index_slot}
use Rattle.moves.proofs.Search.{handle_new, handle_here, handle_elsewhere_lem}
use Rattle.moves.proofs.finding.seat_of_handle.Goals as goal

pub name-requires : goal.name-requires
name-requires c = index_slot Handle (entries c.args.slots.now) c.requires c.in-Ok.ensures.within

pub returns-then-name-key : goal.returns-then-name-key
returns-then-name-key c = record {
  seat = λ by_key marks head w H held. handle_elsewhere_lem H held _ _ c.in-Ok.ensures c.name.ensures c.if-name-key.true;
  gap = tt;
}

pub returns-else-name-key : goal.returns-else-name-key
returns-else-name-key c = record {
  seat = λ by_key marks head w H held. handle_here H held _ _ c.in-Ok.ensures c.name.ensures c.if-name-key.false;
  gap = tt;
}

pub returns-in-Err : goal.returns-in-Err
returns-in-Err c = record { seat = λ by_key marks head w H held. handle_new H held c.in-Err.ensures; gap = c.in-Err.ensures }
