-- The record that is loaded is the page's, and it is stale or not.
use Rattle.insertion.proofs.Keys.{found_inside, found_replaceable, found_stale, found_present}
use Rattle.insertion.proofs.by_key.insert_found.Goals as goal

pub load-requires : goal.load-requires
load-requires c = found_inside c.requires

pub returns-then-is_stale-clause-outcome : goal.returns-then-is_stale-clause-outcome
returns-then-is_stale-clause-outcome c = found_stale c.load.ensures c.is_stale.ensures c.if-is_stale.true c.insert_stale.ensures.outcome

pub present-requires : goal.present-requires
present-requires c = found_replaceable c.requires

pub returns-clause-outcome : goal.returns-clause-outcome
returns-clause-outcome c = found_present c.load.ensures c.is_stale.ensures c.if-is_stale.false c.present.ensures
