-- The page goes and the new one is admitted, with gaps of after that; or it stays.
use Rattle.insertion.proofs.Renewal.{stale_deletable, stale_refused, stale_unseated, stale_admissible, stale_admitted}
use Rattle.insertion.proofs.stale.insert_stale.Goals as goal

pub delete_page-requires : goal.delete_page-requires
delete_page-requires c = stale_deletable c.requires

pub find_gaps-gaps-requires : goal.find_gaps-gaps-requires
find_gaps-gaps-requires c = rw c.view.ensures (stale_unseated c.in-Ok.ensures.outcome c.requires)

pub admit-requires : goal.admit-requires
admit-requires c = stale_admissible c.in-Ok.ensures.outcome c.requires c.delete_page.auto.list (rw c.view.ensures at c.find_gaps-gaps.ensures)

pub returns-in-Err-clause-outcome : goal.returns-in-Err-clause-outcome
returns-in-Err-clause-outcome c = rw c.plain.ensures (stale_refused c.in-Err.ensures.outcome)

pub returns-in-Ok-clause-outcome : goal.returns-in-Ok-clause-outcome
returns-in-Ok-clause-outcome c = stale_admitted c.in-Ok.ensures.outcome c.requires c.admit.ensures.outcome
