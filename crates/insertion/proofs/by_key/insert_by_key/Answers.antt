-- What the search says of the row, and what then follows.
use mathlib.Core.Path.{refl}
use Rattle.deletion.proofs.Deleting.{seen_holds}
use Rattle.insertion.proofs.Keys.{inserts_absent, inserts_found, key_found}
use Rattle.insertion.proofs.by_key.insert_by_key.Goals as goal

pub insert_found-requires : goal.insert_found-requires
insert_found-requires c = key_found c.requires (c.in-Ok.ensures.seat _ _ _ _ (seen_holds c.view-seen.result c.view-seen.ensures c.requires.holds) refl)

pub returns-in-Ok-clause-outcome : goal.returns-in-Ok-clause-outcome
returns-in-Ok-clause-outcome c = inserts_found (λ w H. c.in-Ok.ensures.seat _ _ _ w (seen_holds c.view-seen.result c.view-seen.ensures H) refl) c.insert_found.ensures.outcome

pub returns-in-Err-clause-outcome : goal.returns-in-Err-clause-outcome
returns-in-Err-clause-outcome c = inserts_absent (λ w H. c.in-Err.ensures.seat _ _ _ w (seen_holds c.view-seen.result c.view-seen.ensures H) refl) c.admit.ensures.outcome
