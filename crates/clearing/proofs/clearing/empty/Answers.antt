-- The handles are listed, and the memory is then as after creation.
use Rattle.clearing.proofs.Emptied.{never_refused, made_well, clear_emptied}
use Rattle.clearing.proofs.Turns.{walk_seen}
use Rattle.clearing.proofs.clearing.empty.Goals as goal

pub returns-in_default-clause-outcome : goal.returns-in_default-clause-outcome
returns-in_default-clause-outcome c = λ w H. absurd (c.in_default.not-Ok _ (never_refused H _ c.create.result c.create.ensures.made).done)

pub returns-clause-outcome : goal.returns-clause-outcome
returns-clause-outcome c = λ w H.
    clear_emptied H (made_well c.in-Ok.ensures.made) (rw (walk_seen c.args.head.held c.view.ensures) at c.list_handles.ensures)
