-- The page is gone and listed first, or it stays: either way that is what rule 8 says.
use Rattle.model.specs.Call.{answer}
use Rattle.answer.specs.Answer.{code_of, value_of}
use Rattle.answer.proofs.Steps.{comes_told}
use Rattle.deletion.proofs.Deleting.{goes_comes, stays_comes}
use Rattle.deletion.proofs.deletion.delete_at.Goals as goal

pub returns-in-Ok-clause-outcome : goal.returns-in-Ok-clause-outcome
returns-in-Ok-clause-outcome c = λ w key e H at. goes_comes c.args.done c.requires.within (c.in-Ok.ensures.outcome w key e H at)

pub returns-in-Err-clause-outcome : goal.returns-in-Err-clause-outcome
returns-in-Err-clause-outcome c = λ w key e H at.
    comes_told c.plain.ensures
    (stays_comes (answer (code_of c.args.done) (value_of c.args.done)) H (c.in-Err.ensures.outcome w key e H at))
