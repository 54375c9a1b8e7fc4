-- Each answer is one of the model's eviction.
use native.Mathlib.Omega.{arith}
use Rattle.resizing.proofs.Evicted.{evict_full, evict_took}
use Rattle.resizing.proofs.evicting.evict_listed.Goals as goal

pub returns-in-Err-clause-outcome : goal.returns-in-Err-clause-outcome
returns-in-Err-clause-outcome c = λ w H. evict_full H (omega (arith, c.if-head-eq0.false)) (c.in-Err.ensures.outcome w H)

pub returns-in-Ok-clause-outcome : goal.returns-in-Ok-clause-outcome
returns-in-Ok-clause-outcome c = λ w H. evict_took H (omega (arith, c.if-head-eq0.false)) (c.in-Ok.ensures.outcome w H) (omega (arith, c.if-head-eq0.false, c.requires.long))
