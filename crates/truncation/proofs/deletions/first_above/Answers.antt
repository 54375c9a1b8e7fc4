-- Keys are numbers of 32 bits, so that a greater limit is above all of them; another one has its place in the index.
use native.Mathlib.Omega.{arith}
use Rattle.std.proofs.Common.{◌<◌}
use Rattle.truncation.proofs.Chosen.{above_all, above_hit, above_miss}
use Rattle.truncation.proofs.deletions.first_above.Goals as goal

pub returns-in_default : goal.returns-in_default
returns-in_default c =
    let above : c.args.limit < 4294967296 → ⊥ = c.in_default.ensures in
    above_all _ _ _ _ c.requires (omega (arith, above))

pub returns-in-Ok-find : goal.returns-in-Ok-find
returns-in-Ok-find c = rw (← c.in-Ok.ensures.1) (above_hit _ _ _ _ c.requires _ c.in-Ok-find.ensures)

pub returns-in-Err : goal.returns-in-Err
returns-in-Err c = rw (← c.in-Ok.ensures.1) (above_miss _ _ _ _ c.requires _ c.in-Err.ensures)
