-- The search's answer, and what it says of the row.

use Rattle.std.proofs.lemmas.Result.{err_from_is_err_and}
use Rattle.moves.proofs.Search.{key_hit, key_miss}
use Rattle.moves.proofs.finding.seat_of.Goals as goal

pub returns-in_err-at : goal.returns-in_err-at
returns-in_err-at c = let exit = err_from_is_err_and c.from_residual.result c.from_residual.ensures.1 in rw (exit.1, exit.2) (record { seat = λ by_handle marks head w H held. key_miss H held c.in_err-at.ensures; gap = c.in_err-at.ensures })

pub returns : goal.returns
returns c = record { seat = λ by_handle marks head w H held. key_hit H held c.in_ok-at.ensures; gap = tt }
