-- The search ends in a gap if no seat has the name, and otherwise at a place that is one of the n too.
use native.Mathlib.Omega.{arith}
use Rattle.sorted_index.proofs.Listed.{hit_seat}
use Rattle.sorted_index.proofs.search.gap.Goals as goal

pub returns-in-Ok : goal.returns-in-Ok
returns-in-Ok c =
    record {
      place = omega (arith, c.in-Ok.ensures.within);
      miss = λ seats l held absent. absurd (absent _ (hit_seat l held c.in-Ok.ensures) c.in-Ok.ensures.same);
    }
