-- Both names are new, so each search ends in a gap.
use Rattle.moves.proofs.Search.{gaps_found}
use Rattle.moves.proofs.finding.find_gaps.Goals as goal

pub returns : goal.returns
returns c =
    let found = gaps_found c.requires.holds c.requires.new c.gap.ensures c.gap-2.ensures in
    record { of_key = found.of_key; of_handle = found.of_handle }
