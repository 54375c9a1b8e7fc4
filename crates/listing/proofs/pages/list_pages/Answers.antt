-- What the tests refuse is refused, and otherwise as many pages are listed as they found to be held.
use Rattle.std.proofs.lemmas.Result.{err_from_is_err_and}
use Rattle.listing.proofs.Outcomes.{refuses, admitted, comes}
use Rattle.listing.proofs.pages.list_pages.Goals as goal

pub returns-in_err-held : goal.returns-in_err-held
returns-in_err-held g c =
    let exit = err_from_is_err_and c.from_residual.result c.from_residual.ensures.1 in
    rw (exit.1, exit.2) (refuses c.room.ensures c.in_err-held.ensures)

pub list_ring-requires : goal.list_ring-requires
list_ring-requires g c = admitted c.room.ensures c.in_ok-held.ensures

pub returns : goal.returns
returns g c = comes c.room.ensures c.in_ok-held.ensures c.list_ring.ensures
