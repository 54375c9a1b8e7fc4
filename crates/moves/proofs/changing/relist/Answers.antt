-- The same handle is the same name. Under another one the slot goes out of the index and comes back.
use Rattle.moves.proofs.Relisting.{relisted_anew}
use Rattle.moves.proofs.changing.relist.Goals as goal

pub returns : goal.returns
returns c = λ before after t. relisted_anew t c.unlist.ensures c.enlist.ensures
