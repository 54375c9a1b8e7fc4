-- What is stored is what was loaded, with the record.
use Rattle.moves.proofs.Change.{rewritten_at}
use Rattle.moves.proofs.changing.rewrite_at.Goals as goal

pub returns : goal.returns
returns c = λ by_key by_handle marks head w key e H at. rewritten_at H at c.requires.flags (record {
  long = c.store.auto.slots;
  written = rw (c.store.ensures, c.load-e.ensures);
})
