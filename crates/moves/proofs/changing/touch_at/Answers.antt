-- What is stored is what was loaded, touched.
use Rattle.moves.proofs.Change.{touched_at}
use Rattle.moves.proofs.changing.touch_at.Goals as goal

pub returns : goal.returns
returns c = λ by_key by_handle marks head w key e H at. touched_at H at (record {
  long = c.store.auto.slots;
  written = rw (c.store.ensures, c.bump_ref.ensures, c.load-e.ensures);
})
