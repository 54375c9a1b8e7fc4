-- A page that may not go is passed as it is, one with no use left is taken, and any other is passed and loses a use.
use Rattle.eviction.proofs.Looking.{stays_passed, spent_taken, used_passed}
use Rattle.eviction.proofs.sweeping.look_at.Goals as goal

pub returns-then-not-evictable : goal.returns-then-not-evictable
returns-then-not-evictable c = stays_passed c.load-e.ensures c.evictable.ensures c.if-not-evictable.true

pub returns-then-e-eq0 : goal.returns-then-e-eq0
returns-then-e-eq0 c = spent_taken c.load-e.ensures c.evictable.ensures c.if-not-evictable.false c.if-e-eq0.true

pub returns : goal.returns
returns c = used_passed c.load-e.ensures c.evictable.ensures c.if-not-evictable.false c.if-e-eq0.false c.decrement_ref.ensures c.store.ensures
