-- The committed frames lie within the log, if they reach no further, and the search goes down from the last (proofs/Descent.antt).
use Rattle.wal.proofs.Descent.{descent_starts, descent_hit, descent_more, descent_done}
use Rattle.wal.proofs.find.find_frame.Goals as goal

pub loop-earlier-init : goal.loop-earlier-init
loop-earlier-init c = descent_starts c.committed-committed.ensures c.if-not-reaches.ensures c.length-length.ensures

pub returns-then-number_at-page : goal.returns-then-number_at-page
returns-then-number_at-page c = descent_hit c.loop-earlier.invariant c.loop-earlier-test.true c.number_at.ensures c.if-number_at-page.true

pub loop-earlier-preserved : goal.loop-earlier-preserved
loop-earlier-preserved c = descent_more c.loop-earlier.invariant c.loop-earlier-test.true c.number_at.ensures c.if-number_at-page.false

pub returns : goal.returns
returns c = descent_done c.loop-earlier.invariant c.loop-earlier-test.false
