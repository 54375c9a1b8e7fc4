-- All words are filled, and then the last one is cut, if it is used in part.
use borrow.Author.Rules.{rules}
use Rattle.creating.proofs.NewPool.{marks_whole, marks_cut}
use Rattle.creating.proofs.creating.mark_all_free.Goals as goal

pub returns-then-last-marks : goal.returns-then-last-marks
returns-then-last-marks c = marks_cut c.requires (c.fill.ensures.after (search rules)) c.if-last-marks.true

pub returns-else-last-marks : goal.returns-else-last-marks
returns-else-last-marks c = marks_whole c.requires (c.fill.ensures.after (search rules)) c.if-last-marks.false
