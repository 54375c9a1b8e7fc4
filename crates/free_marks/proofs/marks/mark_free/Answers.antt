-- `|` works digit by digit, and its mask has the slot's digit alone.
use Rattle.free_marks.proofs.Marking.{marked_free}
use Rattle.free_marks.proofs.marks.mark_free.Goals as goal

pub returns : goal.returns
returns c = marked_free c.args.marks.now c.args.s.0 c.requires
