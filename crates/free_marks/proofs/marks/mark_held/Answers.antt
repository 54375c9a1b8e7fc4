-- `&` works digit by digit, and its mask has every digit but the slot's.
use Rattle.free_marks.proofs.Marking.{marked_held}
use Rattle.free_marks.proofs.marks.mark_held.Goals as goal

pub returns : goal.returns
returns c = marked_held c.args.marks.now c.args.s.0 c.requires
