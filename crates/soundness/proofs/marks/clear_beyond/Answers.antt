-- The marks beyond the last slot are the upper digits of the last word, if it is used in part.
use Rattle.soundness.proofs.Bits.{beyond_tested}
use Rattle.soundness.proofs.marks.clear_beyond.Goals as goal

pub returns : goal.returns
returns c = beyond_tested c.requires (c.type_inv.marks _).fits
