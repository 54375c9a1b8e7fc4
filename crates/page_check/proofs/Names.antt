-- The longest name of a rule is that of the fragmented bytes.
use Rattle.std.proofs.Common.{◌≤◌, length, arith}
use Rattle.btree_format.specs.declared.answer.Fault.{Fault}
use Rattle.btree_format.specs.declared.answer.Fault.TheVariants.{Length, PageSize, UsableSize, Magic, PageType, Freeblocks, CellCount, ContentStart, Fragments, CellPointer}
use Rattle.btree_format.specs.Rules.{name}

pub name_short : (f : Fault) → length (name f) ≤ 16
name_short Length = omega arith
name_short PageSize = omega arith
name_short UsableSize = omega arith
name_short (Magic at) = omega arith
name_short (PageType at) = omega arith
name_short (Freeblocks at) = omega arith
name_short (CellCount at) = omega arith
name_short (ContentStart at) = omega arith
name_short (Fragments at) = omega arith
name_short (CellPointer at) = omega arith
