-- The pointers are looked at one after another.
use Rattle.std.proofs.Common.{ℕ, ◌+◌, ◌*◌}
use Rattle.btree_format.specs.Fields.{half}
use Rattle.btree_format.specs.Rules.{Inside}
use Rattle.btree_format.proofs.Searching.{Looked}
use Rattle.cell_pointers.proofs.first_outside.Given as goal

abbrev pub invariant-loop-i : goal.invariant-loop-i
invariant-loop-i l = Looked (λ (j : ℕ). Inside l.start l.end (half l.image (l.array + 2 * j))) l.count l.i
