-- A binary search: each turn halves the bracket round the place of x, and where its ends meet, one look decides.
use Prim.Native.Nat.{◌+◌, ◌-◌, ◌/◌}
use mathlib.Core.Path.{◌∙◌}
use native.Mathlib.Omega.{arith}
use lib.ListN.{length-map}
use Rattle.sorted_index.proofs.Ascending.{ascending}
use Rattle.sorted_index.proofs.Bracket.{bracket_up, bracket_down, bracket_miss}
use Rattle.sorted_index.proofs.search.find.Goals as goal

pub name-y-requires : goal.name-y-requires
name-y-requires c = rw length-map at ((ascending c.requires).inside (c.loop-lo.lo + (c.loop-lo.hi - c.loop-lo.lo) / 2) (omega arith))

pub loop-lo-preserved-then-y-x : goal.loop-lo-preserved-then-y-x
loop-lo-preserved-then-y-x c =
    bracket_up (ascending c.requires) c.loop-lo.invariant (c.loop-lo.lo + (c.loop-lo.hi - c.loop-lo.lo) / 2) (omega arith) (rw c.name-y.ensures at c.if-y-x.true)

pub loop-lo-preserved : goal.loop-lo-preserved
loop-lo-preserved c =
    bracket_down (ascending c.requires) c.loop-lo.invariant (c.loop-lo.lo + (c.loop-lo.hi - c.loop-lo.lo) / 2) (omega arith) (omega arith) (rw c.name-y.ensures at c.if-y-x.false)

pub name-y-requires-then-lo-n : goal.name-y-requires-then-lo-n
name-y-requires-then-lo-n c = rw length-map at ((ascending c.requires).inside c.loop-lo.lo (omega arith))

pub returns-else-y-x-2 : goal.returns-else-y-x-2
returns-else-y-x-2 c =
    bracket_miss (ascending c.requires) c.loop-lo.invariant c.loop-lo-test.false (λ _ e. c.if-y-x-2.false (c.name-y-then-lo-n.ensures ∙ e))
