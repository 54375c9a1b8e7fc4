-- At each turn the rest of the walk exists exactly if the whole walk does.
use native.Mathlib.Omega.{arith}
use borrow.Author.Rules.{rules}
use Rattle.std.proofs.Common.{refl}
use Rattle.soundness.proofs.Walking.{walking_wild, walking_cut, walking_home, walking_on}
use Rattle.soundness.proofs.ring.goes_round.Goals as goal

pub returns-then-next-size : goal.returns-then-next-size
returns-then-next-size c =
    walking_wild c.loop-passed.invariant c.requires.some c.is_free.ensures c.next-next.ensures (omega arith) (omega arith)

pub returns-then-ne : goal.returns-then-ne
returns-then-ne c =
    walking_cut c.loop-passed.invariant c.requires.some c.is_free.ensures c.next-next.ensures c.load.ensures (search rules)

pub returns-then-eq : goal.returns-then-eq
returns-then-eq c =
    walking_home
    c.loop-passed.invariant
    c.requires.some
    c.is_free.ensures
    c.next-next.ensures
    c.load.ensures
    c.if-is_free.false
    (search rules)
    (search rules)
    (omega arith)
    refl

pub loop-passed-preserved : goal.loop-passed-preserved
loop-passed-preserved c =
    walking_on
    c.loop-passed.invariant
    c.requires.some
    c.is_free.ensures
    c.next-next.ensures
    c.load.ensures
    c.if-is_free.false
    (search rules)
    (search rules)
    (omega arith)
    (omega arith)
    refl
