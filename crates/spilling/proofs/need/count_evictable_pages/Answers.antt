-- The count is that of the pages met so far, and at the end the walk has met them all.
use mathlib.Core.Path.{sym, ◌∙◌}
use native.Mathlib.Omega.{arith}
use Rattle.spilling.proofs.Walking.{met_none, met_one, met_past, met_all, turns, turn_within, turn_loads}
use Rattle.spilling.proofs.need.count_evictable_pages.Goals.{then-evictable, else-evictable}
use Rattle.spilling.proofs.need.count_evictable_pages.Goals as goal

pub loop-s-init : goal.loop-s-init
loop-s-init c = met_none _ _ _ _

pub loop-s-preserved : goal.loop-s-preserved
loop-s-preserved c =
    let within = turn_within c.requires c.loop-s-test.true in
    let loaded = turn_loads c.requires c.loop-s-test.true c.load-e.ensures in
    elim c.if-evictable.branch [
      | then-evictable w ↦ met_one c.requires c.loop-s.invariant within loaded (sym c.evictable.ensures ∙ w.if-evictable.true) w.count-is
      | else-evictable w ↦ met_past c.requires c.loop-s.invariant within loaded (sym c.evictable.ensures ∙ w.if-evictable.false) w.count-is
    ]

pub returns : goal.returns
returns c = λ by_handle marks head cache g same. met_all g same c.loop-s.invariant (omega (arith, turns c.requires, c.loop-s-test.false))
