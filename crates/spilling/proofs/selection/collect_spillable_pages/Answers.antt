-- What is listed are the pages met so far that may be spilled; the walk ends when there are enough, or no more.
use mathlib.Core.Path.{sym, ◌∙◌}
use native.Mathlib.Omega.{arith}
use Rattle.spilling.proofs.Walking.{turns, turn_within, turn_loads}
use Rattle.spilling.proofs.Selecting.{selecting_none, selecting_one, selecting_past, selected_enough, selected_all}
use Rattle.spilling.proofs.selection.collect_spillable_pages.Goals.{then-spillable, else-spillable}
use Rattle.spilling.proofs.selection.collect_spillable_pages.Goals as goal

pub loop-s-init : goal.loop-s-init
loop-s-init c = selecting_none _ _ _ _ _

pub returns-then-most-listed : goal.returns-then-most-listed
returns-then-most-listed c = λ by_handle marks head cache g same. selected_enough g same c.loop-s.invariant c.if-most-listed.true

pub loop-s-preserved : goal.loop-s-preserved
loop-s-preserved c =
    let within = turn_within c.requires.readable c.loop-s-test.true in
    let loaded = turn_loads c.requires.readable c.loop-s-test.true c.load-e.ensures in
    elim c.if-spillable.branch [
      | then-spillable w ↦ selecting_one c.requires.readable c.loop-s.invariant within loaded (sym c.spillable.ensures ∙ w.if-spillable.true) c.if-most-listed.false c.requires.long w.list-is w.listed-is
      | else-spillable w ↦ selecting_past c.requires.readable c.loop-s.invariant within loaded (sym c.spillable.ensures ∙ w.if-spillable.false) w.list-is w.listed-is
    ]

pub returns : goal.returns
returns c = λ by_handle marks head cache g same. selected_all g same c.loop-s.invariant (omega (arith, turns c.requires.readable, c.loop-s-test.false))
