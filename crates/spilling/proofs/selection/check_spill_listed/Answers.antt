-- The answer is that of the need and of what was selected.
use mathlib.Core.Path.{refl}
use Rattle.spilling.proofs.Answering.{comes_not_needed, comes_none, comes_some}
use Rattle.spilling.proofs.selection.check_spill_listed.Goals as goal

pub returns-then-not-needs_spill : goal.returns-then-not-needs_spill
returns-then-not-needs_spill c = λ by_handle marks cache g.
    comes_not_needed _ g (c.needs_spill.ensures by_handle marks cache g) c.if-not-needs_spill.true c.plain.ensures

pub returns-then-listed-eq0 : goal.returns-then-listed-eq0
returns-then-listed-eq0 c = λ by_handle marks cache g.
    comes_none _ g (c.needs_spill.ensures by_handle marks cache g) c.if-not-needs_spill.false
    (c.collect_spillable_pages-listed.ensures by_handle marks _ cache g refl) c.if-listed-eq0.true c.plain-then-listed-eq0.ensures

pub returns : goal.returns
returns c = λ by_handle marks cache g.
    comes_some _ g (c.needs_spill.ensures by_handle marks cache g) c.if-not-needs_spill.false
    (c.collect_spillable_pages-listed.ensures by_handle marks _ cache g refl) c.if-listed-eq0.false
