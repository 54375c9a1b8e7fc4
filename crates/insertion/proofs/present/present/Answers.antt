-- What the mode decides, and then the two handles.
use borrow.Author.Rules.{rules}
use mathlib.Core.Path.{sym, ◌∙◌}
use Rattle.insertion.proofs.Presents.{present_inside, touched_replaceable, presents_replaced, presents_other, presents_same}
use Rattle.insertion.proofs.present.present.Goals as goal

pub load-requires : goal.load-requires
load-requires c = present_inside c.requires

pub touch_at-requires : goal.touch_at-requires
touch_at-requires c = present_inside c.requires

pub replace_at-after-requires : goal.replace_at-after-requires
replace_at-after-requires c = touched_replaceable c.requires c.touch_at.ensures

pub returns-then-replaces : goal.returns-then-replaces
returns-then-replaces c =
    rw c.plain.ensures (presents_replaced c.load.ensures (sym c.replaces.ensures ∙ c.if-replaces.true) c.touch_at.ensures c.replace_at-after.ensures)

pub returns-then-other_page : goal.returns-then-other_page
returns-then-other_page c = rw c.plain-then-other_page.ensures (presents_other c.load.ensures (sym c.replaces.ensures ∙ c.if-replaces.false) (search rules))

pub touch_at-requires-2 : goal.touch_at-requires-2
touch_at-requires-2 c = present_inside c.requires

pub returns : goal.returns
returns c = rw c.plain-2.ensures (presents_same c.load.ensures (sym c.replaces.ensures ∙ c.if-replaces.false) (search rules) c.touch_at-2.ensures)
