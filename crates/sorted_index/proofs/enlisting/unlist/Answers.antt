-- The search finds the seat of that name, since there is one and no other has it, and the seat goes out of its place.
use Rattle.sorted_index.proofs.Membership.{mid_has}
use Rattle.sorted_index.proofs.Listed.{hit_is, miss_absent}
use Rattle.sorted_index.proofs.enlisting.unlist.Goals as goal

pub returns-in_default : goal.returns-in_default
returns-in_default c = λ before s after l apart held named. absurd (miss_absent l held c.in_default.ensures s (mid_has before s after) named)

pub returns : goal.returns
returns c = λ before s after l apart held named.
    c.unlist_at.ensures _ before s after l apart held (hit_is l held c.in-Ok.ensures (mid_has before s after) named)
