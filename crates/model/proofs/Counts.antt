-- A page that may go counts: to count, two of the five conditions for going have to hold.
use mathlib.Core.Bool.{Bool, true, false, not, ◌&&◌, false≢true, and-false}
use mathlib.Core.Path.{◌≡◌, refl}
use Prim.Native.Nat.{ℕ}
use Rattle.page.specs.Cache.{page_one, may_go, counts}
use Rattle.page.specs.Record.{locked, pinned, held, clean_or_spilled}
use Rattle.page.specs.declared.record.PageRecord.{PageRecord}

two_of_five : (clean locked pinned held one : Bool) → clean && not locked && not pinned && not held && not one ≡ true
    → not one && clean ≡ true
two_of_five true locked pinned held false h = refl
two_of_five true locked pinned held true h = absurd (false≢true (rw and-false at h))
two_of_five false locked pinned held one h = absurd (false≢true h)

pub may_go_counts : (key : ℕ) (p : PageRecord) → may_go key p ≡ true → counts key p ≡ true
may_go_counts key p = two_of_five (clean_or_spilled p) (locked p) (pinned p) (held p) (page_one key)
