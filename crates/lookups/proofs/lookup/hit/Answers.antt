-- The record counts one holder more, and the page is touched if asked; or the record is at its limit, and nothing is done.
use Rattle.answer.proofs.Steps.{follows_told}
use Rattle.moves.proofs.Change.{stands_rewritten}
use Rattle.moves.proofs.Removal.{slot_inside}
use Rattle.lookups.proofs.Calls.{recount_good, hit_limit, hit_seen, hit_touched}
use Rattle.lookups.proofs.lookup.hit.Goals as goal

pub returns-in_default : goal.returns-in_default
returns-in_default c = λ by_key by_handle marks w key e H at.
    follows_told c.plain.ensures (hit_limit H at c.requires.loaded c.args.touch c.one_holder_more.ensures c.in_default.is)

pub rewrite_at-requires : goal.rewrite_at-requires
rewrite_at-requires c = record {
  slot = slot_inside c.requires.holds c.requires.stands;
  flags = recount_good c.requires.holds c.requires.stands c.requires.loaded c.with_holders.ensures;
}

pub returns-then-not-touch : goal.returns-then-not-touch
returns-then-not-touch c = λ by_key by_handle marks w key e H at.
    follows_told c.plain-found.ensures
    (hit_seen H at c.requires.loaded c.args.touch c.one_holder_more.ensures c.in-Some.is c.with_holders.ensures c.if-not-touch.true
    (c.rewrite_at.ensures by_key by_handle marks _ w key e H at))

pub touch_at-requires : goal.touch_at-requires
touch_at-requires c =
    slot_inside (c.rewrite_at.ensures _ _ _ _ _ _ _ c.requires.holds c.requires.stands) (stands_rewritten _ c.requires.stands)

pub returns : goal.returns
returns c = λ by_key by_handle marks w key e H at.
    follows_told c.plain-found.ensures
    (hit_touched H at c.requires.loaded c.args.touch c.one_holder_more.ensures c.in-Some.is c.with_holders.ensures c.if-not-touch.false
    (c.touch_at.ensures by_key by_handle marks _ _ key _ (c.rewrite_at.ensures by_key by_handle marks _ w key e H at) (stands_rewritten _ at)))
