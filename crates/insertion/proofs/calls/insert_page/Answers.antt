-- Each test is the model's, and then the rules follow.
use native.Mathlib.Omega.{arith}
use mathlib.Core.Path.{refl}
use Rattle.deletion.proofs.Deleting.{seen_holds}
use Rattle.moves.proofs.Search.{handle_miss}
use Rattle.insertion.proofs.Keys.{gap_by_handle, inserts_found}
use Rattle.insertion.proofs.Tests.{bad_record_lem, short_list_lem, elsewhere, call_insertable, call_found, call_inserts}
use Rattle.insertion.proofs.calls.insert_page.Goals as goal

pub returns-then-flags-gt-ALL_FLAGS-clause-outcome : goal.returns-then-flags-gt-ALL_FLAGS-clause-outcome
returns-then-flags-gt-ALL_FLAGS-clause-outcome c = λ w H. rw c.plain.ensures (bad_record_lem c.args.asked H (omega (arith, c.if-flags-gt-ALL_FLAGS.true)))

pub returns-then-list-head-clause-outcome : goal.returns-then-list-head-clause-outcome
returns-then-list-head-clause-outcome c =
    λ w H. rw c.plain-then-list-head.ensures
    (short_list_lem c.args.asked H (omega (arith, c.if-flags-gt-ALL_FLAGS.false)) (omega (arith, c.if-list-head.true)))

pub insert_found-requires : goal.insert_found-requires
insert_found-requires c =
    call_found (omega (arith, c.if-flags-gt-ALL_FLAGS.false)) (omega (arith, c.if-list-head.false)) c.words_fit.ensures.slots
    (omega (arith, c.well_formed)) c.requires (c.in-UnderKey.ensures.seat _ _ _ _ (seen_holds c.view-seen.result c.view-seen.ensures c.requires.holds) refl)

pub insert_by_key-requires : goal.insert_by_key-requires
insert_by_key-requires c =
    call_insertable (omega (arith, c.if-flags-gt-ALL_FLAGS.false)) (omega (arith, c.if-list-head.false))
    c.words_fit.ensures.slots (omega (arith, c.well_formed)) (gap_by_handle c.view-seen.result c.view-seen.ensures c.in-Nowhere.ensures.gap) c.requires

pub returns-in-Elsewhere-clause-outcome : goal.returns-in-Elsewhere-clause-outcome
returns-in-Elsewhere-clause-outcome c =
    λ w H. rw c.plain-in-Elsewhere.ensures
    (elsewhere c.args.asked H (omega (arith, c.if-flags-gt-ALL_FLAGS.false)) (omega (arith, c.if-list-head.false)) (c.in-Elsewhere.ensures.seat _ _ _ w (seen_holds c.view-seen.result c.view-seen.ensures H) refl))

pub returns-in-UnderKey-clause-outcome : goal.returns-in-UnderKey-clause-outcome
returns-in-UnderKey-clause-outcome c =
    call_inserts (omega (arith, c.if-flags-gt-ALL_FLAGS.false)) (omega (arith, c.if-list-head.false))
    c.words_fit.ensures.slots (omega (arith, c.well_formed))
    (λ w H. (c.in-UnderKey.ensures.seat _ _ _ w (seen_holds c.view-seen.result c.view-seen.ensures H) refl).1)
    (inserts_found (λ w H. (c.in-UnderKey.ensures.seat _ _ _ w (seen_holds c.view-seen.result c.view-seen.ensures H) refl).0) c.insert_found.ensures.outcome)

pub returns-in-Nowhere-clause-outcome : goal.returns-in-Nowhere-clause-outcome
returns-in-Nowhere-clause-outcome c =
    call_inserts (omega (arith, c.if-flags-gt-ALL_FLAGS.false)) (omega (arith, c.if-list-head.false))
    c.words_fit.ensures.slots (omega (arith, c.well_formed))
    (λ w H. handle_miss H refl _ _ (gap_by_handle c.view-seen.result c.view-seen.ensures c.in-Nowhere.ensures.gap)) c.insert_by_key.ensures.outcome
