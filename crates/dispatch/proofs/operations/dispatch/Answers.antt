-- Each arm's call comes to what the table of operations has at its number; what no arm takes is above 17.
use Rattle.std.proofs.Common.{rules}
use mathlib.Core.Path.{◌≡◌, refl}
use mathlib.Core.List.{List}
use Prim.Native.Nat.{ℕ}
use lib.ListN.{length, get_or}
use Rattle.page.specs.declared.cache.PageCache.{PageCache}
use Rattle.model.specs.Call.{Call}
use Rattle.memory.specs.Memory.{memory_of}
use Rattle.answer.specs.Parts.{FollowsStep}
use Rattle.answer.specs.declared.answered.Answered.{Answered}
use Rattle.contract.specs.Called.{lent}
use Rattle.replay_record.specs.Request.{none, call, operations}
use Rattle.replay_record.specs.declared.record.Record.{Record}
use Rattle.dispatch.specs.Runs.{Ran}
use Rattle.contract.proofs.Quiet.{Quiet, quiet_comes, quiet_peek, quiet_dirty, quiet_spilled, quiet_write, quiet_switch, quiet_release}
use Rattle.dispatch.proofs.Running.{ran_call}
use Rattle.dispatch.proofs.operations.dispatch.Goals as goal

-- a call that lists nothing and reads the index by key alone
ran_quiet : {asked : Record} {slots by_key by_handle marks list slots' : List ℕ} {head : PageCache} {r : Answered} (k : ℕ) (x : Call)
    → get_or (operations asked (length list)) k none ≡ call x → Quiet x → asked.operation ≡ k → FollowsStep x slots by_key head slots' r
    → Ran asked (lent (memory_of slots by_key by_handle marks) list) head (lent (memory_of slots' by_key by_handle marks) list) r
ran_quiet k x stands quiet is follows = ran_call k x stands is (λ d h. quiet_comes quiet d (follows _ _ d h))

pub returns-in-1-clause-ran : goal.returns-in-1-clause-ran
returns-in-1-clause-ran c = ran_call 1 _ refl c.in-1.is (rw c.page_of.ensures at c.insert_page.ensures.outcome)

pub returns-in-2-clause-ran : goal.returns-in-2-clause-ran
returns-in-2-clause-ran c = ran_call 2 _ refl c.in-2.is (rw c.page_of-in-2.ensures at c.insert_page-in-2.ensures.outcome)

pub returns-in-3-clause-ran : goal.returns-in-3-clause-ran
returns-in-3-clause-ran c = ran_call 3 _ refl c.in-3.is (rw c.page_of-in-3.ensures at c.insert_page-in-3.ensures.outcome)

pub returns-in-5-clause-ran : goal.returns-in-5-clause-ran
returns-in-5-clause-ran c = ran_quiet 5 _ refl (quiet_peek _ _) c.in-5.is c.peek.ensures

-- what the call promised is found by the search, and not named: with the two arms swapped it is no longer there to be found
pub returns-in-11-clause-ran : goal.returns-in-11-clause-ran
returns-in-11-clause-ran c = ran_quiet 11 _ refl (quiet_dirty _) c.in-11.is (search rules)

pub returns-in-12-clause-ran : goal.returns-in-12-clause-ran
returns-in-12-clause-ran c = ran_quiet 12 _ refl (quiet_spilled _) c.in-12.is (search rules)

pub returns-in-13-clause-ran : goal.returns-in-13-clause-ran
returns-in-13-clause-ran c = ran_quiet 13 _ refl (quiet_write _ _) c.in-13.is c.write_record.ensures

pub returns-in-14-clause-ran : goal.returns-in-14-clause-ran
returns-in-14-clause-ran c = ran_call 14 _ refl c.in-14.is (λ d h. c.check_spill.ensures _ _ d h)

pub returns-in-16-clause-ran : goal.returns-in-16-clause-ran
returns-in-16-clause-ran c = ran_call 16 _ refl c.in-16.is (λ d h. quiet_comes (quiet_switch _) d (c.set_spill_enabled.ensures _ d h))

pub returns-in-17-clause-ran : goal.returns-in-17-clause-ran
returns-in-17-clause-ran c = ran_quiet 17 _ refl (quiet_release _) c.in-17.is c.release_page.ensures
