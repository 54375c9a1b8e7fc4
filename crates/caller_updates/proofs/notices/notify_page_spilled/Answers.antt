-- The estimate follows the notice, or nothing changes.
use borrow.Author.Rules.{rules}
use Rattle.model.specs.Cache.{up}
use Rattle.answer.proofs.Steps.{follows_as}
use Rattle.caller_updates.proofs.Heads.{spilled_is}
use Rattle.caller_updates.proofs.notices.notify_page_spilled.Goals as goal

pub returns : goal.returns
returns c = λ by_handle marks w H. follows_as (spilled_is _ w) (c.notify.ensures up (λ n e. search rules) by_handle marks w H)
