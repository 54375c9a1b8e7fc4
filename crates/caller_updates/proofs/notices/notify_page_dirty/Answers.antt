-- The estimate follows the notice, or nothing changes.
use borrow.Author.Rules.{rules}
use Rattle.model.specs.Cache.{down}
use Rattle.answer.proofs.Steps.{follows_as}
use Rattle.caller_updates.proofs.Heads.{dirty_is}
use Rattle.caller_updates.proofs.notices.notify_page_dirty.Goals as goal

pub returns : goal.returns
returns c = λ by_handle marks w H. follows_as (dirty_is _ w) (c.notify.ensures down (λ n e. search rules) by_handle marks w H)
