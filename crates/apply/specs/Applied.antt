-- What a replay record does, to any memory (01, "The replay program").
use Rattle.std.specs.Prelude.{List, ℕ, length}
use Rattle.page.specs.declared.cache.PageCache.{PageCache}
use Rattle.answer.specs.declared.answered.Answered.{Answered}
use Rattle.contract.specs.Called.{State, Called}
use Rattle.replay_record.specs.Fields.{decoded}
use Rattle.replay_record.specs.Request.{Request, none, creation, call, request_in}
use Rattle.dispatch.specs.Runs.{Creation, Refuses}

-- a bad record: 17, and nothing is altered; a creation; or a public call
abbrev pub Meets : Request → (before : State) (head : PageCache) (after : State) (r : Answered) → Type 0
Meets none before head after r = Refuses before head after r
Meets (creation capacity) before head after r = Creation capacity before head after r
Meets (call x) before head after r = Called x before head after r

-- the contract of `apply`: what the bytes ask for, with a list of that length, is done
pub record Applied (bytes : List ℕ) (before : State) (head : PageCache) (after : State) (r : Answered) : Type 0 where
  pub meets : Meets (request_in (decoded bytes) (length before.list)) before head after r
