-- Whether the estimate follows a notice (01, rule 12).
use Rattle.std.specs.Prelude.{◌≡◌, Bool, false, not, List, ℕ}
use Rattle.std.proofs.Math.Option.{Option, none, some}
use Rattle.page.specs.Cache.{page_one}
use Rattle.page.specs.declared.cache.PageCache.{PageCache}
use Rattle.model.specs.Cache.{Cache}
use Rattle.model.specs.Row.{Entry, find}
use Rattle.model.specs.Rules.{notified}
use Rattle.memory.specs.Memory.{memory_of}
use Rattle.memory.specs.Holds.{Holds}
use Rattle.answer.specs.Answer.{Follows}
use Rattle.answer.specs.declared.answered.Answered.{Answered}

-- it does for a present page other than 1
abbrev pub noticed : Option Entry → Bool
noticed none = false
noticed (some e) = not (page_one e.page.key)

-- the answer is right for every cache of `held` pages that a memory with these slots and this index by key holds
abbrev pub Notices : (slots by_key : List ℕ) (held key : ℕ) → Bool → Type 0
Notices slots by_key held key r =
    (by_handle marks : List ℕ) (head : PageCache) (c : Cache) → Holds (memory_of slots by_key by_handle marks) head c → head.held ≡ held
    → r ≡ noticed (find key c.row)

-- whatever the other parts are, and for every cache that the memory holds: the estimate followed the notice by this function, or nothing
-- was done
abbrev pub Notified : (ℕ → ℕ) → (slots by_key : List ℕ) → PageCache → ℕ → Answered → Type 0
Notified by slots by_key head key r =
    (by_handle marks : List ℕ) (c : Cache) → Holds (memory_of slots by_key by_handle marks) head c
    → Follows (notified by (find key c.row) c) (memory_of slots by_key by_handle marks) r
