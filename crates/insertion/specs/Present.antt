-- What an insertion comes to where the key is there: the model's rule 6, of every cache that the memory holds.
use Rattle.std.specs.Prelude.{◌≡◌, false, List, ℕ}
use Rattle.page.specs.declared.cache.PageCache.{PageCache}
use Rattle.model.specs.Cache.{Cache}
use Rattle.model.specs.Row.{Entry}
use Rattle.model.specs.Rules.{present}
use Rattle.model.specs.Tests.{under_other}
use Rattle.memory.specs.Memory.{memory_of}
use Rattle.memory.specs.Holds.{Holds}
use Rattle.answer.specs.Answer.{Follows}
use Rattle.answer.specs.declared.answered.Answered.{Answered}
use Rattle.moves.specs.Moves.{StandsAt}
use Rattle.insertion.specs.declared.mode.NewPage.{NewPage}
use Rattle.insertion.specs.Mode.{insertion_of}

-- the page at slot s is loaded or locked. Whatever the other parts are, rule 6 says what becomes of it
pub record Presents (slots by_handle : List ℕ) (head : PageCache) (s : ℕ) (asked : NewPage) (slots' by_handle' : List ℕ) (r : Answered) : Type 0 where
  pub follows : (by_key marks : List ℕ) (c : Cache) (key : ℕ) (e : Entry) → Holds (memory_of slots by_key by_handle marks) head c
      → StandsAt c.row key s e → under_other key asked.handle.0 c.row ≡ false
      → Follows (present key asked.handle.0 asked.page (insertion_of asked.mode) e.page c) (memory_of slots' by_key by_handle' marks) r
