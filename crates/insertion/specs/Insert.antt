-- What the insertions ask of the memory and what they come to: the model's rules, of every cache that the memory holds.
use Rattle.std.specs.Prelude.{List, ℕ, ◌≤◌, length}
use Rattle.std.proofs.Math.Option.{some}
use Rattle.page.specs.Record.{all_flags}
use Rattle.page.specs.declared.cache.PageCache.{PageCache}
use Rattle.sorted_index.specs.declared.search.By.TheVariants.{Handle}
use Rattle.model.specs.Cache.{Cache}
use Rattle.model.specs.Limits.{CacheInvariant}
use Rattle.model.specs.Row.{Entry}
use Rattle.model.specs.Rules.{insert_found, on_insert}
use Rattle.memory.specs.Memory.{Memory}
use Rattle.memory.specs.Holds.{Holds}
use Rattle.answer.specs.Answer.{MatchesOutcome}
use Rattle.answer.specs.declared.answered.Answered.{Answered}
use Rattle.moves.specs.Moves.{StandsAt, GapIn}
use Rattle.insertion.specs.declared.mode.NewPage.{NewPage}
use Rattle.insertion.specs.Mode.{insertion_of}
use Rattle.insertion.specs.Renew.{Free}

-- ── the key is there ─────────────────────────────────────────────────────────
-- rule 6 on the key's page
pub record InsertsFound (m : Memory) (head : PageCache) (list : List ℕ) (s : ℕ) (asked : NewPage) (m' : Memory) (list' : List ℕ) (r : Answered) : Type 0 where
  pub comes : (c : Cache) (e : Entry) → Holds m head c → CacheInvariant c → StandsAt c.row asked.key.0 s e → Free asked c
      → MatchesOutcome (insert_found asked.key.0 asked.handle.0 asked.page (insertion_of asked.mode) (some e) c) list m' list' r

-- ── by the key ───────────────────────────────────────────────────────────────
-- the memory holds a cache within its limits; the gap is that of the handle, which stands nowhere; the record is good, and the list
-- is as long as held
pub record Insertable (m : Memory) (head : PageCache) (list : List ℕ) (gap : ℕ) (asked : NewPage) : Type 0 where
  pub cache : Cache
  pub holds : Holds m head cache
  pub kept : CacheInvariant cache
  pub nowhere : GapIn Handle m.slots m.by_handle head.held asked.handle.0 gap
  pub flags : asked.page.flags ≤ all_flags
  pub long : head.held ≤ length list

-- rules 5, 6 and 7
pub record Inserts (m : Memory) (head : PageCache) (list : List ℕ) (asked : NewPage) (m' : Memory) (list' : List ℕ) (r : Answered) : Type 0 where
  pub comes : (c : Cache) → Holds m head c → CacheInvariant c → Free asked c
      → MatchesOutcome (on_insert asked.key.0 asked.handle.0 asked.page (insertion_of asked.mode) c) list m' list' r
