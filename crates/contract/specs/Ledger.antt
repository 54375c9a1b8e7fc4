-- Demand 3's ledger, read off the memory: the touches and the falls of each call follow from the cache that the memory held before it
-- and the one that it holds after it.
use Rattle.std.specs.Prelude.{List, [], ◌∷◌, ◌++◌, ℕ, ◌+◌}
use Rattle.page.specs.declared.cache.PageCache.{PageCache}
use Rattle.model.specs.Cache.{Cache, fresh}
use Rattle.model.specs.Call.{Call}
use Rattle.model.specs.Uses.{effect_of, touches_of, Fell}
use Rattle.memory.specs.Memory.{Memory}
use Rattle.memory.specs.Holds.{Holds}
use Rattle.answer.specs.declared.answered.Answered.{Answered}
use Rattle.contract.specs.Called.{lent, Called}

-- a history of calls since creation, with all the touches that they did and all the uses that their sweeps took away
pub data Ledger (size capacity : ℕ) : List Call → Memory → PageCache → (touches falls : ℕ) → Type 0 where
  created : {m : Memory} {head : PageCache} → Holds m head (fresh size capacity) → Ledger size capacity [] m head 0 0
  called : {calls : List Call} {m m' : Memory} {head : PageCache} {list list' : List ℕ} {r : Answered} {touches falls : ℕ} (call : Call)
      → Ledger size capacity calls m head touches falls → Called call (lent m list) head (lent m' list') r
      → (c c' : Cache) → Holds m head c → Holds m' r.head c' → (fell : ℕ) → Fell (effect_of call c).evicting c' fell
      → Ledger size capacity (calls ++ call ∷ []) m' r.head (touches + touches_of (effect_of call c).touched) (falls + fell)
