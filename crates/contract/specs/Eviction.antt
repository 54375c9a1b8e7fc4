-- Demand 3 of the public calls: one eviction, asked for, and the evictions that any call makes.
use Rattle.std.specs.Prelude.{◌∷◌, ◌++◌, ◌≡◌, ℕ, ◌≤◌, ◌<◌, length, drop}
use Rattle.std.proofs.Math.Option.{Option, none, some}
use Rattle.page.specs.declared.cache.PageCache.{PageCache}
use Rattle.model.specs.Cache.{Cache, held_in}
use Rattle.model.specs.Evictions.{OneGoes, NoneGoes, EvictsTo}
use Rattle.model.specs.Rooms.{Room}
use Rattle.model.specs.Uses.{Evicting, Enters}
use Rattle.memory.specs.Holds.{Holds, Sound}
use Rattle.answer.specs.Answer.{code_of, value_of}
use Rattle.answer.specs.declared.answered.Answered.{Answered}
use Rattle.contract.specs.Called.{State, Unaltered}

-- ── one eviction, on memory that holds the cache c ───────────────────────────
-- 8: none may go, 4n were passed, and nothing is altered
pub record AnswersFull (c : Cache) (before : State) (head : PageCache) (after : State) (r : Answered) : Type 0 where
  pub none : NoneGoes c r.passed
  pub code : code_of r.answer ≡ 8
  pub value : value_of r.answer ≡ 0
  pub listed : r.listed ≡ 0
  pub unaltered : Unaltered before head after r

-- 0: the one victim's handle is listed, other places keep their values, and the memory holds the cache that it leaves
pub record TakesOne (c : Cache) (before after : State) (r : Answered) : Type 0 where
  pub handle : ℕ
  pub left : Cache
  pub goes : OneGoes c handle r.passed left
  pub code : code_of r.answer ≡ 0
  pub value : value_of r.answer ≡ 0
  pub listed : r.listed ≡ 1
  pub list : after.list ≡ handle ∷ drop 1 before.list
  pub holds : Holds after.memory r.head left

pub data EvictsOne (c : Cache) (before : State) (head : PageCache) (after : State) (r : Answered) : Type 0 where
  full : AnswersFull c before head after r → EvictsOne c before head after r
  takes : TakesOne c before after r → EvictsOne c before head after r

-- ── the whole call ───────────────────────────────────────────────────────────
-- a code and nothing else: no value, nothing passed, nothing listed, nothing altered
pub record OnlyCode (code₀ : ℕ) (before : State) (head : PageCache) (after : State) (r : Answered) : Type 0 where
  pub code : code_of r.answer ≡ code₀
  pub value : value_of r.answer ≡ 0
  pub passed : r.passed ≡ 0
  pub listed : r.listed ≡ 0
  pub unaltered : Unaltered before head after r

-- with a list of `places` places: the memory is not sound (1), the list is shorter than held (3), nothing is held (14), or a page goes
-- (0) or none may (8)
pub data EvictionCall (places : ℕ) (before : State) (head : PageCache) (after : State) (r : Answered) : Type 0 where
  unsound : (Sound before.memory head → ⊥) → OnlyCode 1 before head after r → EvictionCall places before head after r
  short : (c : Cache) → Holds before.memory head c → places < held_in c → OnlyCode 3 before head after r
      → EvictionCall places before head after r
  empty : (c : Cache) → Holds before.memory head c → held_in c ≡ 0 → OnlyCode 14 before head after r → EvictionCall places before head after r
  evicts : (c : Cache) → Holds before.memory head c → 1 ≤ held_in c → held_in c ≤ places → EvictsOne c before head after r
      → EvictionCall places before head after r

-- ── the evictions of any call ────────────────────────────────────────────────
-- each by demand 3, and what the call answers and leaves of them: the pages passed; the handles that went, after those that the call
-- listed before them; the row that they left, or that row with a new page
pub record Evicts (x : Evicting) (before after : State) (r : Answered) : Type 0 where
  pub room : Room
  pub evictions : EvictsTo x.target x.from room
  pub passed : r.passed ≡ room.passed
  pub listed : r.listed ≡ length (x.listed ++ room.gone)
  pub list : after.list ≡ (x.listed ++ room.gone) ++ drop (length (x.listed ++ room.gone)) before.list
  pub cache : Cache
  pub holds : Holds after.memory r.head cache
  pub row : Enters room.cache.row cache.row

-- a call that evicts nothing passes nothing
abbrev pub EvictionsOf : Option Evicting → State → State → Answered → Type 0
EvictionsOf none before after r = ◌≡◌ {A = ℕ} r.passed 0
EvictionsOf (some x) before after r = Evicts x before after r
