-- What a replay record did, by what its bytes asked for: so everything that is proved of the public calls is proved of records.
use mathlib.Core.List.{List}
use mathlib.Core.Path.{◌≡◌, subst}
use Prim.Native.Nat.{ℕ}
use lib.ListN.{length}
use Rattle.page.specs.declared.cache.PageCache.{PageCache}
use Rattle.model.specs.Call.{Call, evict_one}
use Rattle.answer.specs.declared.answered.Answered.{Answered}
use Rattle.contract.specs.Called.{State, Called}
use Rattle.contract.specs.Eviction.{EvictionCall}
use Rattle.contract.proofs.Eviction.{public_eviction_whole}
use Rattle.replay_record.specs.Fields.{decoded}
use Rattle.replay_record.specs.Request.{Request, call, request_in}
use Rattle.apply.specs.Applied.{Meets, Applied}

module _ {bytes : List ℕ} {before : State} {head : PageCache} {after : State} {r : Answered} (applied : Applied bytes before head after r) where
  -- a call
  pub applied_called : (x : Call) → request_in (decoded bytes) (length before.list) ≡ call x → Called x before head after r
  applied_called x asked = subst (λ (y : Request). Meets y before head after r) asked applied.meets

  -- one eviction: demand 3
  pub applied_eviction : request_in (decoded bytes) (length before.list) ≡ call (evict_one (length before.list))
      → EvictionCall (length before.list) before head after r
  applied_eviction asked = public_eviction_whole (applied_called (evict_one (length before.list)) asked)
