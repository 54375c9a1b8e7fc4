-- From creation on, memory that only calls changed holds what the model's run of those calls comes to, so that what is proved
-- of runs is proved of the memory.
use mathlib.Core.List.{List, [], ◌∷◌, ◌++◌}
use mathlib.Core.Path.{◌≡◌, refl}
use Prim.Native.Nat.{ℕ}
use Rattle.page.specs.declared.cache.PageCache.{PageCache}
use Rattle.model.specs.Cache.{Cache, fresh}
use Rattle.model.specs.Call.{Call}
use Rattle.model.specs.Step.{step, run}
use Rattle.memory.specs.Memory.{Memory}
use Rattle.memory.specs.Holds.{Holds, Sound}
use Rattle.contract.specs.Called.{CallEffect, refuses, acts, History, created, called}

-- one call more
run_snoc : (calls : List Call) (call : Call) (c : Cache) → run (calls ++ call ∷ []) c ≡ (step call (run calls c)).cache
unfolding run
run_snoc [] call c = refl
run_snoc (x ∷ xs) call c = run_snoc xs call (step x c).cache

pub history_holds : {size capacity : ℕ} {calls : List Call} {m : Memory} {head : PageCache}
    → History size capacity calls m head → Holds m head (run calls (fresh size capacity))
unfolding run
history_holds (created h) = h
history_holds {size} {capacity} (called {calls} {m} {m'} {head} {list} {list'} {r} call past x) = go (history_holds past) x.effect
  where
    go : Holds m head (run calls (fresh size capacity)) → CallEffect call (record { memory = m; list = list }) head (record { memory = m'; list = list' }) r
        → Holds m' r.head (run (calls ++ call ∷ []) (fresh size capacity))
    go h (refuses n _ _) = absurd (n (record { cache = run calls (fresh size capacity); holds = h }))
    go h (acts _ f) = rw (run_snoc calls call (fresh size capacity)) (f (run calls (fresh size capacity)) h).follows.holds

-- it is sound, and stays so: no call ever answers 1 on it
pub history_sound : {size capacity : ℕ} {calls : List Call} {m : Memory} {head : PageCache} → History size capacity calls m head → Sound m head
history_sound past = record { cache = _; holds = history_holds past }
