-- What a cache keeps from its creation on, call by call: a test that refuses changes nothing, and every rule keeps the limits.
use mathlib.Core.List.{List, [], ◌∷◌}
use mathlib.Core.Path.{◌≡◌, refl, ap}
use Prim.Native.Nat.{ℕ, zero, suc, ◌≤◌}
use native.Mathlib.Omega.{arith}
use lib.ListN.{length}
use Rattle.model.specs.Cache.{Cache, held_in, fresh}
use Rattle.model.specs.Call.{Call, answer}
use Rattle.model.specs.Step.{tested, step, run}
use Rattle.model.specs.Tests.{refusal}
use Rattle.model.specs.Limits.{CacheInvariant, ArgumentsInRange, AllInRange}
use Rattle.model.proofs.KeptTests.{passes}
use Rattle.model.proofs.KeptLeaves.{Refusal, Unchanged, Leaves, leaves_same}
use Rattle.model.proofs.KeptRules.{act_leaves}
pub use Rattle.model.proofs.KeptPages.{fresh_kept}
pub use Rattle.model.proofs.KeptSize.{step_size}

-- ── a call ───────────────────────────────────────────────────────────────────
-- a test that fails is the whole answer
pub refused_unchanged : (call : Call) (c : Cache) (n : ℕ) → refusal call c ≡ suc n → step call c ≡ answer (suc n) 0 c
unfolding step
refused_unchanged call c n h = ap (λ (code : ℕ). tested code call c) h

step_leaves : (call : Call) (c : Cache) → CacheInvariant c → Leaves c (held_in c) (ArgumentsInRange call) (step call c)
unfolding step
step_leaves call c k = go (refusal call c) refl
  where
    go : (code : ℕ) → refusal call c ≡ code → Leaves c (held_in c) (ArgumentsInRange call) (tested code call c)
    go zero h = act_leaves call c k (passes call c h)
    go (suc n) h = leaves_same c (suc n) 0 k

pub step_kept : (call : Call) (c : Cache) → ArgumentsInRange call → CacheInvariant c → CacheInvariant (step call c).cache
step_kept call c ranged k = (step_leaves call c k).kept ranged

-- a list as long as held has room for what a call lists
pub listed_bound : (call : Call) (c : Cache) → CacheInvariant c → length (step call c).listed ≤ held_in c
listed_bound call c k = (step_leaves call c k).listed

-- the codes 11, 12, 13, 14, 15, 18, 19 and 20 leave all unchanged
pub high_code_unchanged : (call : Call) (c : Cache) → CacheInvariant c → 11 ≤ (step call c).code → Unchanged c (step call c)
high_code_unchanged call c k = (step_leaves call c k).refused

-- a refusal that lists nothing leaves all unchanged: a sweep that took no page changed nothing, and `clear` removes all or nothing
pub unlisted_unchanged : (call : Call) (c : Cache) → CacheInvariant c → Refusal (step call c).code → (step call c).listed ≡ [] → (step call c).cache ≡ c
unlisted_unchanged call c k = (step_leaves call c k).unlisted

-- the key exists with another handle
pub code_11_unchanged : (call : Call) (c : Cache) → CacheInvariant c → (step call c).code ≡ 11
    → ((step call c).cache ≡ c) × ((step call c).listed ≡ [])
code_11_unchanged call c k h = let u = high_code_unchanged call c k (omega arith) in (u.cache, u.listed)

-- forced, and held = S after the attempt
pub code_13_unchanged : (call : Call) (c : Cache) → CacheInvariant c → (step call c).code ≡ 13
    → ((step call c).cache ≡ c) × ((step call c).listed ≡ [])
code_13_unchanged call c k h = let u = high_code_unchanged call c k (omega arith) in (u.cache, u.listed)

-- ── calls from the creation on ───────────────────────────────────────────────
steps_kept : (calls : List Call) (c : Cache) → AllInRange calls → CacheInvariant c → CacheInvariant (run calls c)
unfolding run
steps_kept [] c ranged k = k
steps_kept (call ∷ calls) c ranged k = steps_kept calls (step call c).cache ranged.1 (step_kept call c ranged.0 k)

pub run_kept : (size capacity : ℕ) → capacity ≤ size → (calls : List Call) → AllInRange calls
    → CacheInvariant (run calls (fresh size capacity))
run_kept size capacity h calls ranged = steps_kept calls (fresh size capacity) ranged (fresh_kept size capacity h)
