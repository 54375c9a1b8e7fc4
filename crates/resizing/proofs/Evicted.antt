-- One eviction that is asked for comes to the model's: it is one sweep, if something is held.
use mathlib.Core.Path.{◌≡◌, refl, sym, ap, ◌∙◌}
use mathlib.Core.Bool.{true, false}
use mathlib.Core.List.{List, ◌∷◌}
use mathlib.Core.Option.{none, some}
use Prim.Native.Nat.{ℕ, ◌≤◌}
use native.Mathlib.Nat.{add-zero}
use native.Mathlib.Omega.{arith}
use lib.ListN.{length, set, drop}
use lib.Seq.{set_split}
use Rattle.page.specs.declared.cache.PageCache.{PageCache}
use Rattle.page.specs.declared.names.PageHandle.{PageHandle}
use Rattle.model.specs.Cache.{Cache}
use Rattle.model.specs.Rooms.{Room, sweep_of, evicted, enough, sweeping}
use Rattle.model.specs.Rules.{on_evict_one}
use Rattle.model.proofs.Evictions.{evict_some}
use Rattle.memory.specs.Memory.{Memory}
use Rattle.memory.specs.Holds.{Holds}
use Rattle.memory.proofs.OnceKept.{holds_held}
use Rattle.answer.specs.Answer.{MatchesOutcome}
use Rattle.answer.specs.declared.answer.Answer.TheVariants.{Done, Full}
use Rattle.answer.proofs.Steps.{comes_as}
use Rattle.eviction.specs.Evict.{Takes, Refuses}
use Rattle.eviction.specs.Room.{Made}
use Rattle.eviction.proofs.Step.{took_is_the_sweep, full_is_the_sweep}
use Rattle.resizing.proofs.Following.{made_comes}

module _ {m : Memory} {head : PageCache} {c : Cache} (H : Holds m head c) {list : List ℕ} where
  module _ (some_held : 1 ≤ head.held) {m' : Memory} {n : ℕ} where
    -- none may go
    pub evict_full : Refuses c m' n head → MatchesOutcome (on_evict_one c) list m' list (record { answer = Full; passed = n; listed = 0; head = head })
    evict_full refused =
        let s = full_is_the_sweep H refused in
        let made : Made (sweeping c none (enough (evicted c))) list 0 m' list (record { full = true; passed = n; listed = 0; head = head }) =
        record { full = refl; passed = s.passed; holds = s.holds; listed = refl; handles = refl } in
        comes_as (evict_some c (omega (arith, holds_held H)) s.victim) (made_comes Full made s.holds)

    -- a page goes, and its handle is listed
    pub evict_took : {handle : PageHandle} {head' : PageCache} → Takes c m' handle n head' → 1 ≤ length list
        → MatchesOutcome (on_evict_one c) list m' (set list 0 handle.0) (record { answer = Done 0; passed = n; listed = 1; head = head' })
    evict_took {handle} {head'} took long =
        let s = took_is_the_sweep H took in
        let room : Room = sweeping c (some s.page) (enough (evicted c)) in
        let listed : set list 0 handle.0 ≡ s.page.handle ∷ drop 1 list =
        set_split list 0 handle.0 long ∙ ap {B = List ℕ} (λ (h : ℕ). h ∷ drop 1 list) s.handle in
        let made : Made room list 0 m' (set list 0 handle.0) (record { full = false; passed = n; listed = 1; head = head' }) =
        record { full = refl; passed = s.passed ∙ sym (add-zero (sweep_of c).passed); holds = s.holds; listed = refl; handles = listed } in
        comes_as (evict_some c (omega (arith, holds_held H)) s.victim) (made_comes (Done 0) made s.holds)
