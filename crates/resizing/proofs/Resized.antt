-- A resize comes to the model's: the evictions are the model's (crate eviction), and no page changes with the capacity.
use mathlib.Core.Path.{◌≡◌, refl, sym, ap, ◌∙◌}
use mathlib.Core.Bool.{Bool, true, false}
use mathlib.Core.List.{List}
use Prim.Native.Nat.{ℕ, ◌^◌, ◌≤◌, ◌<◌}
use native.Mathlib.Omega.{arith}
use lib.ListN.{length}
use borrow.Author.Tests.{ne_eqb}
use Rattle.page.specs.declared.cache.PageCache.{PageCache}
use Rattle.model.specs.Cache.{Cache, held_in, with_capacity}
use Rattle.model.specs.Call.{Outcome, answer, resize}
use Rattle.model.specs.Rooms.{Room, evict_to, following}
use Rattle.model.specs.Rules.{on_resize, resized}
use Rattle.model.specs.Step.{act, step}
use Rattle.model.proofs.KeptRooms.{evictions_few}
use Rattle.model.proofs.KeptSize.{evictions_size}
use Rattle.memory.specs.Memory.{Memory}
use Rattle.memory.specs.Holds.{Holds}
use Rattle.memory.proofs.OnceKept.{holds_fits}
use Rattle.memory.proofs.Reheaded.{reheaded}
use Rattle.answer.specs.Answer.{plainly, MatchesOutcome}
use Rattle.answer.specs.declared.answer.Answer.TheVariants.{Done, ShortList, PendingEvictions, TooLarge}
use Rattle.answer.specs.declared.answered.Answered.{Answered}
use Rattle.answer.proofs.Steps.{step_acts, step_too_large, step_short_list, list_short, list_long, capacity_above, capacity_within, comes_as, plain_comes}
use Rattle.eviction.specs.Room.{Made}
use Rattle.eviction.specs.declared.making_room.Room as code
use Rattle.resizing.specs.Resize.{head_for, resized_as}
use Rattle.resizing.proofs.Following.{made_comes}

-- ── the tests ────────────────────────────────────────────────────────────────
module _ (capacity : ℕ) {m : Memory} {head : PageCache} {c : Cache} (H : Holds m head c) {list : List ℕ} where
  pub resize_large : length m.by_key < capacity → MatchesOutcome (step (resize capacity (length list)) c) list m list (plainly TooLarge head)
  resize_large large = comes_as (step_too_large (resize capacity (length list)) (capacity_above H large)) (plain_comes TooLarge H list)

  module _ (within : capacity ≤ length m.by_key) where
    pub resize_short : length list < head.held → MatchesOutcome (step (resize capacity (length list)) c) list m list (plainly ShortList head)
    resize_short short =
        comes_as (step_short_list (resize capacity (length list)) (capacity_within H within) refl (list_short H short)) (plain_comes ShortList H list)

    pub resize_acts : head.held ≤ length list → {m' : Memory} {list' : List ℕ} {r : Answered} → MatchesOutcome (on_resize capacity c) list m' list' r
        → MatchesOutcome (step (resize capacity (length list)) c) list m' list' r
    unfolding act
    resize_acts long comes = comes_as (step_acts (resize capacity (length list))
        (record { capacity = capacity_within H within; state = refl; places = list_long H long; naming = refl })) comes

-- ── the rule ─────────────────────────────────────────────────────────────────
-- the capacity alone is another
holds_capacity : {m : Memory} {head : PageCache} {c : Cache} {capacity : ℕ} → Holds m head c → capacity ≤ length m.by_key
    → Holds m (head_for capacity head) (with_capacity capacity c)
holds_capacity {c = c} {capacity = capacity} H within = reheaded H capacity c.spill c.estimate (omega (arith, H.lengths.by_key)) (record {
  held = H.headed.held;
  hand = H.headed.hand;
  capacity = refl;
  spill = H.headed.spill;
  estimate = H.headed.estimate;
})

-- by whether the capacity is the same, and whether the evictions ended with Full
abbrev rule : ℕ → Cache → Bool → Outcome
rule capacity c same = elim same [ true ↦ answer 0 0 c | false ↦ resized capacity (evict_to capacity c) ]

abbrev ending : ℕ → Room → Bool → Outcome
ending capacity room full =
    following room (elim full [ true ↦ answer 10 0 room.cache | false ↦ answer 0 0 (with_capacity capacity room.cache) ])

module _ (capacity : ℕ) {m : Memory} {head : PageCache} {c : Cache} (H : Holds m head c) where
  module _ {m' : Memory} {list list' : List ℕ} {r : code.Room} (made : Made (evict_to capacity c) list 0 m' list' r) where
    -- no more went than were held
    pub few_listed : r.listed < 2 ^ 32
    few_listed = omega (arith, made.listed, evictions_few (held_in c) capacity c, holds_fits H, H.limits.most)

    evictions_ended : (full : Bool) → r.full ≡ full → resized capacity (evict_to capacity c) ≡ ending capacity (evict_to capacity c) full
    evictions_ended full q = ap {B = Outcome} (ending capacity (evict_to capacity c)) (sym made.full ∙ q)

    -- to another one: evictions, and the capacity only if they were enough. There are as many slots as before
    pub resize_other : (capacity ≡ head.capacity → ⊥) → capacity ≤ length m.by_key
        → MatchesOutcome (on_resize capacity c) list m' list' (resized_as r.full r capacity)
    resize_other other within =
        comes_as (ap {B = Outcome} (rule capacity c) (ne_eqb capacity c.capacity (λ q. other (q ∙ sym H.headed.capacity)))) (go r.full refl)
      where
        within' : capacity ≤ length m'.by_key
        within' = omega (arith, within, H.lengths.by_key, made.holds.lengths.by_key, evictions_size (held_in c) capacity c)

        go : (full : Bool) → r.full ≡ full → MatchesOutcome (resized capacity (evict_to capacity c)) list m' list' (resized_as full r capacity)
        go true q = comes_as (evictions_ended true q) (made_comes PendingEvictions made made.holds)
        go false q = comes_as (evictions_ended false q) (made_comes (Done 0) made (holds_capacity made.holds within'))
