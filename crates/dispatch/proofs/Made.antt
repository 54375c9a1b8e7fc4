-- A creation is the model's `create`: on memory that holds a cache it comes to that step, as every other call does to its own, and
-- on any memory it makes what the step makes of any cache with as many slots.
use Rattle.std.specs.Prelude.{Ok, Err}
use mathlib.Core.List.{[]}
use mathlib.Core.Path.{◌≡◌, refl, sym, ap, ◌∙◌, subst}
use Prim.Native.Nat.{ℕ, ◌≤◌, ◌<◌}
use native.Mathlib.Omega.{arith}
use lib.ListN.{length}
use borrow.Author.Tests.{lt-ltb, le-ltb}
use Rattle.page.specs.declared.cache.PageCache.{PageCache}
use Rattle.model.specs.Cache.{Cache, fresh}
use Rattle.model.specs.Call.{create, Outcome, answer}
use Rattle.model.specs.Step.{act, step}
use Rattle.memory.specs.Memory.{Memory}
use Rattle.memory.specs.Holds.{Holds}
use Rattle.soundness.proofs.Joining.{holds_agreeing}
use Rattle.creating.specs.Creation.{CreatedWell, done, too_large, bad_lengths, Creates}
use Rattle.creating.specs.Creation as creation
use Rattle.creating.specs.declared.creating.CreationError.TheVariants as creation_error
use Rattle.answer.specs.Answer.{MatchesOutcome, code_of}
use Rattle.answer.specs.declared.answer.Answer.TheVariants.{Done, TooLarge}
use Rattle.answer.specs.declared.answered.Answered.{Answered}
use Rattle.answer.proofs.Steps.{step_acts, step_too_large, plain_comes, comes_as, comes_told}
use Rattle.contract.specs.Called.{State, History}
use Rattle.contract.specs.Called as history
use Rattle.dispatch.specs.Runs.{answered_as, Creation}

-- ── the model's step ─────────────────────────────────────────────────────────
create_within : (capacity : ℕ) (c : Cache) → capacity ≤ c.size → step (create capacity) c ≡ answer 0 0 (fresh c.size capacity)
unfolding act
create_within capacity c within =
    step_acts (create capacity) (record { capacity = le-ltb c.size capacity within; state = refl; places = refl; naming = refl })

create_above : (capacity : ℕ) (c : Cache) → c.size < capacity → step (create capacity) c ≡ answer 15 0 c
create_above capacity c above = step_too_large (create capacity) (lt-ltb c.size capacity above)

-- ── a creation ───────────────────────────────────────────────────────────────
module _ {capacity : ℕ} {before after : State} {head : PageCache} {r : Answered} (x : Creation capacity before head after r) where
  -- the answer has the number that the creation promises
  pub creation_code : code_of r.answer ≡ creation.code_of x.makes.made
  creation_code = ap (λ (s : Answered). code_of s.answer) x.makes.answer ∙ go x.makes.made
    where
      go : (made : creation.Creation) → code_of (answered_as made head).answer ≡ creation.code_of made
      go (Ok new) = refl
      go (Err creation_error.TooLarge) = refl
      go (Err creation_error.BadLengths) = refl

  -- on memory that holds a cache
  pub creation_comes : (c : Cache) → Holds before.memory head c
      → MatchesOutcome (step (create capacity) c) before.list after.memory after.list r
  creation_comes c h = comes_told x.makes.answer
      (subst (λ list. MatchesOutcome (step (create capacity) c) before.list after.memory list (answered_as x.makes.made head)) (sym x.list)
      (go x.makes.made x.makes.creates))
    where
      size : c.size ≡ length before.memory.by_key
      size = sym h.lengths.by_key

      go : (made : creation.Creation) → Creates before.memory capacity made after.memory
          → MatchesOutcome (step (create capacity) c) before.list after.memory before.list (answered_as made head)
      go (Ok new) (done w) =
          let holds : Holds after.memory new (fresh c.size capacity) =
          subst (λ (n : ℕ). Holds after.memory new (fresh n capacity)) (sym size) w.holds in
          comes_as (create_within capacity c (omega (arith, size, w.within))) (plain_comes (Done 0) holds before.list)
      go (Err creation_error.TooLarge) (too_large w) =
          let holds : Holds after.memory head c = subst (λ (m : Memory). Holds m head c) (sym w.memory) h in
          comes_as (create_above capacity c (omega (arith, size, w.above))) (plain_comes TooLarge holds before.list)
      go (Err creation_error.BadLengths) (bad_lengths w) = absurd (w.lengths (holds_agreeing h))

  -- done, on any memory: it is that of a new cache, whose head comes back
  made_well : code_of r.answer ≡ 0 → CreatedWell before.memory capacity r.head after.memory
  made_well told = go x.makes.made x.makes.creates x.makes.answer
    where
      go : (made : creation.Creation) → Creates before.memory capacity made after.memory → r ≡ answered_as made head
          → CreatedWell before.memory capacity r.head after.memory
      go (Ok new) (done w) q =
          subst (λ (h : PageCache). CreatedWell before.memory capacity h after.memory) (sym (ap (λ (s : Answered). s.head) q)) w
      go (Err creation_error.TooLarge) (too_large w) q = absurd (omega (arith, told, ap (λ (s : Answered). code_of s.answer) q))
      go (Err creation_error.BadLengths) (bad_lengths w) q = absurd (omega (arith, told, ap (λ (s : Answered). code_of s.answer) q))

  -- what is made is what the model makes of any cache with as many slots
  pub creation_step : code_of r.answer ≡ 0 → (d : Cache) → d.size ≡ length before.memory.by_key
      → ((step (create capacity) d).code ≡ 0) × Holds after.memory r.head (step (create capacity) d).cache
  creation_step told d size =
      let w = made_well told in
      let within : step (create capacity) d ≡ answer 0 0 (fresh d.size capacity) = create_within capacity d (omega (arith, size, w.within)) in
      let holds : Holds after.memory r.head (fresh d.size capacity) =
      subst (λ (n : ℕ). Holds after.memory r.head (fresh n capacity)) (sym size) w.holds in (
        ap (λ (o : Outcome). o.code) within,
        subst (λ (e : Cache). Holds after.memory r.head e) (sym (ap (λ (o : Outcome). o.cache) within)) holds,
      )

  -- and a history of calls begins with it
  pub creation_history : code_of r.answer ≡ 0 → History (length before.memory.by_key) capacity [] after.memory r.head
  creation_history told = history.created (made_well told).holds
