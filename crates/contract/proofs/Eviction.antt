-- Demand 3 of the public calls, from their contract alone: what a call comes to is the model's step (Refused), and each sweep of
-- the model is by demand 3.
use mathlib.Core.Bool.{Bool, true, false, true≢false}
use mathlib.Core.List.{◌∷◌, ◌++◌}
use mathlib.Core.Logic.{◌↔◌}
use mathlib.Core.Option.{Option, none, some}
use mathlib.Core.Path.{◌≡◌, refl, sym, ap, ◌∙◌, subst}
use Prim.Native.Nat.{ℕ, zero, suc, ◌≤◌}
use native.Mathlib.Omega.{arith}
use lib.Dec.{ltb}
use lib.ListN.{length, drop}
use borrow.Author.Tests.{ltb-true, ltb-false, le-ltb}
use Rattle.page.specs.declared.cache.PageCache.{PageCache}
use Rattle.page.proofs.Each.{each_middle}
use Rattle.model.specs.Cache.{Cache, held_in, page_may_go}
use Rattle.model.specs.Call.{Call, evict_one, Outcome, answer}
use Rattle.model.specs.Demand.{Stays, Victim, taken, refused, Evicts}
use Rattle.model.specs.Demand as demand
use Rattle.model.specs.Evictions as demands
use Rattle.model.specs.Rooms.{sweep_of, evicted, enough, sweeping}
use Rattle.model.specs.Row.{Page, Entry, Row, Each}
use Rattle.model.specs.Rules.{evict_answer, on_evict_one}
use Rattle.model.specs.Step.{act, step}
use Rattle.model.specs.Sweep.{Swept}
use Rattle.model.specs.Uses.{Evicting, effect_of}
use Rattle.model.specs.Uses as uses
use Rattle.model.proofs.Evictions.{goes, none_goes, evict_none, evict_some}
use Rattle.model.proofs.Evicts.{sweep_evicts}
use Rattle.model.proofs.Exact.{step_counts}
use Rattle.model.proofs.KeptRooms.{kept_limited, failed_room_unchanged}
use Rattle.memory.specs.Holds.{Holds}
use Rattle.answer.specs.Answer.{MatchesOutcome, code_of, value_of}
use Rattle.answer.proofs.Steps.{step_acts, step_short_list, comes_as}
use Rattle.answer.specs.declared.answered.Answered.{Answered}
use Rattle.contract.specs.Called.{State, CallEffect, refuses, acts, Called}
use Rattle.contract.specs.Eviction.{AnswersFull, TakesOne, EvictsOne, full, takes, OnlyCode, EvictionCall, unsound, short, empty, evicts, EvictionsOf}
use Rattle.contract.proofs.Refused.{called_kept, acted, unaltered}

-- ── the model's step ─────────────────────────────────────────────────────────
-- with a list that is long enough no test refuses
step_tested : (places : ℕ) (c : Cache) → held_in c ≤ places → step (evict_one places) c ≡ on_evict_one c
unfolding act
step_tested places c long =
    step_acts (evict_one places) (record { capacity = refl; state = refl; places = le-ltb places (held_in c) long; naming = refl })

-- ── one eviction ─────────────────────────────────────────────────────────────
module _ {places : ℕ} {before after : State} {head : PageCache} {r : Answered} (x : Called (evict_one places) before head after r) (c : Cache)
    (h : Holds before.memory head c) where
  -- the call comes to an outcome that is the model's step
  comes : (o : Outcome) → step (evict_one places) c ≡ o → MatchesOutcome o before.list after.memory after.list r
  comes o q = comes_as (sym q) (acted x c h)

  -- an answer that leaves the cache
  only_code : (code : ℕ) → step (evict_one places) c ≡ answer code 0 c → OnlyCode code before head after r
  only_code code q =
      let f = (comes _ q).follows in
      record {
        code = f.code;
        value = f.value;
        passed = f.passed;
        listed = f.listed;
        unaltered = unaltered x c h (ap (λ (o : Outcome). o.cache) q) (ap (λ (o : Outcome). o.listed) q);
      }

  module _ (some_held : 1 ≤ held_in c) (long : held_in c ≤ places) where
    evicting : {v : Option Page} → (sweep_of c).victim ≡ v → step (evict_one places) c ≡ evict_answer (sweeping c v (enough (evicted c)))
    evicting q = step_tested places c long ∙ evict_some c some_held q

    answers_full : Each (Stays page_may_go) c.row → sweep_of c ≡ refused page_may_go c.row → AnswersFull c before head after r
    unfolding refused
    answers_full stay came =
        let none_took : (sweep_of c).victim ≡ none = ap (λ (s : Swept). s.victim) came in
        let q = evicting none_took in
        let f = (comes _ q).follows in
        let none_gone = none_goes c stay came in
        record {
          none = record { stay = none_gone.stay; rounds = omega (arith, f.passed, none_gone.rounds) };
          code = f.code;
          value = f.value;
          listed = f.listed;
          unaltered = unaltered x c h (ap (λ (o : Outcome). o.cache) q ∙ failed_room_unchanged c (called_kept x c h) none_took)
              (ap (λ (o : Outcome). o.listed) q);
        }

    takes_one : (met : Row) (v : Entry) (others : Row) → c.row ≡ met ++ v ∷ others → Victim page_may_go met v others
        → sweep_of c ≡ taken page_may_go met v others → TakesOne c before after r
    unfolding taken
    takes_one met v others parts victim came =
        let q = evicting (ap (λ (s : Swept). s.victim) came) in
        let f = (comes _ q).follows in
        let one = goes c (kept_limited c (called_kept x c h)) met v others parts victim came in
        let passed : r.passed ≡ (sweep_of c).passed = omega (arith, f.passed) in
        record {
          handle = v.page.handle;
          left = evicted c;
          goes = subst (λ (n : ℕ). demands.OneGoes c v.page.handle n (evicted c)) (sym passed) one;
          code = f.code;
          value = f.value;
          listed = f.listed;
          list = (comes _ q).wrote.list;
          holds = f.holds;
        }

    -- a page goes, or none may
    pub public_eviction : EvictsOne c before head after r
    public_eviction = go (sweep_evicts page_may_go c.row (kept_limited c (called_kept x c h)))
      where
        go : Evicts page_may_go c.row (sweep_of c) → EvictsOne c before head after r
        go (demand.full stay came) = full (answers_full stay came)
        go (demand.takes met v others parts victim came) = takes (takes_one met v others parts victim came)

    -- Full exactly if no page may go
    pub public_full_iff : (code_of r.answer ≡ 8) ↔ Each (Stays page_may_go) c.row
    public_full_iff = (λ q. to public_eviction q, λ stay. from public_eviction stay)
      where
        to : EvictsOne c before head after r → code_of r.answer ≡ 8 → Each (Stays page_may_go) c.row
        to (full n) q = n.none.stay
        to (takes t) q = absurd (omega (arith, q, t.code))

        from : EvictsOne c before head after r → Each (Stays page_may_go) c.row → code_of r.answer ≡ 8
        from (full n) stay = n.code
        from (takes t) stay =
            let one = t.goes in
            let stays = each_middle (Stays page_may_go) one.met one.v one.others (subst (Each (Stays page_may_go)) one.parts stay) in
            absurd (true≢false (sym one.victim.goes ∙ stays))

-- ── the whole call ───────────────────────────────────────────────────────────
pub public_eviction_whole : {places : ℕ} {before after : State} {head : PageCache} {r : Answered}
    → Called (evict_one places) before head after r → EvictionCall places before head after r
public_eviction_whole {places} {before} {after} {head} {r} x = go x.effect
  where
    held : (c : Cache) → Holds before.memory head c → held_in c ≤ places → (n : ℕ) → held_in c ≡ n → EvictionCall places before head after r
    held c h long zero q = empty c h q (only_code x c h 14 (step_tested places c long ∙ evict_none c q))
    held c h long (suc n) q =
        let some_held : 1 ≤ held_in c = omega (arith, q) in
        evicts c h some_held long (public_eviction x c h some_held long)

    listed : (c : Cache) → Holds before.memory head c → (b : Bool) → ltb places (held_in c) ≡ b → EvictionCall places before head after r
    listed c h true q = short c h (ltb-true places (held_in c) q) (only_code x c h 3 (step_short_list (evict_one places) refl refl q))
    listed c h false q = held c h (ltb-false places (held_in c) q) (held_in c) refl

    go : CallEffect (evict_one places) before head after r → EvictionCall places before head after r
    go (refuses n same q) = unsound n
        (record {
          code = ap (λ (s : Answered). code_of s.answer) q;
          value = ap (λ (s : Answered). value_of s.answer) q;
          passed = ap (λ (s : Answered). s.passed) q;
          listed = ap (λ (s : Answered). s.listed) q;
          unaltered = record { state = same; head = ap (λ (s : Answered). s.head) q };
        })
    go (acts s f) = listed s.cache s.holds (ltb places (held_in s.cache)) refl

-- ── the evictions of any call ────────────────────────────────────────────────
pub called_evictions : {call : Call} {before after : State} {head : PageCache} {r : Answered} → Called call before head after r
    → (c : Cache) → Holds before.memory head c → EvictionsOf (effect_of call c).evicting before after r
called_evictions {call} {before} {after} {head} {r} x c h = go (effect_of call c).evicting (step_counts call c (called_kept x c h)).evictions
  where
    came : MatchesOutcome (step call c) before.list after.memory after.list r
    came = acted x c h

    go : (y : Option Evicting) → uses.EvictionsOf y (step call c) → EvictionsOf y before after r
    go none idle = came.follows.passed ∙ idle.passed
    go (some y) by = record {
      room = by.room;
      evictions = by.evictions;
      passed = came.follows.passed ∙ by.passed;
      listed = came.follows.listed ∙ ap length by.listed;
      list = subst (λ handles. after.list ≡ handles ++ drop (length handles) before.list) by.listed came.wrote.list;
      cache = (step call c).cache;
      holds = came.follows.holds;
      row = by.row;
    }
