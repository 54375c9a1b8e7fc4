-- Evictions one after another: what one has done and what the others come to are together what all of them come to, since
-- the model's evictions go on from the cache that one leaves.
use mathlib.Core.Path.{◌≡◌, refl, sym, ap, ◌∙◌, subst}
use mathlib.Core.Bool.{Bool, true, false}
use mathlib.Core.List.{List, [], ◌∷◌, ◌++◌, append_assoc, append-nil}
use mathlib.Core.Option.{Option, none, some}
use Prim.Native.Nat.{ℕ, zero, suc, ◌+◌, ◌-◌, ◌≤◌, ◌<◌}
use native.Mathlib.Nat.{add-zero, zero-add}
use native.Mathlib.Omega.{arith}
use borrow.Author.Tests.{lt-ltb, le-ltb}
use Rattle.page.specs.declared.cache.PageCache.{PageCache}
use Rattle.page.specs.declared.names.PageHandle.{PageHandle}
use Rattle.model.specs.Cache.{Cache, held_in, page_may_go}
use Rattle.model.specs.Rooms.{Room, sweep_of, evicted, enough, sweeping, evictions, evict_to}
use Rattle.model.specs.Row.{Page}
use Rattle.model.proofs.Evicts.{held_after}
use Rattle.memory.specs.Memory.{Memory}
use Rattle.memory.specs.Holds.{Holds}
use Rattle.memory.proofs.OnceKept.{holds_held, holds_limited}
use Rattle.eviction.proofs.Step.{TookSweep, FullSweep}

-- ── the model's evictions ────────────────────────────────────────────────────
module _ (target : ℕ) (c : Cache) where
  -- as few as wanted are held
  evictions_enough : (n : ℕ) → held_in c ≤ target → evictions n target c ≡ enough c
  unfolding evictions
  evictions_enough zero few = refl
  evictions_enough (suc n) few = rw (le-ltb target (held_in c) few, evictions)

  -- more are held: a sweep, and what follows it
  evictions_more : (n : ℕ) → target < held_in c → {v : Option Page} → (sweep_of c).victim ≡ v
      → evictions (suc n) target c ≡ sweeping c v (evictions n target (evicted c))
  unfolding evictions
  evictions_more n more q =
      let rest : Room = evictions n target (evicted c) in
      ap {B = Room} (λ (b : Bool). elim b [ true ↦ sweeping c (sweep_of c).victim rest | false ↦ enough c ]) (lt-ltb target (held_in c) more)
      ∙ ap {B = Room} (λ (v : Option Page). sweeping c v rest) q

  -- the sweep takes a page, so that one less is held
  evict_took : {p : Page} → target < held_in c → (sweep_of c).victim ≡ some p → suc (held_in (evicted c)) ≡ held_in c
      → evict_to target c ≡ sweeping c (some p) (evict_to target (evicted c))
  evict_took more q less = ap {B = Room} (λ n. evictions n target c) (sym less) ∙ evictions_more (held_in (evicted c)) more q

  -- it takes none, and is the last
  evict_full : target < held_in c → (sweep_of c).victim ≡ none → evict_to target c ≡ sweeping c none (enough c)
  evict_full more q =
      let some_held : held_in c ≡ suc (held_in c - 1) = omega arith in
      ap {B = Room} (λ n. evictions n target c) some_held ∙ evictions_more (held_in c - 1) more q

-- ── a loop of evictions ──────────────────────────────────────────────────────
-- the evictions that are left, from the cache that the memory holds now, come to the room, after `count` pages were
-- passed and the handles `went` were listed
pub record Toward (room : Room) (target : ℕ) (m : Memory) (head : PageCache) (count : ℕ) (went : List ℕ) : Type 0 where
  pub now : Cache
  pub holds : Holds m head now
  pub full : (evict_to target now).full ≡ room.full
  pub passed : count + (evict_to target now).passed ≡ room.passed
  pub gone : went ++ (evict_to target now).gone ≡ room.gone
  pub cache : (evict_to target now).cache ≡ room.cache

-- the evictions are done, and the room is what they came to
pub record Reached (room : Room) (m : Memory) (head : PageCache) (is_full : Bool) (count : ℕ) (went : List ℕ) : Type 0 where
  pub holds : Holds m head room.cache
  pub full : is_full ≡ room.full
  pub passed : count ≡ room.passed
  pub gone : went ≡ room.gone

pub toward_start : {target : ℕ} {m : Memory} {head : PageCache} {c : Cache} → Holds m head c → Toward (evict_to target c) target m head 0 []
toward_start H = record { now = _; holds = H; full = refl; passed = zero-add _; gone = refl; cache = refl }

module _ {room : Room} {target : ℕ} {m : Memory} {head : PageCache} {count : ℕ} {went : List ℕ} (t : Toward room target m head count went) where
  -- enough have gone
  pub toward_enough : head.held ≤ target → Reached room m head false count went
  toward_enough few =
      let q : evict_to target t.now ≡ enough t.now = evictions_enough target t.now (held_in t.now) (omega (arith, holds_held t.holds)) in
      record {
        holds = subst (Holds m head) (ap {B = Cache} (λ (r : Room). r.cache) (sym q) ∙ t.cache) t.holds;
        full = ap (λ (r : Room). r.full) (sym q) ∙ t.full;
        passed = sym (add-zero count) ∙ ap (λ (r : Room). count + r.passed) (sym q) ∙ t.passed;
        gone = sym (append-nil went) ∙ ap {B = List ℕ} (λ (r : Room). went ++ r.gone) (sym q) ∙ t.gone;
      }

  module _ (more : target < head.held) where
    over : target < held_in t.now
    over = omega (arith, holds_held t.holds)

    -- one more goes
    module _ {m' : Memory} {handle : PageHandle} {n : ℕ} {head' : PageCache} (s : TookSweep t.now m' handle n head') where
      less : suc (held_in (evicted t.now)) ≡ held_in t.now
      less = held_after page_may_go t.now.row s.page (holds_limited t.holds) s.victim

      pub toward_held : head'.held + 1 ≡ head.held
      toward_held = omega (arith, less, holds_held t.holds, holds_held s.holds)

      pub toward_took : Toward room target m' head' (count + n) (went ++ handle.0 ∷ [])
      toward_took =
          let rest : Room = evict_to target (evicted t.now) in
          let q : evict_to target t.now ≡ sweeping t.now (some s.page) rest = evict_took target t.now over s.victim less in
          let lists : (went ++ handle.0 ∷ []) ++ rest.gone ≡ went ++ s.page.handle ∷ rest.gone =
          append_assoc went (handle.0 ∷ []) rest.gone ∙ ap {B = List ℕ} (λ x. went ++ x ∷ rest.gone) s.handle in
          let sums : count + n + rest.passed ≡ count + ((sweep_of t.now).passed + rest.passed) = omega (arith, s.passed) in
          record {
            now = evicted t.now;
            holds = s.holds;
            full = ap (λ (r : Room). r.full) (sym q) ∙ t.full;
            passed = sums ∙ ap (λ (r : Room). count + r.passed) (sym q) ∙ t.passed;
            gone = lists ∙ ap {B = List ℕ} (λ (r : Room). went ++ r.gone) (sym q) ∙ t.gone;
            cache = ap {B = Cache} (λ (r : Room). r.cache) (sym q) ∙ t.cache;
          }

    -- none may go
    pub toward_full : {m' : Memory} {n : ℕ} → FullSweep t.now m' n head → Reached room m' head true (count + n) went
    toward_full {m'} {n} s =
        let q : evict_to target t.now ≡ sweeping t.now none (enough t.now) = evict_full target t.now over s.victim in
        record {
          holds = subst (Holds m' head) (ap {B = Cache} (λ (r : Room). r.cache) (sym q) ∙ t.cache) s.holds;
          full = ap (λ (r : Room). r.full) (sym q) ∙ t.full;
          passed = ap (λ k. count + k) s.passed ∙ ap (λ (r : Room). count + r.passed) (sym q) ∙ t.passed;
          gone = sym (append-nil went) ∙ ap {B = List ℕ} (λ (r : Room). went ++ r.gone) (sym q) ∙ t.gone;
        }
