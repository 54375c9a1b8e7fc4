-- The tests of rule 13 can be read off the head, save the last: the head has the cache's numbers.
use mathlib.Core.Path.{◌≡◌, refl, sym, ap, ◌∙◌}
use mathlib.Core.Bool.{Bool, true, false, not, cond, ◌&&◌, ◌||◌, true≢false}
use Prim.Native.Nat.{ℕ, ◌+◌, ◌-◌, ◌≤◌, ◌<◌}
use native.Mathlib.Omega.{arith}
use lib.Dec.{eqb, leb, ltb}
use lib.ListN.{length}
use borrow.Author.Tests.{ltb-true, ltb-false, lt-ltb, le-ltb, le-leb, lt-leb}
use Rattle.page.specs.Cache.{threshold}
use Rattle.page.specs.declared.cache.PageCache.{PageCache}
use Rattle.model.specs.Cache.{Cache, held_in, page_may_go}
use Rattle.model.specs.Row.{those}
use Rattle.model.specs.Spill.{needs_spill}
use Rattle.memory.specs.Memory.{Memory}
use Rattle.memory.specs.Holds.{Holds}
use Rattle.memory.proofs.OnceKept.{holds_held}

-- the four tests, in the rule's order
abbrev tests : (on : Bool) (limit held room count : ℕ) → Bool
tests on limit held room count = on && leb limit held && ltb room (held - limit) && ltb count (held - limit)

-- the switch is off, or fewer pages are held than the threshold
abbrev idle : (spill held limit : ℕ) → Bool
idle spill held limit = eqb spill 0 || ltb held limit

-- otherwise it is on, and the threshold is reached
pub record Awake (spill held limit : ℕ) : Type 0 where
  pub on : eqb spill 0 ≡ false
  pub reached : limit ≤ held

pub awake : (spill held limit : ℕ) → idle spill held limit ≡ false → Awake spill held limit
awake spill held limit = go (eqb spill 0) refl
  where
    go : (b : Bool) → eqb spill 0 ≡ b → b || ltb held limit ≡ false → Awake spill held limit
    go true t q = absurd (true≢false q)
    go false t q = record { on = t; reached = ltb-false held limit q }

-- ── the tests, one after another ─────────────────────────────────────────────
module _ (spill held limit room count : ℕ) where
  tests_idle : idle spill held limit ≡ true → tests (not (eqb spill 0)) limit held room count ≡ false
  tests_idle = go (eqb spill 0)
    where
      go : (b : Bool) → b || ltb held limit ≡ true → tests (not b) limit held room count ≡ false
      go true q = refl
      go false q = rw (lt-leb limit held (ltb-true held limit q))

  tests_room : Awake spill held limit → held - limit ≤ room → tests (not (eqb spill 0)) limit held room count ≡ false
  tests_room a h = rw (a.on, le-leb limit held a.reached, le-ltb room (held - limit) h)

  tests_count : Awake spill held limit → room < held - limit → tests (not (eqb spill 0)) limit held room count ≡ ltb count (held - limit)
  tests_count a h = rw (a.on, le-leb limit held a.reached, lt-ltb room (held - limit) h)

-- ── the cache's numbers are the head's ───────────────────────────────────────
switch_told : (on : Bool) (spill : ℕ) → spill ≡ cond on 1 0 → on ≡ not (eqb spill 0)
switch_told true spill q = rw q
switch_told false spill q = rw q

module _ {m : Memory} {head : PageCache} {c : Cache} {limit : ℕ} (g : Holds m head c) (known : limit ≡ threshold head.capacity) where
  -- estimate + max(0, capacity - held)
  abbrev room_in : ℕ
  room_in = head.estimate + (head.capacity - head.held)

  -- the rule's tests, by the head
  needs_told : needs_spill c ≡ tests (not (eqb head.spill 0)) limit head.held room_in (length (those page_may_go c.row))
  unfolding needs_spill
  needs_told =
      let on : c.spill ≡ not (eqb head.spill 0) = switch_told c.spill head.spill g.headed.spill in
      let capacity : c.capacity ≡ head.capacity = sym g.headed.capacity in
      let estimate : c.estimate ≡ head.estimate = sym g.headed.estimate in
      let held : held_in c ≡ head.held = holds_held g in
      let reached : threshold c.capacity ≡ limit = ap threshold capacity ∙ sym known in
      λ i. tests (on i) (reached i) (held i) (estimate i + (capacity i - held i)) (length (those page_may_go c.row))

  -- idle: no spill
  pub needs_idle : idle head.spill head.held limit ≡ true → false ≡ needs_spill c
  needs_idle q = sym (needs_told ∙ tests_idle head.spill head.held limit room_in _ q)

  module _ {free : ℕ} (awoken : Awake head.spill head.held limit) (left : free ≡ head.capacity - head.held) where
    -- room enough: no spill
    pub needs_room : head.held - limit ≤ head.estimate + free → false ≡ needs_spill c
    needs_room h = sym (needs_told ∙ tests_room head.spill head.held limit room_in _ awoken (omega arith))

    -- otherwise the count decides
    pub needs_count : {count : ℕ} → head.estimate + free < head.held - limit → count ≡ length (those page_may_go c.row)
        → ltb count (head.held - limit) ≡ needs_spill c
    needs_count h counted =
        ap (λ (n : ℕ). ltb n (head.held - limit)) counted
        ∙ sym (needs_told ∙ tests_count head.spill head.held limit room_in _ awoken (omega arith))
