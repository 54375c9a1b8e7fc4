-- Every eviction of the model is by demand 3: each sweep comes to what the demand says (Evicts), so one eviction does, and so do
-- evictions one after another. The uses that fall in one are the row's total before it minus the total after it (Totals).
use mathlib.Core.Bool.{Bool, true, false, cond}
use mathlib.Core.List.{[], ◌∷◌, ◌++◌, map}
use mathlib.Core.Option.{Option, none, some}
use mathlib.Core.Path.{◌≡◌, refl, sym, ap, ◌∙◌, subst}
use Prim.Native.Nat.{ℕ, zero, suc, ◌+◌, ◌*◌, ◌-◌, ◌≤◌, ◌<◌}
use native.Mathlib.Omega.{arith}
use lib.Dec.{ltb}
use lib.ListN.{length}
use borrow.Author.Tests.{ltb-true, ltb-false}
use Rattle.model.specs.Row.{Page, Entry, Row, Each, total}
use Rattle.model.specs.Sweep.{Swept, lower, sweep_falls}
use Rattle.model.specs.Demand.{Limited, MayGo, Stays, Victim, taken, refused, Evicts}
use Rattle.model.specs.Demand as demand
use Rattle.model.specs.Cache.{Cache, held_in, with_row, with_estimate, page_may_go}
use Rattle.model.specs.Call.{Outcome, answer}
use Rattle.model.specs.Limits.{CacheInvariant}
use Rattle.model.specs.Rooms.{Room, sweep_of, victim_out, evicted, sweeping, evictions, evict_to}
use Rattle.model.specs.Rooms as rooms
use Rattle.model.specs.Rules.{evict_answer, evict_from, on_evict_one}
use Rattle.model.specs.Evictions.{Loses, EachLoses, OneGoes, NoneGoes, EvictsTo, enough, full, takes}
use Rattle.model.proofs.Evicts.{sweep_evicts, evicts_once, passed_bound, loses, stays_loses}
use Rattle.model.proofs.KeptCases.{either}
use Rattle.model.proofs.KeptRooms.{kept_limited, evicted_kept, evicted_fewer, failed_room_unchanged}
use Rattle.model.proofs.Totals.{sweep_total}

-- ── what the others lose ─────────────────────────────────────────────────────
lower_loses : (r : ℕ) (e : Entry) → (MayGo page_may_go e → r ≤ e.uses) → Loses r e (lower page_may_go r e)
unfolding lower
lower_loses r e as_many = record {
  page = refl;
  falls = λ may. loses page_may_go r e may (as_many may);
  keeps = λ stay. ap (λ (x : Entry). x.uses) (stays_loses page_may_go r e stay);
}

each_loses : (r : ℕ) (row : Row) → Each (λ e. MayGo page_may_go e → r ≤ e.uses) row → EachLoses r row (map (lower page_may_go r) row)
each_loses r [] as_many = tt
each_loses r (e ∷ es) as_many = (lower_loses r e as_many.0, each_loses r es as_many.1)

-- and an entry that has lost exactly r uses is the one that the model's sweep leaves
lost_lowered : (r : ℕ) (e e' : Entry) → Loses r e e' → e' ≡ lower page_may_go r e
unfolding lower
lost_lowered r e e' lost = go (page_may_go e.page) refl
  where
    go : (b : Bool) → page_may_go e.page ≡ b → e' ≡ record { page = e.page; uses = cond b (e.uses - r) e.uses }
    go true may =
        let uses : e'.uses ≡ e.uses - r = omega (arith, lost.falls may) in
        λ i. record { page = lost.page i; uses = uses i }
    go false stay = λ i. record { page = lost.page i; uses = lost.keeps stay i }

each_lowered : (r : ℕ) (row row' : Row) → EachLoses r row row' → row' ≡ map (lower page_may_go r) row
each_lowered r [] [] lost = refl
each_lowered r [] (e' ∷ es') lost = absurd lost
each_lowered r (e ∷ es) [] lost = absurd lost
each_lowered r (e ∷ es) (e' ∷ es') lost = λ i. lost_lowered r e e' lost.0 i ∷ each_lowered r es es' lost.1 i

-- ── one eviction ─────────────────────────────────────────────────────────────
-- a sweep of the model that took the page with the handle `gone`, passed `count` pages and left the cache c'
pub record Sweeps (c : Cache) (gone count : ℕ) (c' : Cache) : Type 0 where
  pub page : Page
  pub victim : (sweep_of c).victim ≡ some page
  pub handle : gone ≡ page.handle
  pub passed : count ≡ (sweep_of c).passed
  pub cache : c' ≡ evicted c

module _ (c : Cache) (l : Each Limited c.row) where
  -- a sweep that took a page took it by demand 3
  pub goes : (met : Row) (v : Entry) (others : Row) → c.row ≡ met ++ v ∷ others → Victim page_may_go met v others
      → sweep_of c ≡ taken page_may_go met v others → OneGoes c v.page.handle (sweep_of c).passed (evicted c)
  unfolding taken
  goes met v others parts victim came =
      let took : (sweep_of c).victim ≡ some v.page = ap (λ (s : Swept). s.victim) came in
      record {
        met = met;
        v = v;
        others = others;
        parts = parts;
        victim = victim;
        handle = refl;
        distance = ap (λ (s : Swept). s.passed) came ∙ ap (λ (row : Row). v.uses * length row + length met) (sym parts);
        under = passed_bound page_may_go c.row v.page l took;
        others' = map (lower page_may_go v.uses) others;
        met' = map (lower page_may_go (suc v.uses)) met;
        row = ap (λ (s : Swept). s.row) came;
        others_lose = each_loses v.uses others victim.lowest;
        met_lose = each_loses (suc v.uses) met victim.first;
        cache = λ i. with_estimate (victim_out (took i) c.estimate) (with_row (sweep_of c).row c);
      }

  -- and what demand 3 allows is that sweep: its victim, what it passed, and the cache that it leaves
  pub goes_is_the_sweep : {gone passed : ℕ} {c' : Cache} → OneGoes c gone passed c' → Sweeps c gone passed c'
  unfolding taken
  goes_is_the_sweep one =
      let came : taken page_may_go one.met one.v one.others ≡ sweep_of c =
      evicts_once page_may_go c.row _ l (demand.takes one.met one.v one.others one.parts one.victim refl) in
      let others = each_lowered one.v.uses one.others one.others' one.others_lose in
      let met = each_lowered (suc one.v.uses) one.met one.met' one.met_lose in
      let row = one.row ∙ (λ i. others i ++ met i) ∙ ap {B = Row} (λ (s : Swept). s.row) came in
      record {
        page = one.v.page;
        victim = ap (λ (s : Swept). s.victim) (sym came);
        handle = one.handle;
        passed = one.distance ∙ ap (λ (x : Row). one.v.uses * length x + length one.met) one.parts ∙ ap (λ (s : Swept). s.passed) came;
        cache = one.cache ∙ (λ i. with_estimate (victim_out (came i).victim c.estimate) (with_row (row i) c));
      }

-- a sweep that took none met none that may go
pub none_goes : (c : Cache) → Each (Stays page_may_go) c.row → sweep_of c ≡ refused page_may_go c.row → NoneGoes c (sweep_of c).passed
unfolding refused
none_goes c stay came = record { stay = stay; rounds = ap (λ (s : Swept). s.passed) came }

-- what fell in a sweep
fell : (c : Cache) → sweep_falls page_may_go c.row + total (evicted c).row ≡ total c.row
fell c = sym (sweep_total page_may_go c.row)

-- ── evictions ────────────────────────────────────────────────────────────────
module _ (target : ℕ) where
  -- a sweep while more are held, and the rest
  pub sweeping_evicts : (c : Cache) (rest : Room) → CacheInvariant c → target < held_in c
      → ((p : Page) → (sweep_of c).victim ≡ some p → EvictsTo target (evicted c) rest)
      → EvictsTo target c (sweeping c (sweep_of c).victim rest)
  unfolding refused taken
  sweeping_evicts c rest k more then = go (sweep_evicts page_may_go c.row (kept_limited c k))
    where
      go : Evicts page_may_go c.row (sweep_of c) → EvictsTo target c (sweeping c (sweep_of c).victim rest)
      go (demand.full stay came) =
          let none_took : (sweep_of c).victim ≡ none = ap (λ (s : Swept). s.victim) came in
          let unchanged : evicted c ≡ c = failed_room_unchanged c k none_took in
          let none_fell : sweep_falls page_may_go c.row ≡ 0 = let same = ap (λ (d : Cache). total d.row) unchanged in omega (arith, fell c, same) in
          subst (EvictsTo target c) (sym (
          (λ i. sweeping c (none_took i) rest)
          ∙ (λ i. record { full = true; passed = (sweep_of c).passed; falls = none_fell i; gone = []; cache = unchanged i })
          )) (full more (none_goes c stay came))
      go (demand.takes met v others parts victim came) =
          let took : (sweep_of c).victim ≡ some v.page = ap (λ (s : Swept). s.victim) came in
          subst (EvictsTo target c) (sym (λ i. sweeping c (took i) rest))
          (takes more (goes c (kept_limited c k) met v others parts victim came) (sweep_falls page_may_go c.row) (fell c) (then v.page took))

  evictions_evict : (n : ℕ) (c : Cache) → held_in c ≤ n → CacheInvariant c → EvictsTo target c (evictions n target c)
  unfolding evictions
  evictions_evict zero c few k = enough {c = c} (omega arith)
  evictions_evict (suc n) c few k = either (EvictsTo target c) (ltb target (held_in c))
      (λ more. sweeping_evicts c _ k (ltb-true target (held_in c) more) (λ p q. evictions_evict n (evicted c) (evicted_fewer c k few p q) (evicted_kept c k)))
      (λ no_more. enough (ltb-false target (held_in c) no_more))

  -- evict while held > target
  pub evict_to_evicts : (c : Cache) → CacheInvariant c → EvictsTo target c (evict_to target c)
  evict_to_evicts c k = evictions_evict (held_in c) c (omega arith) k

  -- the uses that fell and those that are left are those that were there
  pub evicts_total : {c : Cache} {r : Room} → EvictsTo target c r → r.falls + total r.cache.row ≡ total c.row
  evicts_total (enough few) = omega arith
  evicts_total (full more stay) = omega arith
  evicts_total (takes more one n less rest) = omega (arith, less, evicts_total rest)

-- ── one eviction, asked for ──────────────────────────────────────────────────
-- with nothing held there is none
pub evict_none : (c : Cache) → held_in c ≡ 0 → on_evict_one c ≡ answer 14 0 c
evict_none c = go c.row
  where
    go : (row : Row) → length row ≡ 0 → evict_from row c ≡ answer 14 0 c
    go [] q = refl
    go (e ∷ es) q = absurd (omega arith)

-- and otherwise it is one sweep
pub evict_some : (c : Cache) {v : Option Page} → 1 ≤ held_in c → (sweep_of c).victim ≡ v
    → on_evict_one c ≡ evict_answer (sweeping c v (rooms.enough (evicted c)))
evict_some c {v} = go c.row
  where
    go : (row : Row) → 1 ≤ length row → (sweep_of c).victim ≡ v → evict_from row c ≡ evict_answer (sweeping c v (rooms.enough (evicted c)))
    go [] some_held q = absurd (omega arith)
    go (e ∷ es) some_held q = ap {B = Outcome} (λ (w : Option Page). evict_answer (sweeping c w (rooms.enough (evicted c)))) q
