-- One eviction is one sweep of the model: demand 3 allows one outcome, and the model's sweep has it.
use mathlib.Core.Path.{◌≡◌, refl, sym, ap, ◌∙◌, subst}
use mathlib.Core.Option.{none, some}
use Prim.Native.Nat.{ℕ, suc, ◌*◌, ◌<◌}
use Rattle.std.specs.Prelude.{Result, Ok, Err}
use Rattle.page.specs.Entry.{ref_max}
use Rattle.page.specs.declared.cache.PageCache.{PageCache}
use Rattle.page.specs.declared.names.PageHandle.{PageHandle}
use Rattle.model.specs.Cache.{Cache, held_in, with_row, with_estimate, page_may_go}
use Rattle.model.specs.Demand.{full, refused}
use Rattle.model.specs.Rooms.{sweep_of, victim_out, evicted}
use Rattle.model.specs.Row.{Page}
use Rattle.model.specs.Sweep.{Swept}
use Rattle.model.proofs.Evictions.{goes_is_the_sweep}
use Rattle.model.proofs.Evicts.{evicts_once}
use Rattle.memory.specs.Memory.{Memory}
use Rattle.memory.specs.Holds.{Holds}
use Rattle.memory.proofs.OnceKept.{holds_limited}
use Rattle.eviction.specs.Evict.{Takes, Refuses, EvictionOf}
use Rattle.eviction.specs.declared.evicting.Evicted.{Evicted}
use Rattle.eviction.specs.declared.evicting.Full.{Full}

-- ── the model's sweep ────────────────────────────────────────────────────────
-- the same in the model's words: the page that the sweep took, how many it passed, and the cache after it
pub record TookSweep (c : Cache) (m' : Memory) (gone : PageHandle) (count : ℕ) (head' : PageCache) : Type 0 where
  pub page : Page
  pub victim : (sweep_of c).victim ≡ some page
  pub handle : gone.0 ≡ page.handle
  pub passed : count ≡ (sweep_of c).passed
  pub holds : Holds m' head' (evicted c)

-- it took none, and the cache after it is the cache before it
pub record FullSweep (c : Cache) (m' : Memory) (count : ℕ) (head : PageCache) : Type 0 where
  pub victim : (sweep_of c).victim ≡ none
  pub passed : count ≡ (sweep_of c).passed
  pub unchanged : evicted c ≡ c
  pub holds : Holds m' head (evicted c)

abbrev pub SweepEvicted : Cache → Memory → PageCache → Result Evicted Full → Type 0
SweepEvicted c m' head (Ok r) = TookSweep c m' r.handle r.passed r.head
SweepEvicted c m' head (Err r) = FullSweep c m' r.passed head

module _ {m : Memory} {head : PageCache} {c : Cache} (H : Holds m head c) where
  pub took_is_the_sweep : {m' : Memory} {gone : PageHandle} {count : ℕ} {head' : PageCache} → Takes c m' gone count head'
      → TookSweep c m' gone count head'
  took_is_the_sweep {m'} {gone} {count} {head'} t =
      let s = goes_is_the_sweep c (holds_limited H) t.goes in
      record {
        page = s.page;
        victim = s.victim;
        handle = s.handle;
        passed = s.passed;
        holds = subst (Holds m' head') s.cache t.holds;
      }

  pub full_is_the_sweep : {m' : Memory} {count : ℕ} → Refuses c m' count head → FullSweep c m' count head
  unfolding refused
  full_is_the_sweep {m'} t =
      let came : refused page_may_go c.row ≡ sweep_of c = evicts_once page_may_go c.row _ (holds_limited H) (full t.none.stay refl) in
      let same : c ≡ evicted c = λ i. with_estimate (victim_out (came i).victim c.estimate) (with_row (came i).row c) in
      record {
        victim = ap (λ (s : Swept). s.victim) (sym came);
        passed = t.none.rounds ∙ ap (λ (s : Swept). s.passed) came;
        unchanged = sym same;
        holds = subst (Holds m' head) same t.holds;
      }

  pub evicted_is_the_sweep : (m' : Memory) (r : Result Evicted Full) → EvictionOf c m' head r → SweepEvicted c m' head r
  evicted_is_the_sweep m' (Ok r) t = took_is_the_sweep t
  evicted_is_the_sweep m' (Err r) t = full_is_the_sweep t

  -- fewer than 4n pages were passed
  pub took_passed_bound : {m' : Memory} {gone : PageHandle} {count : ℕ} {head' : PageCache} → Takes c m' gone count head'
      → count < suc ref_max * held_in c
  took_passed_bound t = t.goes.under
