-- One eviction comes to what demand 3 says. The sweep's answer is the model's (Turning), and the model's sweep takes the victim
-- or finds that none may go, by demand 3 (model, Evictions). The victim is then the first of the row, and its removal leaves what
-- the model's sweep leaves.
use mathlib.Core.Path.{◌≡◌, refl, sym, ap, ◌∙◌, subst}
use mathlib.Core.Bool.{true, false}
use mathlib.Core.List.{List, [], ◌∷◌}
use mathlib.Core.Option.{none, some, some-injective}
use Prim.Native.Nat.{ℕ}
use lib.ListN.{get_or}
use borrow.Author.Tests.{eq-eqb}
use Rattle.page.specs.declared.cache.PageCache.{PageCache}
use Rattle.page.specs.declared.entry.PageCacheEntry.{PageCacheEntry}
use Rattle.pool.specs.Slots.{blank, entries}
use Rattle.model.specs.Cache.{Cache, with_row, with_estimate, page_may_go, leave}
use Rattle.model.specs.Demand.{Evicts, full, takes, taken, refused}
use Rattle.model.specs.Evictions.{OneGoes}
use Rattle.model.specs.Rooms.{sweep_of, victim_out, evicted}
use Rattle.model.specs.Row.{Page, Entry, Row, find, without}
use Rattle.model.specs.Sweep.{Swept}
use Rattle.model.proofs.Evictions.{goes}
use Rattle.model.proofs.Evicts.{not_both, sweep_evicts, full_iff, full_unchanged}
use Rattle.memory.specs.Memory.{Memory}
use Rattle.memory.specs.Holds.{row_of, Holds}
use Rattle.memory.proofs.OnceKept.{holds_limited}
use Rattle.eviction.specs.Sweep.{seen_at, comes_to}
use Rattle.eviction.specs.Evict.{Takes, Refuses}
use Rattle.moves.specs.Moves.{StandsAt, Removable}
use Rattle.eviction.specs.declared.sweeping.Swept as code
use Rattle.eviction.proofs.Turning.{with_slots, with_hand, row_from_hand, Ended, following, sweep_came, holds_turned}

-- ── the first entry of a row ─────────────────────────────────────────────────
-- it is found under its key
first_found : (e : Entry) (es : Row) → find e.page.key (e ∷ es) ≡ some e
unfolding find
first_found e es = rw (eq-eqb e.page.key e.page.key refl, find)

-- without it the row goes on after it
first_without : (e : Entry) (es : Row) → without e.page.key (e ∷ es) ≡ es
unfolding without
first_without e es = rw (eq-eqb e.page.key e.page.key refl, without)

-- its slot
abbrev slot_first : Row → ℕ
slot_first [] = 0
slot_first (e ∷ es) = e.page.slot

-- ── after the sweep ──────────────────────────────────────────────────────────
module _ {m : Memory} {head : PageCache} {c : Cache} (H : Holds m head c) {slots' : List ℕ} {r : code.Swept}
    (d : Ended m head slots' r) where
  abbrev es' : List PageCacheEntry
  es' = entries slots'

  abbrev rest : List ℕ
  rest = following H d

  -- the entry that the sweep ended at, and the cache from there on
  abbrev pub end : Entry
  end = seen_at es' r.at.0

  abbrev pub swept_cache : Cache
  swept_cache = with_row (row_of es' (r.at.0 ∷ rest)) c

  -- it can be removed, since it is the first of the row
  pub end_stands : StandsAt swept_cache.row end.page.key r.at.0 end
  end_stands = record { found = first_found end (row_of es' rest); slot = refl }

  pub end_removable : Removable (with_slots slots' m) (with_hand r.at head) r.at.0
  end_removable = record { cache = _; key = _; entry = _; holds = holds_turned H d; stands = end_stands }

  -- none was found: the row is as it was, and so the sweep has come round to the hand
  pub full_refuses : r.found ≡ false → Refuses c (with_slots slots' m) r.passed head
  unfolding refused
  full_refuses q =
      let came : sweep_of c ≡ comes_to false es' r.at.0 rest r.passed =
      sweep_came H d ∙ ap {B = Swept} (λ found. comes_to found es' r.at.0 rest r.passed) q in
      let none_taken : (sweep_of c).victim ≡ none = ap (λ (s : Swept). s.victim) came in
      let unchanged : comes_to false es' r.at.0 rest r.passed ≡ refused page_may_go c.row =
      sym came ∙ full_unchanged page_may_go c.row (holds_limited H) none_taken in
      let row : row_of es' (r.at.0 ∷ rest) ≡ c.row = ap {B = Row} (λ (s : Swept). s.row) unchanged in
      let hand : r.at.0 ≡ head.hand.0 = ap slot_first (row ∙ row_from_hand H d.some_held) in
      let at_hand : Holds (with_slots slots' m) head swept_cache =
      subst (λ (h : PageCache). Holds (with_slots slots' m) h swept_cache) (λ i. with_hand (record { 0 = hand i }) head) (holds_turned H d) in
      record {
        none = record { stay = (full_iff page_may_go c.row (holds_limited H)).0 none_taken; rounds = ap (λ (s : Swept). s.passed) unchanged };
        holds = subst (Holds (with_slots slots' m) head) (λ i. with_row (row i) c) at_hand;
      }

  -- one was found, and is removed
  pub found_takes : r.found ≡ true → {m' : Memory} {head' : PageCache} {e : PageCacheEntry} → e ≡ get_or es' r.at.0 blank
      → Holds m' head' (leave end.page swept_cache) → Takes c m' e.handle r.passed head'
  unfolding refused taken
  found_takes q {m'} {head'} {e} loaded H' = go (sweep_evicts page_may_go c.row (holds_limited H))
    where
      came : sweep_of c ≡ comes_to true es' r.at.0 rest r.passed
      came = sweep_came H d ∙ ap {B = Swept} (λ found. comes_to found es' r.at.0 rest r.passed) q

      go : Evicts page_may_go c.row (sweep_of c) → Takes c m' e.handle r.passed head'
      go (full none_goes s) = absurd (not_both (ap (λ (x : Swept). x.victim) s) (ap (λ (x : Swept). x.victim) came))
      go (takes before v after parts victim s) =
          let page : some end.page ≡ some v.page = ap (λ (x : Swept). x.victim) (sym came ∙ s) in
          let handle : e.handle.0 ≡ v.page.handle =
          ap (λ (x : PageCacheEntry). x.handle.0) loaded ∙ ap (λ (p : Page). p.handle) (some-injective end.page v.page page) in
          let passed : r.passed ≡ (sweep_of c).passed = ap (λ (x : Swept). x.passed) (sym came) in
          let row : without end.page.key swept_cache.row ≡ (sweep_of c).row =
          first_without end (row_of es' rest) ∙ ap {B = Row} (λ (x : Swept). x.row) (sym came) in
          record {
            left = evicted c;
            goes = subst (λ (n : ℕ). OneGoes c n r.passed (evicted c)) (sym handle)
                (subst (λ (n : ℕ). OneGoes c v.page.handle n (evicted c)) (sym passed) (goes c (holds_limited H) before v after parts victim s));
            holds = subst (Holds m' head') (λ i. with_estimate (victim_out (sym came i).victim c.estimate) (with_row (row i) c)) H';
          }
