-- What sweeps and evictions keep. A look keeps a row within its limits, so a sweep does, and so do evictions one after another.
-- Each eviction leaves one page less, the others are the pages that were there, and a sweep that takes none changes nothing.
use mathlib.Core.Bool.{Bool, false, true≢false}
use mathlib.Core.List.{[], ◌∷◌, ◌++◌, cons≢nil}
use mathlib.Core.Option.{Option, none, some}
use mathlib.Core.Path.{◌≡◌, refl, ap}
use Prim.Native.Nat.{ℕ, zero, suc, ◌+◌, ◌-◌, ◌*◌, ◌≤◌, ◌<◌}
use native.Mathlib.Omega.{arith}
use lib.Dec.{eqb, ltb}
use lib.ListN.{length}
use borrow.Author.Tests.{ltb-false, eqb-false}
use Rattle.page.specs.Entry.{ref_max}
use Rattle.page.proofs.Each.{each_append, each_weaken}
use Rattle.model.specs.Row.{Page, Entry, Row, Each}
use Rattle.model.specs.Sweep.{pass, lower, goes_now, looks, sweep, Swept}
use Rattle.model.specs.Demand.{Limited, refused}
use Rattle.model.specs.Cache.{Cache, held_in, page_may_go, page_counts, count_out}
use Rattle.model.specs.Rooms.{Room, sweep_of, victim_out, evicted, enough, sweeping, evictions, evict_to, make_room}
use Rattle.model.specs.Limits.{EntryInRange, CacheInvariant}
use Rattle.model.proofs.Evicts.{full_unchanged, held_after}
use Rattle.model.proofs.KeptCases.{either, one_of}
use Rattle.model.proofs.KeptRows.{Fits, fits_remove, fits_look, kept_fits, fits_kept}

-- ── a sweep keeps what a look keeps ──────────────────────────────────────────
module _ (may : Page → Bool) where
  -- whatever Q says of the row
  looks_keep : (Q : Row → Type 0) → ((e : Entry) (es : Row) → Q (e ∷ es) → Q es)
      → ((e : Entry) (es : Row) → Q (e ∷ es) → Q (es ++ lower may 1 e ∷ []))
      → (k : ℕ) (row : Row) → Q row → Q (looks may k row).row
  unfolding looks pass
  looks_keep Q goes stays zero row q = q
  looks_keep Q goes stays (suc k) [] q = q
  looks_keep Q goes stays (suc k) (e ∷ es) q = either (λ (s : Swept). Q s.row) (goes_now may e)
      (λ _. goes e es q) (λ _. looks_keep Q goes stays k (es ++ lower may 1 e ∷ []) (stays e es q))

  pub sweep_fits : (size : ℕ) (row : Row) → Fits size row → Fits size (sweep may row).row
  unfolding sweep
  sweep_fits size row = looks_keep (Fits size) (fits_remove size []) (fits_look size may) (suc ref_max * length row) row

  -- the pages that stay are pages that were there
  pub sweep_pages : (P : Page → Type 0) (row : Row) → Each (λ e. P e.page) row → Each (λ e. P e.page) (sweep may row).row
  unfolding sweep lower
  sweep_pages P row = looks_keep (Each (λ e. P e.page)) (λ e es t. t.1)
      (λ e es t. each_append (λ x. P x.page) es (lower may 1 e ∷ []) t.1 (t.0, tt)) (suc ref_max * length row) row

-- ── one eviction ─────────────────────────────────────────────────────────────
pub count_out_le : (p : Page) (n : ℕ) → count_out p n ≤ n
count_out_le p n = one_of (λ (m : ℕ). m ≤ n) (page_counts p) (omega arith) (omega arith)

victim_out_le : (v : Option Page) (n : ℕ) → victim_out v n ≤ n
victim_out_le none n = omega arith
victim_out_le (some p) n = count_out_le p n

module _ (c : Cache) (k : CacheInvariant c) where
  -- use counts are 0 to 3: what demand 3's theorems require
  pub kept_limited : Each Limited c.row
  kept_limited = each_weaken (EntryInRange c.size) Limited (λ e g. g.uses) c.row k.good

  pub evicted_kept : CacheInvariant (evicted c)
  evicted_kept = fits_kept c (sweep_of c).row (victim_out (sweep_of c).victim c.estimate) k
      (omega (arith, k.estimate, victim_out_le (sweep_of c).victim c.estimate))
      (sweep_fits page_may_go c.size c.row (kept_fits c k))

  -- a sweep that takes none changes nothing
  pub failed_room_unchanged : (sweep_of c).victim ≡ none → evicted c ≡ c
  unfolding refused
  failed_room_unchanged q =
      let r : (sweep_of c).row ≡ c.row = ap (λ (s : Swept). s.row) (full_unchanged page_may_go c.row kept_limited q) in
      λ i. record { size = c.size; capacity = c.capacity; spill = c.spill; estimate = victim_out (q i) c.estimate; row = r i }

  -- a sweep that takes a page leaves one less
  pub evicted_held : (p : Page) → (sweep_of c).victim ≡ some p → suc (held_in (evicted c)) ≡ held_in c
  evicted_held p q = held_after page_may_go c.row p kept_limited q

  pub evicted_fewer : {n : ℕ} → held_in c ≤ suc n → (p : Page) → (sweep_of c).victim ≡ some p → held_in (evicted c) ≤ n
  evicted_fewer few p q = omega (arith, evicted_held p q)

-- ── evictions ────────────────────────────────────────────────────────────────
-- what evictions from c down to a target come to
pub record Makes (target : ℕ) (c : Cache) (r : Room) : Type 1 where
  pub kept : CacheInvariant r.cache
  -- each handle gone leaves one page less
  pub count : held_in r.cache + length r.gone ≡ held_in c
  -- there is room unless the last sweep answered Full
  pub room : r.full ≡ false → held_in r.cache ≤ target
  -- if no page went, nothing was changed
  pub still : r.gone ≡ [] → r.cache ≡ c
  -- the pages that stay are pages that were there
  pub pages : (P : Page → Type 0) → Each (λ e. P e.page) c.row → Each (λ e. P e.page) r.cache.row

module _ (target : ℕ) where
  makes_enough : (c : Cache) → CacheInvariant c → held_in c ≤ target → Makes target c (enough c)
  makes_enough c k l = record { kept = k; count = omega arith; room = λ _. l; still = λ _. refl; pages = λ P t. t }

  makes_full : (c : Cache) (r : Room) → CacheInvariant c → (sweep_of c).victim ≡ none → Makes target c (sweeping c none r)
  makes_full c r k q = record {
    kept = evicted_kept c k;
    count = let e = ap held_in (failed_room_unchanged c k q) in omega arith;
    room = λ full. absurd (true≢false full);
    still = λ _. failed_room_unchanged c k q;
    pages = λ P. sweep_pages page_may_go P c.row;
  }

  makes_more : (c : Cache) (p : Page) (r : Room) → CacheInvariant c → (sweep_of c).victim ≡ some p → Makes target (evicted c) r
      → Makes target c (sweeping c (some p) r)
  makes_more c p r k q m = record {
    kept = m.kept;
    count = omega (arith, m.count, evicted_held c k p q);
    room = m.room;
    still = λ none_went. absurd (cons≢nil none_went);
    pages = λ P t. m.pages P (sweep_pages page_may_go P c.row t);
  }

  makes_sweeping : (c : Cache) (r : Room) (v : Option Page) → CacheInvariant c → (sweep_of c).victim ≡ v
      → ((p : Page) → (sweep_of c).victim ≡ some p → Makes target (evicted c) r) → Makes target c (sweeping c v r)
  makes_sweeping c r none k q rest = makes_full c r k q
  makes_sweeping c r (some p) k q rest = makes_more c p r k q (rest p q)

  evictions_make : (n : ℕ) (c : Cache) → held_in c ≤ n → CacheInvariant c → Makes target c (evictions n target c)
  unfolding evictions
  evictions_make zero c l k = makes_enough c k (omega arith)
  evictions_make (suc n) c l k = either (Makes target c) (ltb target (held_in c))
      (λ _. makes_sweeping c _ (sweep_of c).victim k refl (λ p q. evictions_make n (evicted c) (evicted_fewer c k l p q) (evicted_kept c k)))
      (λ h. makes_enough c k (ltb-false target (held_in c) h))

  -- evict while held > target
  pub evict_makes : (c : Cache) → CacheInvariant c → Makes target c (evict_to target c)
  evict_makes c k = evictions_make (held_in c) c (omega arith) k

-- one eviction, asked for
pub evict_one_makes : (c : Cache) → CacheInvariant c → Makes (held_in (evicted c)) c (sweeping c (sweep_of c).victim (enough (evicted c)))
evict_one_makes c k = makes_sweeping (held_in (evicted c)) c (enough (evicted c)) (sweep_of c).victim k refl
    (λ p q. makes_enough (held_in (evicted c)) (evicted c) (evicted_kept c k) (omega arith))

-- making room for one
pub make_room_lem : (c : Cache) → CacheInvariant c → Makes (c.capacity - 1) c (make_room c)
unfolding make_room
make_room_lem c k = either (Makes (c.capacity - 1) c) (eqb c.capacity 0)
    (λ h. record { kept = k; count = omega arith; room = λ full. absurd (true≢false full); still = λ _. refl; pages = λ P t. t })
    (λ h. evict_makes (c.capacity - 1) c k)

-- room for one is a free slot
pub make_room_spare : (c : Cache) → CacheInvariant c → (make_room c).full ≡ false → held_in (make_room c).cache < c.size
unfolding make_room
make_room_spare c k = either (λ (r : Room). r.full ≡ false → held_in r.cache < c.size) (eqb c.capacity 0)
    (λ h full. absurd (true≢false full))
    (λ h full. omega (arith, eqb-false c.capacity 0 h, k.capacity, (evict_makes (c.capacity - 1) c k).room full))

-- ── how many go, of any cache ────────────────────────────────────────────────
-- n evictions list at most n handles
sweeping_few : (c : Cache) (v : Option Page) (rest : Room) (n : ℕ) → length rest.gone ≤ n → length (sweeping c v rest).gone ≤ suc n
sweeping_few c none rest n few = omega arith
sweeping_few c (some p) rest n few = omega arith

pub evictions_few : (n target : ℕ) (c : Cache) → length (evictions n target c).gone ≤ n
unfolding evictions
evictions_few zero target c = omega arith
evictions_few (suc n) target c = either (λ (room : Room). length room.gone ≤ suc n) (ltb target (held_in c))
    (λ _. sweeping_few c (sweep_of c).victim (evictions n target (evicted c)) n (evictions_few n target (evicted c))) (λ _. omega arith)
