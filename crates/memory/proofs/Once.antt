-- A cache determines its memory, and a memory its cache. The row of a cache names the seats, so two memories of one cache
-- have the same seats and entries, and by these the same indexes, marks and head. The other way round the links, followed
-- from the hand as often as the head says that pages are held, come to the seats. Links that are all zero are the ring of
-- no slot and the ring of slot 0 alone: the number of held pages decides.
use mathlib.Core.Path.{◌≡◌, refl, sym, ap, ◌∙◌, subst}
use mathlib.Core.Bool.{Bool, true, false, cond}
use mathlib.Core.List.{List, map}
use Prim.Native.Nat.{ℕ, ◌≤◌, ◌<◌}
use native.Mathlib.Decide.{dec_lt}
use native.Mathlib.Omega.{arith}
use lib.ListN.{length}
use Rattle.page.specs.declared.cache.PageCache.{PageCache}
use Rattle.page.specs.declared.entry.PageCacheEntry.{PageCacheEntry}
use Rattle.ring_links.specs.Links.{nexts, prevs}
use Rattle.free_marks.specs.Marks.{bit_at, Wide}
use Rattle.pool.specs.Slots.{entries}
use Rattle.free_marks.proofs.Marking.{marks_once}
use Rattle.pool.proofs.Packing.{entries_whole, words_once}
use Rattle.ring_links.proofs.Rows.{round_only}
use Rattle.sorted_index.specs.Listed.{Listed}
use Rattle.sorted_index.specs.Names.{names}
use Rattle.sorted_index.specs.declared.search.By.{By}
use Rattle.sorted_index.specs.declared.search.By.TheVariants.{Key, Handle}
use Rattle.sorted_index.proofs.Once.{listed_once}
use Rattle.model.specs.Cache.{Cache}
use Rattle.model.specs.Row.{Entry, Row}
use Rattle.memory.specs.Memory.{Memory}
use Rattle.memory.specs.Holds.{Seated, row_of, Marked, Headed, Holds}
use Rattle.memory.proofs.OnceEntries.{row_slots, entries_once}

-- ── a cache determines its memory ────────────────────────────────────────────
marked_once : {marks marks' : List ℕ} {size : ℕ} {seats : List ℕ} → length marks ≡ length marks' → Wide marks → Wide marks'
    → Marked marks size seats → Marked marks' size seats → marks ≡ marks'
marked_once {marks} {marks'} {size} long wide wide' g g' = marks_once marks marks' long wide wide' (λ k. at k (dec_lt k size))
  where
    at : (k : ℕ) → Dec (k < size) → bit_at marks k ≡ bit_at marks' k
    at k (yes h) = g.inside k h ∙ sym (g'.inside k h)
    at k (no h) = let l : size ≤ k = omega arith in g.beyond k l ∙ sym (g'.beyond k l)

headed_once : {head head' : PageCache} {c : Cache} {seats : List ℕ} → Headed head c seats → Headed head' c seats → head ≡ head'
headed_once {head} {head'} g g' =
    let held : head.held ≡ head'.held = g.held ∙ sym g'.held in
    let hand : head.hand.0 ≡ head'.hand.0 = g.hand ∙ sym g'.hand in
    let capacity : head.capacity ≡ head'.capacity = g.capacity ∙ sym g'.capacity in
    let spill : head.spill ≡ head'.spill = g.spill ∙ sym g'.spill in
    let estimate : head.estimate ≡ head'.estimate = g.estimate ∙ sym g'.estimate in
    λ i. record { capacity = capacity i; held = held i; hand = record { 0 = hand i }; spill = spill i; estimate = estimate i }

-- words of 64 bits, as the marks are in every lent slice
pub holds_memory : {m m' : Memory} {head head' : PageCache} {c : Cache} → Wide m.marks → Wide m'.marks
    → Holds m head c → Holds m' head' c → (m ≡ m') × (head ≡ head')
holds_memory {m} {m'} {head} {head'} {c} wide wide' g g' =
    let es : List PageCacheEntry = entries m.slots in
    let es' : List PageCacheEntry = entries m'.slots in
    let seats : g'.seats ≡ g.seats =
    sym (row_slots es' g'.seats) ∙ ap {B = List ℕ} (λ (r : Row). map (λ (e : Entry). e.page.slot) r) (sym g'.row ∙ g.row)
    ∙ row_slots es g.seats in
    let rows : row_of es g.seats ≡ row_of es' g.seats = sym g.row ∙ g'.row ∙ ap {B = Row} (row_of es') seats in
    let same : es ≡ es' =
    entries_once g.seated (subst (Seated es') seats g'.seated) rows
    (entries_whole c.size m.slots g.lengths.slots ∙ sym (entries_whole c.size m'.slots g'.lengths.slots)) in
    let listed : (by : By) (order : List ℕ) → Listed (names by es') order g'.seats → Listed (names by es) order g.seats =
    λ by order l.
    subst (λ (x : List PageCacheEntry). Listed (names by x) order g.seats) (sym same) (subst (Listed (names by es') order) seats l) in
    let slots : m.slots ≡ m'.slots = words_once c.size m.slots m'.slots g.lengths.slots g'.lengths.slots same in
    let by_key : m.by_key ≡ m'.by_key =
    listed_once g.keys (listed Key m'.by_key g'.keys) (g.lengths.by_key ∙ sym g'.lengths.by_key) in
    let by_handle : m.by_handle ≡ m'.by_handle =
    listed_once g.handles (listed Handle m'.by_handle g'.handles) (g.lengths.by_handle ∙ sym g'.lengths.by_handle) in
    let marks : m.marks ≡ m'.marks =
    marked_once (g.lengths.marks ∙ sym g'.lengths.marks) wide wide' g.marked
    (subst (Marked m'.marks c.size) seats g'.marked) in (
      (λ i. record { slots = slots i; by_key = by_key i; by_handle = by_handle i; marks = marks i }),
      headed_once g.headed (subst (Headed head' c) seats g'.headed),
    )

-- ── a memory determines its cache ────────────────────────────────────────────
switch_once : (a b : Bool) → ◌≡◌ {A = ℕ} (cond a 1 0) (cond b 1 0) → a ≡ b
switch_once true true e = refl
switch_once true false e = absurd (omega arith)
switch_once false true e = absurd (omega arith)
switch_once false false e = refl

pub holds_cache : {m : Memory} {head : PageCache} {c c' : Cache} → Holds m head c → Holds m head c' → c ≡ c'
holds_cache {m} {head} {c} {c'} g g' =
    let es : List PageCacheEntry = entries m.slots in
    let seats : g.seats ≡ g'.seats =
    round_only (nexts es) (prevs es) (prevs es) g.seats g'.seats (sym g.headed.held ∙ g'.headed.held)
    (sym g.headed.hand ∙ g'.headed.hand) g.seated.ring.round g'.seated.ring.round in
    let size : c.size ≡ c'.size = sym g.lengths.by_key ∙ g'.lengths.by_key in
    let capacity : c.capacity ≡ c'.capacity = sym g.headed.capacity ∙ g'.headed.capacity in
    let spill : c.spill ≡ c'.spill = switch_once c.spill c'.spill (sym g.headed.spill ∙ g'.headed.spill) in
    let estimate : c.estimate ≡ c'.estimate = sym g.headed.estimate ∙ g'.headed.estimate in
    let row : c.row ≡ c'.row = g.row ∙ ap {B = Row} (row_of es) seats ∙ sym g'.row in
    λ i. record { size = size i; capacity = capacity i; spill = spill i; estimate = estimate i; row = row i }
