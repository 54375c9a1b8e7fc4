-- Memory that holds no cache: the lengths that `Holds` asks for are those of any memory that holds one, and where nothing
-- is held every slot is free, so slot 0 has a mark.
use mathlib.Core.Path.{◌≡◌, sym, ◌∙◌, subst}
use mathlib.Core.List.{List, [], ◌∷◌}
use Prim.Native.Nat.{ℕ, ◌≤◌}
use native.Mathlib.Omega.{arith}
use lib.ListN.{length, get_or}
use Rattle.page.specs.Cache.{max_slots}
use Rattle.page.specs.declared.cache.PageCache.{PageCache}
use Rattle.free_marks.specs.Marks.{bit_at}
use Rattle.free_marks.proofs.Marking.{bit_none, clash}
use Rattle.memory.specs.Memory.{Memory}
use Rattle.memory.specs.Holds.{Lengths, Marked, Sound}

-- ── lengths ──────────────────────────────────────────────────────────────────
-- the lent parts agree with an index by key of S places
pub lengths_sound : {m : Memory} {head : PageCache} → Sound m head → Lengths m (length m.by_key)
lengths_sound {m} s = subst (Lengths m) (sym s.holds.lengths.by_key) s.holds.lengths

-- S is 1 at least
pub some_sound : {m : Memory} {head : PageCache} → Sound m head → 1 ≤ length m.by_key
some_sound {m} s = omega (arith, s.holds.lengths.by_key, s.holds.limits.some)

-- and as many as a pool may have at most
pub most_sound : {m : Memory} {head : PageCache} → Sound m head → length m.by_key ≤ max_slots
most_sound {m} s = omega (arith, s.holds.lengths.by_key, s.holds.limits.most)

-- ── zeros ────────────────────────────────────────────────────────────────────
marked_first : {marks : List ℕ} {size : ℕ} (seats : List ℕ) → length seats ≡ 0 → 1 ≤ size → Marked marks size seats → bit_at marks 0 ≡ 1
marked_first [] none some g = g.inside 0 some
marked_first (s ∷ seats) none some g = absurd (omega arith)

-- marks of nothing but zeros name no free slot while nothing is held, whatever else stands in the memory and the head.
-- A head that has one page is another matter: see `zero_page` (proofs/OnceExamples.antt)
pub zero_unsound : {m : Memory} {head : PageCache} → ((w : ℕ) → get_or m.marks w 0 ≡ 0) → head.held ≡ 0 → Sound m head → ⊥
zero_unsound {m} zeros none s =
    clash (bit_none m.marks 0 (zeros 0))
    (marked_first s.holds.seats (sym s.holds.headed.held ∙ none) s.holds.limits.some s.holds.marked)
