-- There is memory that holds a cache, with and without a page. Both examples are of one slot, and all words but those of
-- the marks are zero in both: what tells them apart is the mark of slot 0 and the number of held pages.
use mathlib.Core.Path.{◌≡◌, refl, ap, ◌∙◌}
use mathlib.Core.Bool.{true, cond}
use mathlib.Core.List.{[], ◌∷◌}
use Prim.Native.Nat.{ℕ, zero, suc, ◌/◌, ◌%◌, ◌≤◌, ◌<◌}
use native.Mathlib.Decide.{ℕ_discrete}
use native.Mathlib.Omega.{arith}
use lib.ListN.{get_or}
use Rattle.page.specs.declared.cache.PageCache.{PageCache}
use Rattle.page.specs.declared.entry.PageCacheEntry.{PageCacheEntry}
use Rattle.free_marks.specs.Marks.{bit_at}
use Rattle.ring_links.specs.Ring.{has}
use Rattle.pool.specs.Slots.{decode, blank, entries}
use Rattle.free_marks.proofs.Digits.{digit, pow_else}
use Rattle.free_marks.proofs.Marking.{bit_none}
use Rattle.model.specs.Cache.{Cache}
use Rattle.memory.specs.Memory.{Memory}
use Rattle.memory.specs.Holds.{seen, Holds, Sound}

-- one slot, with these marks
abbrev pub zero_memory : ℕ → Memory
zero_memory marks = record { slots = 0 ∷ 0 ∷ 0 ∷ 0 ∷ []; by_key = 0 ∷ []; by_handle = 0 ∷ []; marks = marks ∷ [] }

abbrev pub zero_head : ℕ → PageCache
zero_head held = record { capacity = 1; held = held; hand = record { 0 = 0 }; spill = 1; estimate = 0 }

zero_at : (k : ℕ) → get_or {A = ℕ} (0 ∷ []) k 0 ≡ 0
zero_at zero = refl
zero_at (suc k) = refl

blank_at : (k : ℕ) → get_or (blank ∷ []) k blank ≡ blank
blank_at zero = refl
blank_at (suc k) = refl

-- ── no page ──────────────────────────────────────────────────────────────────
abbrev pub empty_cache : Cache
empty_cache = record { size = 1; capacity = 1; spill = true; estimate = 0; row = [] }

one_bit : (k : ℕ) → 1 ≤ k → bit_at (1 ∷ []) k ≡ 0
one_bit k h = go (ℕ_discrete (k / 64) 0)
  where
    later : (w : ℕ) → (w ≡ 0 → ⊥) → get_or {A = ℕ} (1 ∷ []) w 0 ≡ 0
    later zero ne = absurd (ne refl)
    later (suc w) ne = refl

    go : Dec (k / 64 ≡ 0) → bit_at (1 ∷ []) k ≡ 0
    go (yes e) = ap (λ (w : ℕ). digit (get_or {A = ℕ} (1 ∷ []) w 0) (k % 64)) e ∙ pow_else 0 (k % 64) (λ q. omega arith)
    go (no ne) = bit_none (1 ∷ []) k (later (k / 64) ne)

pub zero_empty : Holds (zero_memory 1) (zero_head 0) empty_cache
unfolding entries decode blank
zero_empty = record {
  seats = [];
  lengths = record { slots = refl; by_key = refl; by_handle = refl; marks = refl };
  seated = record {
    ring = record { same = refl; apart = tt; inside = tt; round = tt; free_next = λ k o. zero_at k; free_prev = λ k o. zero_at k };
    vacant = λ k o. blank_at k;
    spare = λ k. ap (λ (e : PageCacheEntry). e.spare) (blank_at k);
  };
  row = refl;
  keys = record { index = record { fits = omega arith; asc = tt; clear = (refl, tt) }; same = λ k. refl };
  handles = record { index = record { fits = omega arith; asc = tt; clear = (refl, tt) }; same = λ k. refl };
  marked = record { inside = first; beyond = one_bit };
  headed = record { held = refl; hand = refl; capacity = refl; spill = refl; estimate = refl };
  limits = record { some = omega arith; most = omega arith; capacity = omega arith; good = tt };
}
  where
    first : (k : ℕ) → k < 1 → bit_at (1 ∷ []) k ≡ 1
    first zero h = refl
    first (suc k) h = absurd (omega arith)

pub sound_inhabited : Sound (zero_memory 1) (zero_head 0)
sound_inhabited = record { cache = empty_cache; holds = zero_empty }

-- ── one page ─────────────────────────────────────────────────────────────────
-- its key, its handle and its slot are 0, and so is its record
abbrev pub zero_cache : Cache
zero_cache = record { size = 1; capacity = 1; spill = true; estimate = 0; row = seen 0 blank ∷ [] }

pub zero_page : Holds (zero_memory 0) (zero_head 1) zero_cache
unfolding entries decode blank
zero_page = record {
  seats = 0 ∷ [];
  lengths = record { slots = refl; by_key = refl; by_handle = refl; marks = refl };
  seated = record {
    ring = record {
      same = refl;
      apart = (tt, tt);
      inside = (omega arith, tt);
      round = (refl, refl);
      free_next = λ k o. zero_at k;
      free_prev = λ k o. zero_at k;
    };
    vacant = λ k o. blank_at k;
    spare = λ k. ap (λ (e : PageCacheEntry). e.spare) (blank_at k);
  };
  row = refl;
  keys = record { index = record { fits = omega arith; asc = (omega arith, tt, tt); clear = tt }; same = λ k. refl };
  handles = record { index = record { fits = omega arith; asc = (omega arith, tt, tt); clear = tt }; same = λ k. refl };
  marked = record { inside = first; beyond = λ k h. none k };
  headed = record { held = refl; hand = refl; capacity = refl; spill = refl; estimate = refl };
  limits = record {
    some = omega arith;
    most = omega arith;
    capacity = omega arith;
    good = (record { flags = omega arith; uses = omega arith }, tt);
  };
}
  where
    none : (k : ℕ) → bit_at (0 ∷ []) k ≡ 0
    none k = bit_none (0 ∷ []) k (zero_at (k / 64))

    first : (k : ℕ) → k < 1 → bit_at (0 ∷ []) k ≡ cond (has k (0 ∷ [])) 0 1
    first zero h = refl
    first (suc k) h = absurd (omega arith)

pub page_inhabited : Sound (zero_memory 0) (zero_head 1)
page_inhabited = record { cache = zero_cache; holds = zero_page }
