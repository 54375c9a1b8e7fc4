-- What holds of each entry of the row holds at each seat, and the other way round: the row has one entry for each seat.
use mathlib.Core.Path.{◌≡◌, sym, subst}
use mathlib.Core.Bool.{true, true≢false}
use mathlib.Core.Logic.{⊎_elim}
use mathlib.Core.List.{List, [], ◌∷◌}
use Prim.Native.Nat.{ℕ}
use lib.ListN.{get_or}
use Rattle.page.specs.declared.entry.PageCacheEntry.{PageCacheEntry}
use Rattle.pool.specs.Slots.{blank}
use Rattle.ring_links.specs.Ring.{has}
use Rattle.sorted_index.proofs.Membership.{has_here, has_there, has_cons}
use Rattle.model.specs.Row.{Entry, Each}
use Rattle.memory.specs.Holds.{seen, row_of}

module _ (P : Entry → Type 0) (es : List PageCacheEntry) where
  pub each_seat : (seats : List ℕ) → Each P (row_of es seats) → (k : ℕ) → has k seats ≡ true → P (seen k (get_or es k blank))
  each_seat [] all k h = absurd (true≢false (sym h))
  each_seat (s ∷ seats) all k h =
      ⊎_elim (λ (q : k ≡ s). subst (λ (j : ℕ). P (seen j (get_or es j blank))) (sym q) all.0) (λ g. each_seat seats all.1 k g)
      (has_cons k s seats h)

  pub seat_each : (seats : List ℕ) → ((k : ℕ) → has k seats ≡ true → P (seen k (get_or es k blank))) → Each P (row_of es seats)
  seat_each [] at = tt
  seat_each (s ∷ seats) at = (at s (has_here s seats), seat_each seats (λ k h. at k (has_there k s seats h)))
