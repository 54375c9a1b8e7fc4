-- A look does what rule 3 says: the code asks whether the page may go and has no use left, in that order, and writes the slot
-- only where the entry changes.
use mathlib.Core.Path.{◌≡◌, refl, sym, ap}
use mathlib.Core.Bool.{Bool, true, false}
use mathlib.Core.List.{List}
use Prim.Native.Nat.{ℕ}
use lib.ListN.{get_or, set}
use lib.Seq.{set-get_or}
use borrow.Author.Tests.{ne_eqb}
use Rattle.page.specs.Cache.{may_go}
use Rattle.page.specs.Entry.{with_uses, lowered}
use Rattle.page.specs.declared.entry.PageCacheEntry.{PageCacheEntry}
use Rattle.pool.specs.Slots.{blank}
use Rattle.model.specs.Sweep.{lower, goes_now}
use Rattle.eviction.specs.Sweep.{TakenAt, PassedAt}

-- e was loaded from slot s, and b says whether its page may go
module _ {es : List PageCacheEntry} {s : ℕ} {e : PageCacheEntry} {b : Bool} (loaded : e ≡ get_or es s blank)
    (tested : b ≡ may_go e.key.0 e.page) where
  -- it may not: to store the entry again would change nothing
  pub stays_passed : b ≡ false → PassedAt es s es e.next
  unfolding goes_now lower
  stays_passed q = record {
    stays = rw (← loaded, ← tested, q);
    loses = sym (rw (← loaded, ← tested, q, loaded) (set-get_or es s blank));
    next = ap (λ (x : PageCacheEntry). x.next.0) loaded;
  }

  -- it may, and has no use left
  pub spent_taken : b ≡ true → e.uses ≡ 0 → TakenAt es s es
  unfolding goes_now
  spent_taken q u = record { goes = rw (← loaded, ← tested, q, u); same = refl }

  -- it may, and has uses left
  pub used_passed : {e' : PageCacheEntry} {es' : List PageCacheEntry} → b ≡ true → (e.uses ≡ 0 → ⊥)
      → e' ≡ with_uses e (lowered e.uses) → es' ≡ set es s e' → PassedAt es s es' e.next
  unfolding goes_now lower
  used_passed q u lowers stored = record {
    stays = rw (← loaded, ← tested, q) (ne_eqb e.uses 0 u);
    loses = rw (← loaded, ← tested, q) (rw lowers at stored);
    next = ap (λ (x : PageCacheEntry). x.next.0) loaded;
  }
