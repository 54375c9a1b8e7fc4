-- New names. An absent key is new, and a handle that stands under no other key is new with it; so are they once the key's own
-- page has been deleted, since no other has its key.
use mathlib.Core.Path.{◌≡◌, sym, subst}
use mathlib.Core.Bool.{false}
use mathlib.Core.List.{[], ◌∷◌, ◌++◌}
use mathlib.Core.Option.{none, some}
use Prim.Native.Nat.{ℕ}
use Rattle.model.specs.Cache.{Cache, leave}
use Rattle.model.specs.Limits.{CacheInvariant}
use Rattle.model.specs.Row.{Entry, Row, Each, find, without}
use Rattle.model.specs.Tests.{under_other}
use Rattle.model.proofs.ByKey.{Stands, find_stands, find_none, stands_without}
use Rattle.model.proofs.Numbers.{OtherKey, OtherHandle, apart_others}
use Rattle.memory.proofs.Standing.{each_without}
use Rattle.moves.specs.Moves.{NewNames}
use Rattle.moves.proofs.Search.{Fits, under_each}

module _ (key handle : ℕ) where
  -- every entry has another key, and only the key's own may have the handle
  handles_new : (row : Row) → Each (OtherKey key) row → Each (Fits key handle) row → Each (OtherHandle handle) row
  handles_new [] other fits = tt
  handles_new (x ∷ row) other fits = ((λ same. other.0 (sym (fits.0 (sym same)))), handles_new row other.1 fits.1)

  pub absent_new : (row : Row) → find key row ≡ none → under_other key handle row ≡ false → NewNames key handle row
  absent_new row absent free =
      let other = find_none key row absent in
      record { keys = other; handles = handles_new row other (under_each key handle row free) }

  -- without the key's own page
  pub deleted_new : (c : Cache) (e : Entry) → CacheInvariant c → find key c.row ≡ some e → under_other key handle c.row ≡ false
      → NewNames key handle (leave e.page c).row
  deleted_new c e k found free =
      let s : Stands key c.row e = find_stands key c.row e found in
      let others : Each (OtherKey e.page.key) (s.before ++ s.after) =
      apart_others (λ p. p.key) s.before e s.after (rw s.parts at k.keys) in
      let other : Each (OtherKey key) (without key c.row) =
      rw (stands_without key c.row e s) (subst (λ (n : ℕ). Each (OtherKey n) (s.before ++ s.after)) s.named others) in
      rw s.named
      (record {
        keys = other;
        handles = handles_new (without key c.row) other (each_without (Fits key handle) key c.row e found (under_each key handle c.row free));
      })
