-- A place of the index by key: the entry there stands in the row, under its key. Once it has gone, the entry that stood at
-- the next place stands at this one.
use mathlib.Core.Path.{◌≡◌, refl, sym, ap, ◌∙◌}
use mathlib.Core.List.{List, ◌∷◌, ◌++◌}
use Prim.Native.Nat.{ℕ, ◌+◌, ◌≤◌, ◌<◌}
use native.Mathlib.Omega.{arith}
use lib.ListN.{length, get_or, take, drop, length-map}
use lib.Seq.{length-take-le, drop_at}
use Rattle.page.specs.declared.cache.PageCache.{PageCache}
use Rattle.sorted_index.proofs.Listed.{place_seat}
use Rattle.model.specs.Cache.{Cache, leave}
use Rattle.model.specs.Row.{Entry, Row, sorted_by_key}
use Rattle.memory.specs.Memory.{Memory}
use Rattle.memory.specs.Holds.{Holds}
use Rattle.memory.proofs.OnceKept.{holds_held, holds_keys_apart}
use Rattle.memory.proofs.Standing.{seat_found}
use Rattle.memory.specs.Walk.{walk}
use Rattle.memory.proofs.Walks.{walk_at, walk_from, walk_by_key, walk_fits, walk_split, walk_next}
use Rattle.moves.specs.Moves.{StandsAt}
use Rattle.model.proofs.WalkWithout.{without_length, walk_without}

walk_long : (slots by_key : List ℕ) (i : ℕ) → i ≤ length by_key → length (walk slots by_key i) ≡ i
walk_long slots by_key i h = length-map (take i by_key) _ ∙ length-take-le i by_key h

module _ {m : Memory} {head : PageCache} {c : Cache} (H : Holds m head c) (i : ℕ) (h : i < head.held) where
  abbrev here : Entry
  here = walk_at m.slots m.by_key i

  abbrev later : Row
  later = walk_from m.slots m.by_key (i + 1) head.held

  pub place_stands : StandsAt c.row here.page.key (get_or m.by_key i 0) here
  place_stands = record {
    found = seat_found H (get_or m.by_key i 0) (place_seat H.keys (sym H.headed.held) i h);
    slot = refl;
  }

  place_splits : sorted_by_key c.row ≡ walk m.slots m.by_key i ++ here ∷ later
  place_splits =
      walk_by_key H ∙ walk_split m.slots m.by_key i head.held (omega arith)
      ∙ ap {B = Row} (λ (rest : Row). walk m.slots m.by_key i ++ rest) (walk_next m.slots m.by_key i head.held h (walk_fits H))

  module _ {m' : Memory} {head' : PageCache} (H' : Holds m' head' (leave here.page c)) where
    pub place_held : head'.held + 1 ≡ head.held
    place_held = omega (arith, holds_held H', holds_held H, without_length c.row (holds_keys_apart H) place_stands.found)

    pub place_closed : walk_from m'.slots m'.by_key i head'.held ≡ later
    place_closed =
        let rest : Row = walk_from m'.slots m'.by_key i head'.held in
        let parts : walk m'.slots m'.by_key i ++ rest ≡ walk m.slots m.by_key i ++ later =
        sym (walk_by_key H' ∙ walk_split m'.slots m'.by_key i head'.held (omega (arith, place_held)))
        ∙ walk_without c.row (holds_keys_apart H) place_stands.found (walk m.slots m.by_key i) later place_splits in
        sym (drop_at (walk m'.slots m'.by_key i) rest i (walk_long m'.slots m'.by_key i (omega (arith, place_held, walk_fits H'))))
        ∙ ap {B = Row} (drop i) parts
        ∙ drop_at (walk m.slots m.by_key i) later i (walk_long m.slots m.by_key i (omega (arith, walk_fits H)))
