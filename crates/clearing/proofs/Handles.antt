-- The handles of a walk go to the first places of the list, one at each turn.
use mathlib.Core.Path.{◌≡◌, sym, ap, ◌∙◌, subst}
use mathlib.Core.List.{List, [], ◌∷◌, ◌++◌, map-append}
use Prim.Native.Nat.{ℕ, ◌+◌, ◌≤◌, ◌<◌}
use native.Mathlib.Omega.{arith}
use lib.ListN.{length, get_or, set, take, length-map, length-append, length-drop}
use lib.Seq.{length-take-le}
use Rattle.page.specs.declared.entry.PageCacheEntry.{PageCacheEntry}
use Rattle.pool.specs.Slots.{blank, entries}
use Rattle.model.specs.Row.{Entry}
use Rattle.memory.specs.Walk.{walk}
use Rattle.memory.proofs.Walks.{walk_at, walk_more}
use Rattle.answer.specs.Answer.{Wrote}
use Rattle.answer.proofs.Steps.{wrote_none, wrote_next}
use Rattle.clearing.specs.Clear.{handles_of, CanListAll}

-- the list has the handles of the first i pages of the walk, and other places keep their values
pub record Listing (slots by_key list : List ℕ) (n : ℕ) (list' : List ℕ) (i : ℕ) : Type 0 where
  pub within : i ≤ n
  pub wrote : Wrote (handles_of (walk slots by_key i)) list list'

pub listing_start : {slots by_key list : List ℕ} {n : ℕ} → Listing slots by_key list n list 0
listing_start {list = list} = record { within = omega arith; wrote = wrote_none list }

pub handles_long : (slots by_key : List ℕ) (i : ℕ) → i ≤ length by_key → length (handles_of (walk slots by_key i)) ≡ i
handles_long slots by_key i h = length-map (walk slots by_key i) _ ∙ length-map (take i by_key) _ ∙ length-take-le i by_key h

module _ {slots by_key list : List ℕ} {n : ℕ} {list' : List ℕ} {i : ℕ} (can : CanListAll slots by_key list n) (g : Listing slots by_key list n list' i) where
  counted : length (handles_of (walk slots by_key i)) ≡ i
  counted = handles_long slots by_key i (omega (arith, g.within, can.index.fits))

  pub listing_long : length list' ≡ length list
  listing_long =
      ap length g.wrote.list ∙ length-append (handles_of (walk slots by_key i)) _
      ∙ omega (arith, counted, length-drop (length (handles_of (walk slots by_key i))) list, g.within, can.long)

  pub listing_more : {e : PageCacheEntry} → e ≡ get_or (entries slots) (get_or by_key i 0) blank → i < n
      → Listing slots by_key list n (set list' i e.handle.0) (i + 1)
  listing_more {e} loaded more =
      let one : handles_of (walk slots by_key (i + 1)) ≡ handles_of (walk slots by_key i) ++ e.handle.0 ∷ [] =
      ap handles_of (walk_more slots by_key i (omega (arith, can.index.fits)))
      ∙ map-append (λ (x : Entry). x.page.handle) (walk slots by_key i) (walk_at slots by_key i ∷ [])
      ∙ ap {B = List ℕ} (λ (x : PageCacheEntry). handles_of (walk slots by_key i) ++ x.handle.0 ∷ []) (sym loaded) in
      record {
        within = omega arith;
        wrote = subst (λ (k : ℕ). Wrote (handles_of (walk slots by_key (i + 1))) list (set list' k e.handle.0)) counted
            (rw one (wrote_next g.wrote e.handle.0 (omega (arith, counted, can.long))));
      }

  pub listing_done : n ≤ i → Wrote (handles_of (walk slots by_key n)) list list'
  listing_done end =
      let whole : i ≡ n = omega (arith, g.within) in
      subst (λ (k : ℕ). Wrote (handles_of (walk slots by_key k)) list list') whole g.wrote
