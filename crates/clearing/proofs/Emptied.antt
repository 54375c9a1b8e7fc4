-- All pages are removed: memory as after creation holds a cache with nothing in it, and the spill switch is what it was.
use mathlib.Core.Path.{◌≡◌, refl, ap, subst}
use mathlib.Core.List.{List, [], append-nil}
use Prim.Native.Nat.{ℕ}
use native.Mathlib.Omega.{arith}
use Rattle.page.specs.declared.cache.PageCache.{PageCache}
use Rattle.model.specs.Cache.{Cache, fresh, with_estimate, with_row}
use Rattle.model.specs.Call.{Outcome, answer, listing}
use Rattle.model.specs.Row.{Row}
use Rattle.model.specs.Rules.{emptied}
use Rattle.memory.specs.Memory.{Memory}
use Rattle.memory.specs.Holds.{Holds}
use Rattle.memory.proofs.Reheaded.{reheaded}
use Rattle.memory.specs.Walk.{walk}
use Rattle.memory.proofs.Walks.{walk_by_key, walk_fits}
use Rattle.answer.specs.Answer.{Wrote, MatchesOutcome}
use Rattle.answer.specs.declared.answer.Answer.TheVariants as answers
use Rattle.answer.proofs.Steps.{plain_follows, listing_follows, comes_as}
use Rattle.soundness.proofs.Joining.{holds_agreeing}
use Rattle.creating.specs.Creation.{CreatedWell, Creation, done, too_large, bad_lengths, Creates}
use Rattle.creating.specs.declared.creating.CreationError.TheVariants.{BadLengths, TooLarge}
use Rattle.std.specs.Prelude.{Ok, Err}
use Rattle.clearing.specs.Clear.{handles_of}
use Rattle.clearing.proofs.Handles.{handles_long}

-- the head of a new cache with another switch
abbrev pub head_switched : ℕ → PageCache → PageCache
head_switched spill head = record {
  capacity = head.capacity;
  held = head.held;
  hand = head.hand;
  spill = spill;
  estimate = head.estimate;
}

-- creation wasn't refused, and so its answer is none of the two refusals
pub record IsDone (r : Creation) : Type 0 where
  pub new : PageCache
  pub done : r ≡ Ok new

module _ {m : Memory} {head : PageCache} {c : Cache} (H : Holds m head c) where
  pub never_refused : (m' : Memory) (r : Creation) → Creates m head.capacity r m' → IsDone r
  never_refused m' (Ok new) made = record { new = new; done = refl }
  never_refused m' (Err BadLengths) (bad_lengths refused) = absurd (refused.lengths (holds_agreeing H))
  never_refused m' (Err TooLarge) (too_large refused) = absurd (omega (arith, refused.above, H.headed.capacity, H.limits.capacity, H.lengths.by_key))

  module _ {m' : Memory} {new : PageCache} (made : CreatedWell m head.capacity new m') where
    holds_fresh : Holds m' new (fresh c.size c.capacity)
    holds_fresh = subst (Holds m' new) (λ i. fresh (H.lengths.by_key i) (H.headed.capacity i)) made.holds

    holds_nothing : Holds m' (head_switched head.spill new) (with_estimate 0 (with_row [] c))
    holds_nothing =
        let K = holds_fresh in
        reheaded K c.capacity c.spill 0 K.limits.capacity (record {
          held = K.headed.held;
          hand = K.headed.hand;
          capacity = K.headed.capacity;
          spill = H.headed.spill;
          estimate = K.headed.estimate;
        })

    pub clear_emptied : {list list' : List ℕ} → Wrote (handles_of (walk m.slots m.by_key head.held)) list list'
        → MatchesOutcome (emptied c) list m' list' (record { answer = answers.Done 0; passed = 0; listed = head.held; head = head_switched head.spill new })
    clear_emptied {list} {list'} wrote =
        let handles : List ℕ = handles_of (walk m.slots m.by_key head.held) in
        comes_as (ap {B = Outcome} (λ (row : Row). listing (handles_of row) (answer 0 0 (with_estimate 0 (with_row [] c)))) (walk_by_key H)) (record {
          follows = listing_follows handles (plain_follows (answers.Done 0) holds_nothing) (omega (arith, handles_long m.slots m.by_key head.held (walk_fits H)));
          wrote = rw (append-nil handles) wrote;
        })

-- once creation has answered
pub made_well : {m : Memory} {capacity : ℕ} {new : PageCache} {m' : Memory} → Creates m capacity (Ok new) m' → CreatedWell m capacity new m'
made_well (done well) = well
