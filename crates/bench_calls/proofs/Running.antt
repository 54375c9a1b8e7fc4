-- Sound memory stays sound, whatever a record asks for: a call leaves the cache that the model's step comes to, a creation a new
-- cache or nothing altered.
use mathlib.Core.Path.{sym, subst}
use Prim.Native.Nat.{ℕ}
use lib.ListN.{length}
use Rattle.std.specs.Prelude.{Ok, Err}
use Rattle.page.specs.declared.cache.PageCache.{PageCache}
use Rattle.memory.specs.Memory.{Memory}
use Rattle.memory.specs.Holds.{Sound}
use Rattle.creating.specs.Creation.{Creation, done, too_large, bad_lengths, Creates}
use Rattle.creating.specs.declared.creating.CreationError.TheVariants.{BadLengths, TooLarge}
use Rattle.answer.specs.declared.answered.Answered.{Answered}
use Rattle.contract.specs.Called.{State}
use Rattle.replay_record.specs.Request.{Request, none, creation, call, request_of}
use Rattle.replay_record.specs.declared.record.Record.{Record}
use Rattle.dispatch.specs.Runs.{answered_as, Runs, Ran}

created_sound : (m : Memory) (head : PageCache) (capacity : ℕ) (made : Creation) (m' : Memory) → Sound m head → Creates m capacity made m'
    → Sound m' (answered_as made head).head
created_sound m head capacity (Ok new) m' s (done w) = record { cache = _; holds = w.holds }
created_sound m head capacity (Err BadLengths) m' s (bad_lengths w) = subst (λ (t : Memory). Sound t head) (sym w.memory) s
created_sound m head capacity (Err TooLarge) m' s (too_large w) = subst (λ (t : Memory). Sound t head) (sym w.memory) s

module _ (before : State) (head : PageCache) (after : State) (r : Answered) where
  runs_sound : (x : Request) → Sound before.memory head → Runs x before head after r → Sound after.memory r.head
  runs_sound none s w =
      subst (λ (t : Answered). Sound after.memory t.head) (sym w.answer) (subst (λ (t : State). Sound t.memory head) (sym w.state) s)
  runs_sound (creation capacity) s w =
      let made = w.makes in
      subst (λ (t : Answered). Sound after.memory t.head) (sym made.answer)
      (created_sound before.memory head capacity made.made after.memory s made.creates)
  runs_sound (call x) s w = record { cache = _; holds = (w s.cache s.holds).follows.holds }

  pub ran_sound : (asked : Record) → Sound before.memory head → Ran asked before head after r → Sound after.memory r.head
  ran_sound asked s w = runs_sound (request_of asked (length before.list)) s w.runs
