-- A notice and the switch change the head alone: the memory holds the same pages, and only the head's numbers differ.
use Rattle.std.specs.Prelude.{Result, Ok, Err}
use Rattle.std.specs.Result.{is_ok}
use mathlib.Core.Path.{◌≡◌, refl, sym, ap, ◌∙◌}
use mathlib.Core.Bool.{Bool, true, false, cond, not, true≢false}
use mathlib.Core.Option.{Option, none, some}
use Prim.Native.Nat.{ℕ}
use borrow.Author.Tests.{not-true}
use Rattle.page.specs.Cache.{page_one}
use Rattle.page.specs.declared.cache.PageCache.{PageCache}
use Rattle.page.specs.declared.names.Slot.{Slot}
use Rattle.model.specs.Cache.{Cache, with_spill, with_estimate, up, down}
use Rattle.model.specs.Call.{Outcome, notify_dirty, notify_spilled, switch, answer}
use Rattle.model.specs.Row.{Entry, find}
use Rattle.model.specs.Rules.{notified}
use Rattle.model.specs.Step.{act, step}
use Rattle.memory.specs.Memory.{Memory}
use Rattle.memory.specs.Holds.{Holds}
use Rattle.memory.proofs.Reheaded.{reheaded}
use Rattle.memory.proofs.Standing.{holds_standing}
use Rattle.answer.specs.Answer.{plainly, Follows}
use Rattle.answer.specs.declared.answer.Answer.TheVariants.{Done}
use Rattle.answer.proofs.Steps.{step_acts, follows_as, plain_follows}
use Rattle.moves.specs.Moves.{SeatIs}
use Rattle.caller_updates.specs.Notice.{noticed}

module _ {m : Memory} {head : PageCache} {c : Cache} (H : Holds m head c) where
  -- ── the switch ─────────────────────────────────────────────────────────────
  switched : (on : Bool) {n : ℕ} → n ≡ cond on 1 0
      → Holds m (record { capacity = head.capacity; held = head.held; hand = head.hand; spill = n; estimate = head.estimate }) (with_spill on c)
  switched on is = reheaded H c.capacity on c.estimate H.limits.capacity (record {
    held = H.headed.held;
    hand = H.headed.hand;
    capacity = H.headed.capacity;
    spill = is;
    estimate = H.headed.estimate;
  })

  pub switch_follows : (on : Bool) {n : ℕ} → n ≡ cond on 1 0
      → Follows (step (switch on) c) m
      (plainly (Done 0) (record { capacity = head.capacity; held = head.held; hand = head.hand; spill = n; estimate = head.estimate }))
  unfolding act
  switch_follows on is =
      follows_as (step_acts (switch on) (record { capacity = refl; state = refl; places = refl; naming = refl }))
      (plain_follows (Done 0) (switched on is))

  -- ── a notice ───────────────────────────────────────────────────────────────
  counted : (estimate : ℕ) {n : ℕ} → n ≡ estimate
      → Holds m (record { capacity = head.capacity; held = head.held; hand = head.hand; spill = head.spill; estimate = n }) (with_estimate estimate c)
  counted estimate is = reheaded H c.capacity c.spill estimate H.limits.capacity (record {
    held = H.headed.held;
    hand = H.headed.hand;
    capacity = H.headed.capacity;
    spill = H.headed.spill;
    estimate = is;
  })

-- the estimate follows the notice
notified_by : (by : ℕ → ℕ) (found : Option Entry) {c : Cache} → noticed found ≡ true → notified by found c ≡ answer 0 0 (with_estimate (by c.estimate) c)
notified_by by none is = absurd (true≢false (sym is))
notified_by by (some e) is = rw (not-true (page_one e.page.key) is, notified)

-- it follows if the key was found, and isn't page 1
module _ {m : Memory} {head : PageCache} {c : Cache} (H : Holds m head c) (key : ℕ) where
  pub noticed_ok : (r : Result Slot ℕ) → SeatIs c.row key r → is_ok r ≡ true → not (page_one key) ≡ noticed (find key c.row)
  noticed_ok (Ok s) found is =
      ap (λ (k : ℕ). not (page_one k)) (sym (holds_standing H key found.stands.found found.stands.slot).key_is) ∙ sym (ap noticed found.stands.found)
  noticed_ok (Err gap) absent is = absurd (true≢false (sym is))

  pub noticed_err : (r : Result Slot ℕ) → SeatIs c.row key r → is_ok r ≡ false → false ≡ noticed (find key c.row)
  noticed_err (Ok s) found is = absurd (true≢false is)
  noticed_err (Err gap) absent is = sym (ap noticed absent)

module _ (key : ℕ) (c : Cache) where
  pub dirty_is : step (notify_dirty key) c ≡ notified down (find key c.row) c
  unfolding act
  dirty_is = step_acts (notify_dirty key) (record { capacity = refl; state = refl; places = refl; naming = refl })

  pub spilled_is : step (notify_spilled key) c ≡ notified up (find key c.row) c
  unfolding act
  spilled_is = step_acts (notify_spilled key) (record { capacity = refl; state = refl; places = refl; naming = refl })

module _ {m : Memory} {head : PageCache} {c : Cache} (H : Holds m head c) (by : ℕ → ℕ) (key : ℕ) {o : Outcome}
    (is : o ≡ notified by (find key c.row) c) where
  pub notice_taken : {n : ℕ} → noticed (find key c.row) ≡ true → n ≡ by head.estimate
      → Follows o m
      (plainly (Done 0) (record { capacity = head.capacity; held = head.held; hand = head.hand; spill = head.spill; estimate = n }))
  notice_taken taken counts =
      follows_as (is ∙ notified_by by (find key c.row) taken)
      (plain_follows (Done 0) (counted H (by c.estimate) (counts ∙ ap by H.headed.estimate)))
