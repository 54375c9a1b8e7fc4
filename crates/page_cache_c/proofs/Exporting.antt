-- What a call does with the head that was read is what it does with the head that the numbers stand for.
use mathlib.Core.Path.{◌≡◌, refl, sym, subst, ◌∙◌}
use mathlib.Core.Bool.{Bool, false, true≢false}
use mathlib.Core.List.{List}
use Prim.Native.Nat.{ℕ}
use lib.ListN.{length}
use Rattle.page.specs.declared.cache.PageCache.{PageCache}
use Rattle.pool.specs.Slots.{entries}
use Rattle.pool.specs.Decides.{Decides}
use Rattle.memory.specs.Memory.{Memory}
use Rattle.memory.specs.Holds.{Sound}
use Rattle.listing.specs.Listing.{in_numbers}
use Rattle.listing.specs.Outcome.{Listing, ListingEffect, code_of}
use Rattle.answer.specs.declared.answered.Answered.{Answered}
use Rattle.contract.specs.Called.{State, lent}
use Rattle.apply.specs.Applied.{Applied}
use Rattle.c_numbers.specs.Head.{head_of, head_after}
use Rattle.c_numbers.specs.Put.{PutCreated, PutAnswer}
use Rattle.creating.specs.Creation.{Creation, Creates}
use Rattle.page_cache_c.specs.Exports.{Makes, makes, Tests, sound, not_sound, Lists, lists, Applies, applies}

module _ {m : Memory} {head : List ℕ} {read : PageCache} (long : length head ≡ 5) (is : read ≡ head_of head) where
  pub tests_sound : Sound m read → Tests m head 0
  tests_sound s = sound long (subst (λ (h : PageCache). Sound m h) is s) refl

  pub tests_not_sound : {b : Bool} → Decides b (Sound m read) → b ≡ false → Tests m head 1
  tests_not_sound t e = not_sound long (λ s. true≢false (sym (t.whole (subst (λ (h : PageCache). Sound m h) (sym is) s)) ∙ e)) refl

  pub lists_read : {list list' : List ℕ} {answer : Listing} {code : ℕ} → ListingEffect in_numbers m read list list' answer → code ≡ code_of answer
      → Lists m head list list' code
  lists_read {list} {list'} {answer} came told =
      lists answer long (subst (λ (h : PageCache). ListingEffect in_numbers m h list list' answer) is came) told

pub applies_read : {bytes head answer head' answer' : List ℕ} {before after : State} {read : PageCache} {r : Answered} {code : ℕ}
    → length head ≡ 5 → length answer ≡ 6 → read ≡ head_of head → Applied bytes before read after r → head' ≡ head_after head r
    → PutAnswer (entries after.memory.slots) r answer' code → Applies bytes before head answer after head' answer' code
applies_read {bytes} {before = before} {after = after} {r = r} h a is came kept told =
    applies r (record { head = h; answer = a }) (subst (λ (x : PageCache). Applied bytes before x after r) is came) kept told

-- the same where what is left in the slices is known by an equation
module _ {left m' : Memory} (same : left ≡ m') where
  pub makes_left : {capacity : ℕ} {m : Memory} {made : Creation} {head head' : List ℕ} {code : ℕ} → length head ≡ 5 → Creates m capacity made left
      → PutCreated made head head' code → Makes capacity m head m' head' code
  makes_left {capacity} {m} {made} long creates put = makes made long (subst (λ (x : Memory). Creates m capacity made x) same creates) put

  pub applied_left : {bytes list list' : List ℕ} {m : Memory} {head : PageCache} {r : Answered} → Applied bytes (lent m list) head (lent left list') r
      → Applied bytes (lent m list) head (lent m' list') r
  applied_left {bytes} {list} {list'} {m} {head} {r} came = subst (λ (x : Memory). Applied bytes (lent m list) head (lent x list') r) same came
