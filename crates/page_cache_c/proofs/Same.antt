-- The contracts of the exported functions are deterministic: the lengths decide whether anything is called, and what is called has
-- one outcome.
use mathlib.Core.Path.{◌≡◌, sym, ap, ◌∙◌}
use mathlib.Core.List.{List}
use Prim.Native.Nat.{ℕ}
use Rattle.pool.specs.Slots.{entries}
use Rattle.memory.specs.Memory.{Memory}
use Rattle.creating.specs.Creation as creation
use Rattle.creating.specs.Creation.{Creation}
use Rattle.creating.proofs.NewPool.{SameCreation, created_same}
use Rattle.listing.specs.Outcome as listing
use Rattle.listing.proofs.Outcomes.{comes_once}
use Rattle.listing.specs.Outcome.{Listing}
use Rattle.answer.specs.Answer.{code_of}
use Rattle.answer.specs.declared.answered.Answered.{Answered}
use Rattle.contract.specs.Called.{State}
use Rattle.apply.proofs.Same.{applied_same}
use Rattle.c_numbers.specs.Head.{head_after, answer_of}
use Rattle.c_numbers.specs.Put.{head_made}
use Rattle.page_cache_c.specs.Exports.{Makes, unmade, makes, Tests, untested, sound, not_sound, Lists, unlisted, lists, Applies, unapplied, applies}

pub makes_same : {capacity : ℕ} {m a b : Memory} {head h k : List ℕ} {x y : ℕ} → Makes capacity m head a h x
    → Makes capacity m head b k y → (a ≡ b) × (h ≡ k) × (x ≡ y)
makes_same (unmade n p q c) (unmade n' p' q' c') = (p ∙ sym p', q ∙ sym q', c ∙ sym c')
makes_same (unmade n p q c) (makes made l w v) = absurd (n l)
makes_same (makes made l w v) (unmade n p q c) = absurd (n l)
makes_same {capacity} {m} {a} {b} {head} (makes made l w v) (makes made' l' w' v') =
    let same : SameCreation made a made' b = created_same m capacity made made' a b w w' in (
      same.memory,
      v.head ∙ ap (λ (c : Creation). head_made c head) same.answer ∙ sym v'.head,
      v.code ∙ ap (λ (c : Creation). creation.code_of c) same.answer ∙ sym v'.code,
    )

pub tests_same : {m : Memory} {head : List ℕ} {x y : ℕ} → Tests m head x → Tests m head y → x ≡ y
tests_same (untested n c) (untested n' c') = c ∙ sym c'
tests_same (untested n c) (sound l s c') = absurd (n l)
tests_same (untested n c) (not_sound l s c') = absurd (n l)
tests_same (sound l s c) (untested n c') = absurd (n l)
tests_same (sound l s c) (sound l' s' c') = c ∙ sym c'
tests_same (sound l s c) (not_sound l' s' c') = absurd (s' s)
tests_same (not_sound l s c) (untested n c') = absurd (n l)
tests_same (not_sound l s c) (sound l' s' c') = absurd (s s')
tests_same (not_sound l s c) (not_sound l' s' c') = c ∙ sym c'

pub lists_same : {m : Memory} {head list a b : List ℕ} {x y : ℕ} → Lists m head list a x → Lists m head list b y → (a ≡ b) × (x ≡ y)
lists_same (unlisted n p c) (unlisted n' p' c') = (p ∙ sym p', c ∙ sym c')
lists_same (unlisted n p c) (lists answer l w c') = absurd (n l)
lists_same (lists answer l w c) (unlisted n p c') = absurd (n l)
lists_same (lists answer l w c) (lists answer' l' w' c') =
    let same = comes_once w w' in
    (same.list, c ∙ ap (λ (t : Listing). listing.code_of t) same.answer ∙ sym c')

pub applies_same : {bytes head answer h k p q : List ℕ} {before a b : State} {x y : ℕ} → Applies bytes before head answer a h p x
    → Applies bytes before head answer b k q y → (a ≡ b) × (h ≡ k) × (p ≡ q) × (x ≡ y)
applies_same (unapplied n s h p c) (unapplied n' s' h' p' c') = (s ∙ sym s', h ∙ sym h', p ∙ sym p', c ∙ sym c')
applies_same (unapplied n s h p c) (applies r fit w h' p') = absurd (n fit)
applies_same (applies r fit w h p) (unapplied n s h' p' c) = absurd (n fit)
applies_same {head = head} {a = a} {b = b} (applies r fit w h p) (applies r' fit' w' h' p') =
    let same = applied_same w w' in
    let state = same.0 in
    let answer = same.1 in (
      state,
      h ∙ ap (λ (t : Answered). head_after head t) answer ∙ sym (h'),
      p.answer ∙ (λ i. answer_of (entries (state i).memory.slots) (answer i)) ∙ sym p'.answer,
      p.code ∙ ap (λ (t : Answered). code_of t.answer) answer ∙ sym p'.code,
    )
