-- A code and a value determine the answer. And the outcome of the model determines all that a call answers and leaves: two calls
-- that came to the same outcome from the same list gave the same answer, and left the same memory and list, since a cache
-- determines its memory.
use mathlib.Core.Path.{◌≡◌, refl, sym, ap, ◌∙◌}
use mathlib.Core.List.{List, [], ◌∷◌}
use Prim.Native.Nat.{ℕ}
use lib.ListN.{get_or}
use Rattle.free_marks.specs.Marks.{Wide}
use Rattle.model.specs.Call.{Outcome}
use Rattle.memory.specs.Memory.{Memory}
use Rattle.memory.proofs.Once.{holds_memory}
use Rattle.answer.specs.declared.answer.Answer.{Answer}
use Rattle.answer.specs.declared.answer.Answer.TheVariants.{Done, NotSound, BadRecord, ShortList, Absent, Locked, Dirty, Pinned, Full, KeyExists, PendingEvictions, OtherPage, HandleElsewhere, NoSlot, Empty, TooLarge, BadLengths, BadReplay, NotNeeded, NoneSelected, HolderLimit}
use Rattle.answer.specs.declared.answered.Answered.{Answered}
use Rattle.answer.specs.Answer.{code_of, value_of, MatchesOutcome}

-- the answers that go with a value, by their codes
abbrev answers_of : ℕ → List Answer
answers_of v =
    Done v ∷ NotSound ∷ BadRecord ∷ ShortList ∷ Absent ∷ Locked (record { 0 = v }) ∷ Dirty (record { 0 = v }) ∷ Pinned (record { 0 = v }) ∷ Full
    ∷ KeyExists ∷ PendingEvictions ∷ OtherPage ∷ HandleElsewhere ∷ NoSlot ∷ Empty ∷ TooLarge ∷ BadLengths ∷ BadReplay ∷ NotNeeded ∷ NoneSelected ∷ HolderLimit ∷ []

abbrev read_off : ℕ → ℕ → Answer
read_off code v = get_or (answers_of v) code (Done 0)

read_off_lem : (a : Answer) → read_off (code_of a) (value_of a) ≡ a
read_off_lem (Done v) = refl
read_off_lem NotSound = refl
read_off_lem BadRecord = refl
read_off_lem ShortList = refl
read_off_lem Absent = refl
read_off_lem (Locked k) = refl
read_off_lem (Dirty k) = refl
read_off_lem (Pinned k) = refl
read_off_lem Full = refl
read_off_lem KeyExists = refl
read_off_lem PendingEvictions = refl
read_off_lem OtherPage = refl
read_off_lem HandleElsewhere = refl
read_off_lem NoSlot = refl
read_off_lem Empty = refl
read_off_lem TooLarge = refl
read_off_lem BadLengths = refl
read_off_lem BadReplay = refl
read_off_lem NotNeeded = refl
read_off_lem NoneSelected = refl
read_off_lem HolderLimit = refl

pub answer_once : (a b : Answer) → code_of a ≡ code_of b → value_of a ≡ value_of b → a ≡ b
answer_once a b code value = sym (read_off_lem a) ∙ ap (λ (n : ℕ). read_off n (value_of a)) code ∙ ap (read_off (code_of b)) value ∙ read_off_lem b

-- ── the same outcome ─────────────────────────────────────────────────────────
module _ {o : Outcome} {list list' list'' : List ℕ} {m m' : Memory} {r s : Answered} (wide : Wide m.marks) (wide' : Wide m'.marks)
    (x : MatchesOutcome o list m list' r) (y : MatchesOutcome o list m' list'' s) where
  pub same_memory : m ≡ m'
  same_memory = (holds_memory wide wide' x.follows.holds y.follows.holds).0

  pub same_list : list' ≡ list''
  same_list = x.wrote.list ∙ sym y.wrote.list

  pub same_answer : r ≡ s
  same_answer =
      let code : code_of r.answer ≡ code_of s.answer = x.follows.code ∙ sym y.follows.code in
      let value : value_of r.answer ≡ value_of s.answer = x.follows.value ∙ sym y.follows.value in
      let answer : r.answer ≡ s.answer = answer_once r.answer s.answer code value in
      let passed : r.passed ≡ s.passed = x.follows.passed ∙ sym y.follows.passed in
      let listed : r.listed ≡ s.listed = x.follows.listed ∙ sym y.follows.listed in
      let head : r.head ≡ s.head = (holds_memory wide wide' x.follows.holds y.follows.holds).1 in
      λ i. record { answer = answer i; passed = passed i; listed = listed i; head = head i }
