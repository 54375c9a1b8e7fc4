-- What is written of a creation and of an answer, and the code that is handed back with it.
use Rattle.std.specs.Prelude.{◌≡◌, List, ℕ, Ok, Err}
use Rattle.page.specs.declared.entry.PageCacheEntry.{PageCacheEntry}
use Rattle.creating.specs.Creation as creation
use Rattle.answer.specs.Answer.{code_of}
use Rattle.answer.specs.declared.answered.Answered.{Answered}
use Rattle.c_numbers.specs.Head.{numbers_of, answer_of}

-- ── a creation ───────────────────────────────────────────────────────────────
-- the numbers of the head after a creation: those of the new head, or as they were
abbrev pub head_made : creation.Creation → List ℕ → List ℕ
head_made (Ok new) numbers = numbers_of new
head_made (Err why) numbers = numbers

pub record PutCreated (made : creation.Creation) (before after : List ℕ) (answer : ℕ) : Type 0 where
  pub head : after ≡ head_made made before
  pub code : answer ≡ creation.code_of made

-- ── an answer ────────────────────────────────────────────────────────────────
pub record PutAnswer (es : List PageCacheEntry) (r : Answered) (after : List ℕ) (told : ℕ) : Type 0 where
  pub answer : after ≡ answer_of es r
  pub code : told ≡ code_of r.answer
