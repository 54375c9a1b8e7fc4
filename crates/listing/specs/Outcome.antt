-- What comes of a listing of any memory (01, "Answer codes" 0, 1 and 3).
use Rattle.std.specs.Prelude.{◌≡◌, List, ℕ, ◌≤◌, ◌<◌, length, Result, Ok, Err}
use Rattle.page.specs.declared.cache.PageCache.{PageCache}
use Rattle.model.specs.Cache.{Cache}
use Rattle.memory.specs.Memory.{Memory}
use Rattle.memory.specs.Holds.{Holds, Sound}
use Rattle.listing.specs.declared.testing.ListingError.{ListingError}
use Rattle.listing.specs.declared.testing.ListingError.TheVariants.{NotSound, ShortList}
use Rattle.listing.specs.Listing.{Form, RowWritten}

-- the number of pages listed, or why none is
abbrev pub Listing : Type 0
Listing = Result ℕ ListingError

-- 01's answer codes
abbrev pub code_of : Listing → ℕ
code_of (Ok n) = 0
code_of (Err NotSound) = 1
code_of (Err ShortList) = 3

-- and its values: the number of pages listed, else 0
abbrev pub value_of : Listing → ℕ
value_of (Ok n) = n
value_of (Err why) = 0

-- 3: the memory is sound, and the list has less space than is needed
pub record TooShort (m : Memory) (head : PageCache) (needed space : ℕ) : Type 0 where
  pub sound : Sound m head
  pub short : space < needed

-- 0: the memory is sound, the list has the space that is needed, and n is the number of held pages
pub record AllListed (m : Memory) (head : PageCache) (needed space n : ℕ) : Type 0 where
  pub sound : Sound m head
  pub room : needed ≤ space
  pub count : n ≡ head.held

-- 01's table for a listing: what it means that a number is given, with a value. No other number is given
pub data Verdict (m : Memory) (head : PageCache) (needed space : ℕ) : (code value : ℕ) → Type 0 where
  all_listed : {n : ℕ} → AllListed m head needed space n → Verdict m head needed space 0 n
  not_sound : (Sound m head → ⊥) → Verdict m head needed space 1 0
  too_short : TooShort m head needed space → Verdict m head needed space 3 0

-- the answer for a list with space for `space` pages
abbrev pub Admits : Memory → PageCache → (space : ℕ) → Listing → Type 0
Admits m head space answer = Verdict m head head.held space (code_of answer) (value_of answer)

-- what came of a call: the list was `before` and is `after`. The memory is lent to be read, and stays as it is
pub record ListingEffect {A : Type 0} (F : Form A) (m : Memory) (head : PageCache) (before after : List A) (answer : Listing) : Type 0 where
  pub verdict : Verdict m head (F.places head.held) (length before) (code_of answer) (value_of answer)
  -- a refusal alters nothing
  pub refused : (code_of answer ≡ 0 → ⊥) → after ≡ before
  -- the row of the cache that the memory holds is listed
  pub done : code_of answer ≡ 0 → (c : Cache) → Holds m head c → RowWritten F c.row before after
