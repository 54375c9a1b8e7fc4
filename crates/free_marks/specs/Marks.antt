-- The marks of the slots (01, "Free slots are 1 bits in 64-bit words, lowest slot in the lowest bit").
use Rattle.std.specs.Prelude.{◌≡◌, List, ℕ, zero, suc, ◌+◌, ◌*◌, ◌/◌, ◌%◌, ◌^◌, ◌≤◌, ◌<◌, length, get_or}

-- the mark of slot k: 1 if the slot is free
abbrev pub bit_at : List ℕ → ℕ → ℕ
bit_at marks k = get_or marks (k / 64) 0 / 2 ^ (k % 64) % 2

-- every word is a number of 64 bits
pub record Wide (marks : List ℕ) : Type 0 where
  pub each : (w : ℕ) → get_or marks w 0 < 2 ^ 64

-- slot s has the mark, and every other slot the mark it had
pub record MarkedAs (mark : ℕ) (marks : List ℕ) (s : ℕ) (marks' : List ℕ) : Type 0 where
  pub here : bit_at marks' s ≡ mark
  pub others : (k : ℕ) → (k ≡ s → ⊥) → bit_at marks' k ≡ bit_at marks k
  pub long : length marks' ≡ length marks

-- how many words of marks there may be; the largest pool has 64
abbrev pub max_words : ℕ
max_words = 2048

-- a slot is free, and there are not too many words
pub record SomeFree (marks : List ℕ) : Type 0 where
  pub slot : ℕ
  pub free : bit_at marks slot ≡ 1
  pub long : length marks ≤ max_words

-- slot s is free, and no lower one is
pub record LowestFree (marks : List ℕ) (s : ℕ) : Type 0 where
  pub free : bit_at marks s ≡ 1
  pub least : (k : ℕ) → k < s → bit_at marks k ≡ 0

-- how many slots below k are free
unfoldable pub free_below : List ℕ → ℕ → ℕ
free_below marks zero = zero
free_below marks (suc k) = free_below marks k + bit_at marks k

-- how many slots are free
abbrev pub free_slots : List ℕ → ℕ
free_slots marks = free_below marks (length marks * 64)
