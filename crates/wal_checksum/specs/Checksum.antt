-- Numbers and sums of the write-ahead log, from the document's sections 4.1 and 4.2.
use Rattle.std.specs.Prelude.{ℕ, zero, suc, ◌+◌, ◌*◌, ◌%◌, ◌^◌, Bool, cond, ◌&&◌, List, ◌==◌, slice_index}
use Rattle.wal_checksum.specs.declared.sums.Sums.{Sums}

-- ── numbers ──────────────────────────────────────────────────────────────────
-- four bytes, the highest first
abbrev pub of_bytes : ℕ → ℕ → ℕ → ℕ → ℕ
of_bytes a b c d = a * 16777216 + b * 65536 + c * 256 + d

-- 'big-endian 32-bit unsigned integer values'
unfoldable pub big_endian : List ℕ → (at : ℕ) → ℕ
big_endian bytes at = of_bytes (slice_index bytes at) (slice_index bytes (at + 1)) (slice_index bytes (at + 2)) (slice_index bytes (at + 3))

unfoldable pub little_endian : List ℕ → (at : ℕ) → ℕ
little_endian bytes at = of_bytes (slice_index bytes (at + 3)) (slice_index bytes (at + 2)) (slice_index bytes (at + 1)) (slice_index bytes at)

-- 'big-endian if the magic number .. is 0x377f0683 and .. little-endian if the magic number is 0x377f0682'
abbrev pub word : (big : Bool) → List ℕ → (at : ℕ) → ℕ
word big bytes at = cond big (big_endian bytes at) (little_endian bytes at)

-- ── sums ─────────────────────────────────────────────────────────────────────
-- 's0 += x(i) + s1'
abbrev pub first_sum : (x : ℕ) → Sums → ℕ
first_sum x s = (s.s0 + (x + s.s1)) % 2 ^ 32

-- and then 's1 += x(i+1) + s0', with the new s0
unfoldable pub paired : (x y : ℕ) → Sums → Sums
paired x y s = record { s0 = first_sum x s; s1 = (s.s1 + (y + first_sum x s)) % 2 ^ 32 }

-- 'for i from 0 to n-1 step 2': `pairs` pairs of words, from place `at` on
unfoldable pub checksum : (big : Bool) → List ℕ → (at pairs : ℕ) → Sums → Sums
checksum big bytes at zero s = s
checksum big bytes at (suc pairs) s = checksum big bytes (at + 8) pairs (paired (word big bytes at) (word big bytes (at + 4)) s)

-- 'The checksum values are always stored .. in a big-endian format'
abbrev pub sums_at : List ℕ → (at : ℕ) → Sums
sums_at bytes at = record { s0 = big_endian bytes at; s1 = big_endian bytes (at + 4) }

abbrev pub same_sums : Sums → Sums → Bool
same_sums a b = a.s0 == b.s0 && a.s1 == b.s1
