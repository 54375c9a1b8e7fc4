-- The 32 bytes of a replay record, field by field (01, "The replay program").
use Rattle.std.specs.Prelude.{◌≡◌, Bool, cond, not, ◌||◌, List, ℕ, zero, suc, ◌+◌, ◌*◌, ◌^◌, ◌≤◌, ◌<◌, eqb, ltb, length, get_or, Option, Some, None}
use Rattle.replay_record.specs.declared.record.Record.{Record}

-- ── numbers ──────────────────────────────────────────────────────────────────
-- little-endian: the number of `width` bytes from place `at` on
unfoldable pub number : (width : ℕ) → List ℕ → (at : ℕ) → ℕ
number zero bytes at = 0
number (suc width) bytes at = get_or bytes at 0 + 256 * number width bytes (suc at)

-- the bytes are there, and the number fits 64 bits
pub record NumberReadable (bytes : List ℕ) (at width : ℕ) : Type 0 where
  pub within : at + width ≤ length bytes
  pub most : width ≤ 8

pub record ReadAt (bytes : List ℕ) (at width n : ℕ) : Type 0 where
  pub value : n ≡ number width bytes at
  pub small : n < 256 ^ width

-- ── fields ───────────────────────────────────────────────────────────────────
-- 0 operation, 1 flags, 2 pins (2), 4 key (4), 8 handle (4), 12 holders (2), 14 overflow cells, 15 option,
-- 16 number or frame (8)
abbrev pub fields : List ℕ → Record
fields b = record {
  operation = get_or b 0 0;
  option = eqb (get_or b 15 0) 1;
  key = record { 0 = number 4 b 4 };
  handle = record { 0 = number 4 b 8 };
  page = record { flags = get_or b 1 0; pins = number 2 b 2; holders = number 2 b 12; cells = get_or b 14 0; frame = number 8 b 16 };
  number = number 8 b 16;
}

-- an option above 1 or a nonzero tail (24 to 31)
abbrev pub bad : List ℕ → Bool
bad b = ltb 1 (get_or b 15 0) || not (eqb (number 8 b 24) 0)

-- a record is 32 bytes
abbrev pub decoded : List ℕ → Option Record
decoded b = cond (not (eqb (length b) 32) || bad b) None (Some (fields b))
