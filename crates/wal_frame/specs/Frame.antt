-- A frame, from the document's sections 4.1 and 4.2 and item 2.
use Rattle.std.specs.Prelude.{Bool, cond, ◌&&◌, List, ℕ, ◌+◌, ◌/◌, eqb, leb, length, Option, Some, None}
use Rattle.wal_checksum.specs.Checksum.{big_endian, checksum, sums_at, same_sums}
use Rattle.wal_checksum.specs.declared.sums.Sums.{Sums}
use Rattle.wal_header.specs.declared.header.Header.{Header}
use Rattle.wal_frame.specs.declared.frame.Frame.{Frame}

-- 'a 24-byte frame-header followed by a page-size bytes of page data'
abbrev pub frame_length : Header → ℕ
frame_length h = 24 + h.page_size

-- 0 page number, 4 size of the database after a commit or zero, 8 and 12 salts, 16 and 20 sums
unfoldable pub frame_at : List ℕ → (at : ℕ) → Frame
frame_at b at = record { page = big_endian b at; commit = big_endian b (at + 4); sums = sums_at b (at + 16) }

-- 'The salt-1 and salt-2 values in the frame-header match salt values in the wal-header'
unfoldable pub salted : Header → List ℕ → (at : ℕ) → Bool
salted h b at = eqb (big_endian b (at + 8)) h.salt1 && eqb (big_endian b (at + 12)) h.salt2

-- 'the checksum computed consecutively on .. the first 8 bytes and the content of all frames up to and including the current frame'
unfoldable pub sums_after : Header → List ℕ → (at : ℕ) → Sums → Sums
sums_after h b at s = checksum h.big b (at + 24) (h.page_size / 8) (checksum h.big b at 1 s)

-- 'A frame is considered valid if and only if' it is there as a whole, and both hold
unfoldable pub valid : Header → List ℕ → (at : ℕ) → Sums → Bool
valid h b at s = leb (at + frame_length h) (length b) && (salted h b at && same_sums (sums_after h b at s) (frame_at b at).sums)

abbrev pub next_at : Header → List ℕ → (at : ℕ) → Sums → Option Frame
next_at h b at s = cond (valid h b at s) (Some (frame_at b at)) None
