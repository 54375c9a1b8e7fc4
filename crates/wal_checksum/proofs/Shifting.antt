-- A part of a log has the numbers and sums that the log has from the part's place on.
use Rattle.std.proofs.Common.{◌≡◌, ℕ, zero, suc, ◌+◌, Bool, true, false, List, get_or, drop, refl, arith, get_or-drop}
use Rattle.wal_checksum.specs.Checksum.{big_endian, little_endian, word, checksum}
use Rattle.wal_checksum.specs.declared.sums.Sums.{Sums}

-- place i of the part is place j of the log
module _ (b : List ℕ) (from : ℕ) where
  part_byte : (i j : ℕ) → j ≡ from + i → get_or (drop from b) i 0 ≡ get_or b j 0
  part_byte i j is = rw is (get_or-drop from b i 0)

  pub part_number : (i j : ℕ) → j ≡ from + i → big_endian (drop from b) i ≡ big_endian b j
  unfolding big_endian
  part_number i j is =
      rw (
        part_byte i j is,
        part_byte (i + 1) (j + 1) (omega arith),
        part_byte (i + 2) (j + 2) (omega arith),
        part_byte (i + 3) (j + 3) (omega arith),
      )

  part_word : (big : Bool) (i j : ℕ) → j ≡ from + i → word big (drop from b) i ≡ word big b j
  unfolding little_endian
  part_word true i j is = part_number i j is
  part_word false i j is =
      rw (
        part_byte i j is,
        part_byte (i + 1) (j + 1) (omega arith),
        part_byte (i + 2) (j + 2) (omega arith),
        part_byte (i + 3) (j + 3) (omega arith),
      )

  pub part_checksum : (big : Bool) (i j pairs : ℕ) (s : Sums) → j ≡ from + i
      → checksum big (drop from b) i pairs s ≡ checksum big b j pairs s
  unfolding checksum
  part_checksum big i j zero s is = refl
  part_checksum big i j (suc pairs) s is =
      rw (part_word big i j is, part_word big (i + 4) (j + 4) (omega arith)) (part_checksum big (i + 8) (j + 8) pairs _ (omega arith))
