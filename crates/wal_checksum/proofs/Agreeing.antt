-- Numbers and sums depend on the bytes that they are read from and on no others.
use Rattle.std.proofs.Common.{◌≡◌, ℕ, zero, suc, ◌+◌, ◌*◌, ◌<◌, ◌≤◌, Bool, true, false, List, get_or, refl, arith}
use Rattle.wal_checksum.specs.Checksum.{big_endian, little_endian, word, checksum}
use Rattle.wal_checksum.specs.declared.sums.Sums.{Sums}

-- two logs have the same bytes below place k
pub record Agree (k : ℕ) (b c : List ℕ) : Type 0 where
  pub byte : (i : ℕ) → i < k → get_or b i 0 ≡ get_or c i 0

module _ {k : ℕ} {b c : List ℕ} (same : Agree k b c) where
  pub agree_number : (at : ℕ) → at + 4 ≤ k → big_endian b at ≡ big_endian c at
  unfolding big_endian
  agree_number at within =
      rw (same.byte at (omega arith), same.byte (at + 1) (omega arith), same.byte (at + 2) (omega arith), same.byte (at + 3) (omega arith))

  pub agree_word : (big : Bool) (at : ℕ) → at + 4 ≤ k → word big b at ≡ word big c at
  unfolding little_endian
  agree_word true at within = agree_number at within
  agree_word false at within =
      rw (same.byte at (omega arith), same.byte (at + 1) (omega arith), same.byte (at + 2) (omega arith), same.byte (at + 3) (omega arith))

  pub agree_checksum : (big : Bool) (at pairs : ℕ) (s : Sums) → at + 8 * pairs ≤ k → checksum big b at pairs s ≡ checksum big c at pairs s
  unfolding checksum
  agree_checksum big at zero s within = refl
  agree_checksum big at (suc pairs) s within =
      rw (agree_word big at (omega arith), agree_word big (at + 4) (omega arith)) (agree_checksum big (at + 8) pairs _ (omega arith))
