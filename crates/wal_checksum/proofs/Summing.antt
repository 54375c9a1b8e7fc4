-- The loop sums one pair at each turn: what is still to be summed, from the sums so far, comes to the whole.
use Rattle.std.proofs.Common.{◌≡◌, ℕ, zero, suc, ◌+◌, ◌-◌, ◌*◌, ◌<◌, ◌≤◌, Bool, List, refl, arith}
use Rattle.wal_checksum.specs.Checksum.{word, paired, checksum}
use Rattle.wal_checksum.specs.declared.sums.Sums.{Sums}

-- `i` pairs have been summed
pub record Summing (big : Bool) (bytes : List ℕ) (at pairs : ℕ) (from : Sums) (i : ℕ) (s : Sums) : Type 0 where
  pub rest : checksum big bytes (at + 8 * i) (pairs - i) s ≡ checksum big bytes at pairs from

module _ {big : Bool} {bytes : List ℕ} {at pairs : ℕ} {from : Sums} where
  pub summing_begins : Summing big bytes at pairs from 0 from
  summing_begins =
      let here : at + 8 * 0 ≡ at = omega arith in
      let all : pairs - 0 ≡ pairs = omega arith in
      record { rest = rw (here, all) refl }

  pub summing_more : {i x y : ℕ} {s more : Sums} → Summing big bytes at pairs from i s → i < pairs
      → x ≡ word big bytes (at + 8 * i) → y ≡ word big bytes (at + 8 * i + 4) → more ≡ paired x y s
      → Summing big bytes at pairs from (i + 1) more
  unfolding checksum
  summing_more {i} g below first second is =
      let left : pairs - i ≡ suc (pairs - (i + 1)) = omega arith in
      let next : at + 8 * (i + 1) ≡ at + 8 * i + 8 = omega arith in
      record { rest = rw (next, is, first, second) (rw left at g.rest) }

  pub summing_done : {i : ℕ} {s : Sums} → Summing big bytes at pairs from i s → pairs ≤ i → s ≡ checksum big bytes at pairs from
  unfolding checksum
  summing_done {i} {s} g all =
      let none : pairs - i ≡ zero = omega arith in
      rw none at g.rest
