-- Four additions that wrap make the sums of a pair: two wrapping additions of three numbers are their sum, wrapped once.
use Rattle.std.proofs.Common.{◌≡◌, ℕ, ◌+◌, ◌%◌, ◌^◌, refl}
use native.Mathlib.Nat.{add-mod-mod}
use Rattle.wal_checksum.specs.Checksum.{first_sum, paired}
use Rattle.wal_checksum.specs.declared.sums.Sums.{Sums}

-- a + b, wrapped
abbrev pub wrapped : (a b : ℕ) → ℕ
wrapped a b = (a + b) % 2 ^ 32

pub pair_added : (x y : ℕ) (s : Sums)
    → let s0 = wrapped s.s0 (wrapped x s.s1) in ◌≡◌ {A = Sums} (record { s0 = s0; s1 = wrapped s.s1 (wrapped y s0) }) (paired x y s)
unfolding paired
pair_added x y s = rw (add-mod-mod s.s0 (x + s.s1) (2 ^ 32), add-mod-mod s.s1 (y + first_sum x s) (2 ^ 32)) refl
