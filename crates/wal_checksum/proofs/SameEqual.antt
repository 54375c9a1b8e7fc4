-- Two sums are the same only if both of their numbers are.
use Rattle.std.proofs.Common.{◌≡◌, true}
use Rattle.std.proofs.lemmas.Bool.{and_parts, eqb-true}
use Rattle.wal_checksum.specs.Checksum.{same_sums}
use Rattle.wal_checksum.specs.declared.sums.Sums.{Sums}

pub same_equal : (a b : Sums) → same_sums a b ≡ true → a ≡ b
same_equal a b same =
    let both = and_parts _ _ same in
    λ i. record { s0 = eqb-true a.s0 b.s0 both.0 i; s1 = eqb-true a.s1 b.s1 both.1 i }
