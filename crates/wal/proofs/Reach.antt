-- Where frames lie that stand one after another within a log.
use Rattle.std.proofs.Common.{◌≡◌, ℕ, ◌+◌, ◌*◌, ◌-◌, ◌/◌, ◌≤◌, ◌<◌, Bool, true, false, List, length, leb, refl, sym, arith}
use Rattle.std.proofs.lemmas.Bool.{leb-true, leb-false, le-leb, lt-leb}
use native.Mathlib.Nat.{le-div_iff_mul-le, mul-le-mul_right}
use Rattle.wal.specs.Reading.{reaches}

-- two tests that say the same
same_tests : (a b c d : ℕ) → (a ≤ b → c ≤ d) → (c ≤ d → a ≤ b) → leb a b ≡ leb c d
same_tests a b c d to from = go (leb c d) refl
  where
    go : (t : Bool) → leb c d ≡ t → leb a b ≡ t
    go true e = le-leb a b (from (leb-true c d e))
    go false e = lt-leb a b (go_less (leb a b) refl e)
      where
        go_less : (t : Bool) → leb a b ≡ t → leb c d ≡ false → b < a
        go_less true h e = absurd (omega (arith, to (leb-true a b h), leb-false c d e))
        go_less false h e = leb-false a b h

-- they lie within it exactly if there are at most as many as the bytes after the header divided by their length, rounded down
pub reach_divided : (count n long : ℕ) → 0 < n → 32 ≤ long → leb count ((long - 32) / n) ≡ leb (32 + count * n) long
reach_divided count n long some header = same_tests count ((long - 32) / n) (32 + count * n) long to from
  where
    to : count ≤ (long - 32) / n → 32 + count * n ≤ long
    to le = omega (arith, (le-div_iff_mul-le some).0 le)

    from : 32 + count * n ≤ long → count ≤ (long - 32) / n
    from le = (le-div_iff_mul-le some).1 (omega arith)

pub reach_within : (n count : ℕ) (b : List ℕ) → true ≡ reaches n count b → 32 + count * n ≤ length b
unfolding reaches
reach_within n count b so = leb-true (32 + count * n) (length b) (sym so)

-- and so does each of them
pub reach_each : (i n : ℕ) {count long : ℕ} → 32 + count * n ≤ long → i < count → 32 + i * n + n ≤ long
reach_each i n fits below = omega (arith, fits, mul-le-mul_right n below)
