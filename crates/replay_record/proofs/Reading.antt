-- A number is read from its highest byte down: what was read is the number of the bytes from there on, and each byte more is
-- one more digit to the base 256.
use mathlib.Core.Path.{◌≡◌, refl, sym, ap, subst, ◌∙◌}
use mathlib.Core.List.{List}
use Prim.Native.Nat.{ℕ, suc, ◌+◌, ◌*◌, ◌-◌, ◌^◌, ◌≤◌, ◌<◌}
use native.Mathlib.Nat.{pow-suc, pow-le-pow_right}
use native.Mathlib.Omega.{arith}
use lib.ListN.{get_or}
use Rattle.replay_record.specs.Fields.{number, NumberReadable, ReadAt}

-- all but the first `left` bytes are read
pub record Read (bytes : List ℕ) (at width left n : ℕ) : Type 0 where
  pub count : ℕ
  pub rest : left + count ≡ width
  pub value : n ≡ number count bytes (at + left)
  pub small : n < 256 ^ count

pub read_none : (bytes : List ℕ) (at width : ℕ) → Read bytes at width width 0
unfolding number
read_none bytes at width = record { count = 0; rest = omega arith; value = refl; small = omega arith }

module _ {bytes : List ℕ} {at width left n : ℕ} where
  -- there is room for one byte more
  pub read_room : NumberReadable bytes at width → Read bytes at width left n → 0 < left → n < 256 ^ 7
  read_room good r more =
      let few : r.count ≤ 7 = omega (arith, good.most, r.rest) in
      let one : 0 < 256 = omega arith in
      let below : 256 ^ r.count ≤ 256 ^ 7 = pow-le-pow_right one few in
      omega (arith, below, r.small)

  pub read_more : Read bytes at width left n → 0 < left → get_or bytes (at + (left - 1)) 0 < 256
      → Read bytes at width (left - 1) (n * 256 + get_or bytes (at + (left - 1)) 0)
  unfolding number
  read_more r more byte =
      let place : suc (at + (left - 1)) ≡ at + left = omega arith in
      record {
        count = suc r.count;
        rest = omega (arith, r.rest);
        value =
            let same : number r.count bytes (suc (at + (left - 1))) ≡ n = ap (λ (k : ℕ). number r.count bytes k) place ∙ sym r.value in
            omega (arith, same);
        small = omega (arith, r.small, pow-suc 256 r.count);
      }

  pub read_all : Read bytes at width left n → left ≤ 0 → ReadAt bytes at width n
  read_all r done =
      let all : r.count ≡ width = omega (arith, r.rest) in
      let place : at + left ≡ at = omega arith in
      record {
        value = r.value ∙ ap (λ (k : ℕ). number r.count bytes k) place ∙ ap (λ (k : ℕ). number k bytes at) all;
        small = subst (λ (k : ℕ). n < 256 ^ k) all r.small;
      }
