-- How far text that is written moves the output's end on. `write!` writes its text in several calls.
use Rattle.std.proofs.Common.{◌≡◌, ℕ, ◌+◌, ◌^◌, ◌<◌, ◌≤◌, List, [], ◌∷◌, ◌++◌, length, Result, OnOk, arith, ap, subst, length-append}
use Rattle.std.specs.List.{concat, FoldsTo}
use Rattle.std.specs.Fmt.{WritesInCalls, decimal}
use Rattle.std.specs.declared.fmt.Error.{Error}
use Rattle.std.proofs.lemmas.Fmt.{length-decimal-le}
use Rattle.std.proofs.lemmas.Result.{on_ok_weaker}
use Rattle.text.specs.Output.{PutAtEnd}

module _ {W : Type 0} (end : W → ℕ) where
  abbrev pub Put : W → List ℕ → W → Type 0
  Put old text new = PutAtEnd (end old) text (end new)

  put_in_calls : (w : W) (parts : List (List ℕ)) (v : W) → FoldsTo Put w parts v → Put w (concat parts) v
  put_in_calls w [] v same room = omega (arith, ap end same)
  put_in_calls w (text ∷ more) v (next, first, rest) room =
      let whole : length (text ++ concat more) ≡ length text + length (concat more) = length-append text (concat more) in
      let at : end next ≡ end w + length text = first (omega (arith, whole, room)) in
      let last : end v ≡ end next + length (concat more) = put_in_calls next more v rest (omega (arith, whole, room, at)) in
      omega (arith, whole, at, last)

  -- a text of at most `few` bytes, that was written where there is room for `room`
  pub fits : (few room : ℕ) (w v : W) (text : List ℕ) (r : Result (Unit {0}) Error) → few ≤ room → end w + room ≤ 131072 → length text ≤ few
      → OnOk r (WritesInCalls Put w text v) → OnOk r (end v ≤ end w + room)
  fits few room w v text r less free short = on_ok_weaker r within
    where
      within : WritesInCalls Put w text v → end v ≤ end w + room
      within p =
          let put : end v ≡ end w + length text = subst (λ (all : List ℕ). Put w all v) p.whole (put_in_calls w p.parts v p.calls) (omega (arith, free, short, less)) in
          omega (arith, put, short, less)

-- ── how long a text is ────────────────────────────────────────────────────────
pub words_end : (words : List ℕ) → length words ≤ length words
words_end words = omega arith

pub number_end : (words : List ℕ) (n : ℕ) → n < 2 ^ 32 → length (words ++ decimal n) ≤ length words + 10
number_end words n small =
    let digits : length (decimal n) ≤ 10 = length-decimal-le 10 n (omega arith) (omega arith) (omega arith) in
    omega (arith, length-append words (decimal n), digits)

pub long_number_end : (words : List ℕ) (n : ℕ) → n < 2 ^ 64 → length (words ++ decimal n) ≤ length words + 20
long_number_end words n small =
    let digits : length (decimal n) ≤ 20 = length-decimal-le 20 n (omega arith) (omega arith) small in
    omega (arith, length-append words (decimal n), digits)

-- words, a number of 32 bits, and what follows it
pub with_number : (words : List ℕ) (n : ℕ) (rest : List ℕ) (few : ℕ) → n < 2 ^ 32 → length rest ≤ few → length (words ++ (decimal n ++ rest)) ≤ length words + 10 + few
with_number words n rest few small less =
    let digits : length (decimal n) ≤ 10 = length-decimal-le 10 n (omega arith) (omega arith) (omega arith) in
    omega (arith, length-append words (decimal n ++ rest), length-append (decimal n) rest, digits, less)

-- the same with one of 64 bits
pub with_long_number : (words : List ℕ) (n : ℕ) (rest : List ℕ) (few : ℕ) → n < 2 ^ 64 → length rest ≤ few → length (words ++ (decimal n ++ rest)) ≤ length words + 20 + few
with_long_number words n rest few small less =
    let digits : length (decimal n) ≤ 20 = length-decimal-le 20 n (omega arith) (omega arith) small in
    omega (arith, length-append words (decimal n ++ rest), length-append (decimal n) rest, digits, less)

-- words, a text of at most `some` bytes, and what follows it
pub with_text : (words text rest : List ℕ) (some few : ℕ) → length text ≤ some → length rest ≤ few → length (words ++ (text ++ rest)) ≤ length words + some + few
with_text words text rest some few short less = omega (arith, length-append words (text ++ rest), length-append text rest, short, less)
