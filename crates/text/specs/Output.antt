-- What an output does with text that is written to it.
use Rattle.std.specs.Prelude.{◌≡◌, ℕ, ◌+◌, ◌≤◌, List, length}

-- Where there is room for the text, the output's end moves on by its length: nothing is written out, and nothing is left out.
abbrev pub PutAtEnd : ℕ → List ℕ → ℕ → Type 0
PutAtEnd end text end' = end + length text ≤ 131072 → end' ≡ end + length text
