-- The frames that are left if a log is cut (item 2).
use Rattle.std.specs.Prelude.{cond, List, [], ◌∷◌, ℕ, ◌+◌, leb}
use Rattle.wal_frame.specs.declared.frame.Frame.{Frame}

-- those that lie wholly before the cut, of frames of length n that stand one after another from place `at` on
unfoldable pub whole_before : (cut n at : ℕ) → List Frame → List Frame
whole_before cut n at [] = []
whole_before cut n at (f ∷ fs) = cond (leb (at + n) cut) (f ∷ whole_before cut n (at + n) fs) (whole_before cut n (at + n) fs)
