-- Only a whole frame is valid.
use Rattle.std.proofs.Common.{◌≡◌, ℕ, ◌+◌, ◌≤◌, ◌<◌, true, false, List, length, leb}
use Rattle.std.proofs.lemmas.Bool.{and_parts, lt-leb, leb-true}
use Rattle.wal_checksum.specs.declared.sums.Sums.{Sums}
use Rattle.wal_header.specs.declared.header.Header.{Header}
use Rattle.wal_frame.specs.Frame.{frame_length, valid}

module _ (h : Header) (b : List ℕ) (at : ℕ) (s : Sums) where
  -- a frame that is cut off is no frame
  pub cut_off : length b < at + frame_length h → valid h b at s ≡ false
  unfolding valid
  cut_off short = rw (lt-leb (at + frame_length h) (length b) short)

  pub valid_whole : valid h b at s ≡ true → at + frame_length h ≤ length b
  unfolding valid
  valid_whole is = leb-true (at + frame_length h) (length b) (and_parts (leb (at + frame_length h) (length b)) _ is).0
