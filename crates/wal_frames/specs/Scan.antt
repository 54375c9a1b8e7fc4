-- The scan of a log, from the document's sections 4.1 and 4.2 and item 2.
use Rattle.std.specs.Prelude.{cond, List, [], ◌∷◌, ℕ, zero, suc, ◌+◌, ◌^◌, ◌≤◌, ◌<◌, eqb, length, Some, None, Result, Ok, Err}
use Rattle.wal_checksum.specs.declared.sums.Sums.{Sums}
use Rattle.wal_header.specs.Header.{opened}
use Rattle.wal_header.specs.declared.header.Header.{Header}
use Rattle.wal_header.specs.declared.header.Fault.{Fault}
use Rattle.wal_frame.specs.Frame.{frame_length, frame_at, valid}
use Rattle.wal_frame.specs.declared.frame.Frame.{Frame}
use Rattle.wal_frames.specs.declared.scanning.Summary.{Summary}

-- the valid frames from a place on, up to the first bad one, `most` at most; `s` are the sums of what comes before them
unfoldable pub frames : Header → List ℕ → (most at : ℕ) → Sums → List Frame
frames h b zero at s = []
frames h b (suc most) at s =
    cond (valid h b at s) (frame_at b at ∷ frames h b most (at + frame_length h) (frame_at b at).sums) []

-- the valid frames of a log with this header; there are fewer frames than bytes
abbrev pub frames_in : Header → List ℕ → List Frame
frames_in h b = frames h b (length b) 32 h.sums

-- the summary before the first frame
abbrev pub start_of : Header → Summary
start_of h = record { header = h; frames = 0; commits = 0; last = None; end = 32; sums = h.sums }

-- one valid frame more; a frame with a size is a commit
unfoldable pub counted : Summary → Frame → Summary
counted s f = record {
  header = s.header;
  frames = s.frames + 1;
  commits = cond (eqb f.commit 0) s.commits (s.commits + 1);
  last = cond (eqb f.commit 0) s.last (Some (record { frame = s.frames + 1; pages = f.commit }));
  end = s.end + frame_length s.header;
  sums = f.sums;
}

unfoldable pub tally : Summary → List Frame → Summary
tally s [] = s
tally s (f ∷ fs) = tally (counted s f) fs

-- a log's scan: all its valid frames
abbrev pub scan_of : Header → List ℕ → Summary
scan_of h b = tally (start_of h) (frames_in h b)

abbrev pub scanned_as : Result Header Fault → List ℕ → Result Summary Fault
scanned_as (Err fault) b = Err fault
scanned_as (Ok h) b = Ok (scan_of h b)

abbrev pub scanned : List ℕ → Result Summary Fault
scanned b = scanned_as (opened b) b

-- ── what the functions below the scan ask ────────────────────────────────────
-- one frame more can be counted in 64 bits
pub record Countable (s : Summary) : Type 0 where
  pub room : s.end + frame_length s.header < 2 ^ 64
  pub few : s.frames ≤ s.end
  pub fewer : s.commits ≤ s.frames
