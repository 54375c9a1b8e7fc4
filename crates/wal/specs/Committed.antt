-- The committed part of a log, in the words of the document's section 4.5.
use Rattle.std.specs.Prelude.{◌≡◌, List, [], ◌∷◌, ◌++◌, ◌⊎◌, ℕ, ◌+◌, ◌*◌, length, Option, Some, None, Result, Ok, Err}
use Rattle.wal_frame.specs.declared.frame.Frame.{Frame}
use Rattle.wal_frames.specs.declared.scanning.Commit.{Commit}
use Rattle.wal.specs.declared.find.FoundFrame.{FoundFrame}
use Rattle.wal.specs.declared.find.OtherLog.{OtherLog}

-- ── the last commit ──────────────────────────────────────────────────────────
-- none of the frames is a commit
abbrev pub NoCommit : List Frame → Type 0
NoCommit [] = Unit
NoCommit (f ∷ fs) = (f.commit ≡ 0) × NoCommit fs

-- the k-th of the frames is a commit, after which the database has `size` pages, and no frame after it is a commit
pub record LastCommit (fs : List Frame) (k size : ℕ) : Type 0 where
  pub before : List Frame
  pub frame : Frame
  pub after : List Frame
  pub split : fs ≡ before ++ frame ∷ after
  pub number : length before + 1 ≡ k
  pub sized : frame.commit ≡ size
  pub some : size ≡ 0 → ⊥
  pub none : NoCommit after

-- a summary's last commit is that of the frames
abbrev pub LastIs : Option Commit → List Frame → Type 0
LastIs None fs = NoCommit fs
LastIs (Some c) fs = LastCommit fs c.frame c.pages

-- ── the committed copies of a page ───────────────────────────────────────────
-- the first of the frames is a commit, or is followed by one
abbrev pub HasCommit : List Frame → Type 0
HasCommit [] = ⊥
HasCommit (f ∷ fs) = (f.commit ≡ 0 → ⊥) ⊎ HasCommit fs

-- no instance of the page is a commit or is followed by one
abbrev pub NoCopy : (page : ℕ) → List Frame → Type 0
NoCopy page [] = Unit
NoCopy page (f ∷ fs) = (f.page ≡ page → HasCommit (f ∷ fs) → ⊥) × NoCopy page fs

-- the k-th of the frames, which are of length n and stand from byte 32 on, is the last instance of the page that is a commit or
-- is followed by one; it stands at `at`
pub record Copy (page n : ℕ) (fs : List Frame) (k at : ℕ) : Type 0 where
  pub before : List Frame
  pub frame : Frame
  pub after : List Frame
  pub split : fs ≡ before ++ frame ∷ after
  pub number : length before + 1 ≡ k
  pub place : at ≡ 32 + length before * n
  pub holds : frame.page ≡ page
  pub commits : HasCommit (frame ∷ after)
  pub last : NoCopy page after

-- the answer for a log with these valid frames
abbrev pub ReadsAs : (page n : ℕ) → List Frame → Result (Option FoundFrame) OtherLog → Type 0
ReadsAs page n fs (Err other) = ⊥
ReadsAs page n fs (Ok None) = NoCopy page fs
ReadsAs page n fs (Ok (Some f)) = Copy page n fs f.number f.offset
