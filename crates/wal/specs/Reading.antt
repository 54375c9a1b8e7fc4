-- Reading a log with the summary that a scan gave: the newest committed copy of a page (the document's section 4.5), and the
-- list of all frames. A summary whose frames reach past the end of the log is of another log.
use Rattle.std.specs.Prelude.{Bool, cond, ◌||◌, List, [], ◌∷◌, ◌++◌, map, ◌≡◌, ℕ, zero, suc, ◌+◌, ◌*◌, eqb, leb, ltb, length, drop, Option, Some, None, Result, Ok, Err}
use Rattle.wal_frame.specs.declared.frame.Frame.{Frame}
use Rattle.wal_frame.specs.Frame.{frame_length, frame_at}
use Rattle.wal_frames.specs.declared.scanning.Commit.{Commit}
use Rattle.wal_frames.specs.declared.scanning.Summary.{Summary}
use Rattle.wal.specs.declared.find.FoundFrame.{FoundFrame}
use Rattle.wal.specs.declared.find.OtherLog.{OtherLog}
use Rattle.wal.specs.declared.list.ListError.{ListError}
use Rattle.wal.specs.declared.list.ListError.TheVariants as refused

-- ── where frames stand ───────────────────────────────────────────────────────
-- `count` frames of length n, one after another from byte 32 on, lie within the log
unfoldable pub reaches : (n count : ℕ) → List ℕ → Bool
reaches n count b = leb (32 + count * n) (length b)

-- the `count` frames of length n that stand from a place on, valid or not
unfoldable pub placed : (n : ℕ) → List ℕ → (count at : ℕ) → List Frame
placed n b zero at = []
placed n b (suc count) at = frame_at b at ∷ placed n b count (at + n)

-- ── the newest committed copy of a page ──────────────────────────────────────
-- how many frames there are up to and with the last commit
abbrev pub committed : Option Commit → ℕ
committed None = 0
committed (Some c) = c.frame

-- the later of two findings, if there is one, and else this one
abbrev pub newer : (later this : Option FoundFrame) → Option FoundFrame
newer None this = this
newer (Some found) this = Some found

-- of some frames of length n, the last that holds the page. The first of them has number `number + 1` and stands at `at`
unfoldable pub newest : (page n number at : ℕ) → List Frame → Option FoundFrame
newest page n number at [] = None
newest page n number at (f ∷ fs) =
    newer (newest page n (suc number) (at + n) fs) (cond (eqb f.page page) (Some (record { number = suc number; offset = at })) None)

-- 'the last valid instance of page P that is followed by a commit frame or is a commit frame itself': the last of those up to
-- the last commit. `record {}` is an `OtherLog`, which has no fields
unfoldable pub found : (page : ℕ) → Summary → List ℕ → Result (Option FoundFrame) OtherLog
found page s b =
    let n = frame_length s.header in
    let count = committed s.last in
    cond (reaches n count b) (Ok (newest page n 0 32 (placed n b count 32))) (Err (record {}))

-- ── the list of all frames ───────────────────────────────────────────────────
-- the answer, for lists of `pages` and of `sizes` places
unfoldable pub listed : Summary → List ℕ → (pages sizes : ℕ) → Result ℕ ListError
listed s b pages sizes =
    cond (reaches (frame_length s.header) s.frames b)
    (cond (ltb pages s.frames || ltb sizes s.frames) (Err refused.Short) (Ok s.frames))
    (Err refused.OtherLog)

-- one number of each of the first `count` frames, in the first places of a list; the others keep their values
abbrev pub filled : (what : Frame → ℕ) (n : ℕ) → List ℕ → (count : ℕ) → List ℕ → List ℕ
filled what n b count list = map what (placed n b count 32) ++ drop count list

-- what a list holds after an answer
abbrev pub written : (what : Frame → ℕ) (n : ℕ) → List ℕ → Result ℕ ListError → List ℕ → List ℕ
written what n b (Err refusal) list = list
written what n b (Ok count) list = filled what n b count list

-- what came of a call: the lists were `pages` and `sizes`, and are `pages'` and `sizes'`
pub record ListsFrames (s : Summary) (b pages sizes : List ℕ) (answer : Result ℕ ListError) (pages' sizes' : List ℕ) : Type 0 where
  -- the answer is that of `listed`
  pub told : answer ≡ listed s b (length pages) (length sizes)
  -- the frames' page numbers and commit sizes are written, if the answer is that they are
  pub numbers : pages' ≡ written (λ f. f.page) (frame_length s.header) b answer pages
  pub commits : sizes' ≡ written (λ f. f.commit) (frame_length s.header) b answer sizes
