-- Each turn counts one valid frame more, and the first bad one ends the scan: what was counted, with the frames still to come, is
-- the whole.
use Rattle.std.proofs.Common.{◌≡◌, ℕ, zero, suc, ◌+◌, ◌-◌, ◌≤◌, ◌<◌, Bool, true, false, cond, List, [], length, eqb, Some, None, Ok, refl, sym, arith}
use Rattle.std.proofs.lemmas.Option.{cond_some, none-some}
use Rattle.wal_checksum.specs.declared.sums.Sums.{Sums}
use Rattle.wal_header.specs.Header.{opened}
use Rattle.wal_header.specs.declared.header.Header.{Header}
use Rattle.wal_frame.specs.Frame.{frame_length, frame_at, valid, next_at}
use Rattle.wal_frame.specs.declared.frame.Frame.{Frame}
use Rattle.wal_frame.proofs.Framing.{valid_whole}
use Rattle.wal_frames.specs.Scan.{frames, start_of, counted, tally, scan_of, scanned}
use Rattle.wal_frames.specs.declared.scanning.Summary.{Summary}

-- ── the next frame ───────────────────────────────────────────────────────────
-- there is none, or one that is valid
next_bad : (t : Bool) (f : Frame) → None ≡ cond t (Some f) None → t ≡ false
next_bad true f e = absurd (none-some f e)
next_bad false f e = refl

-- ── the scan ─────────────────────────────────────────────────────────────────
-- `s` was counted of a log with this header, and the rest is to come
pub record Reading (h : Header) (b : List ℕ) (s : Summary) : Type 0 where
  pub own : s.header ≡ h
  pub within : s.end ≤ length b
  pub few : s.frames ≤ s.end
  pub fewer : s.commits ≤ s.frames
  pub most : ℕ
  pub enough : length b ≤ s.end + most
  pub rest : tally s (frames s.header b most s.end s.sums) ≡ scan_of h b

-- a bad frame ends the frames, however many there may be
pub frames_end : (h : Header) (b : List ℕ) (most at : ℕ) (s : Sums) → valid h b at s ≡ false → frames h b most at s ≡ []
unfolding frames
frames_end h b zero at s bad = refl
frames_end h b (suc most) at s bad = rw bad

pub reading_none : {b : List ℕ} {h : Header} {s : Summary} → s ≡ start_of h → 32 ≤ length b → Reading h b s
reading_none {b} {h} {s} is long =
    rw is record { own = refl; within = long; few = omega arith; fewer = omega arith; most = length b; enough = omega arith; rest = refl }

-- at most every frame commits: one frame more, which commits or is a plain one
pub commits_few : (plain : Bool) (commits frames : ℕ) → commits ≤ frames → cond plain commits (commits + 1) ≤ frames + 1
commits_few true commits frames few = omega arith
commits_few false commits frames few = omega arith

module _ {h : Header} {b : List ℕ} {s : Summary} (r : Reading h b s) where
  pub reading_done : None ≡ next_at h b s.end s.sums → s ≡ scan_of h b
  unfolding tally
  reading_done none = rw (frames_end s.header b r.most s.end s.sums (next_bad _ _ (rw (← r.own) at none))) at r.rest

  module _ {f : Frame} (next : Some f ≡ next_at h b s.end s.sums) where
    next' : Some f ≡ next_at s.header b s.end s.sums
    next' = rw (← r.own) at next

    good : valid s.header b s.end s.sums ≡ true
    good = (cond_some _ _ _ (sym next')).0

    fits : s.end + frame_length s.header ≤ length b
    fits = valid_whole _ _ _ _ good

    module _ {after : Summary} (made : after ≡ counted s f) where
      pub reading_more : Reading h b after
      unfolding frames tally counted
      reading_more = rw (made, ← (cond_some _ _ _ (sym next')).1) (go r.most r.enough r.rest)
        where
          go : (most : ℕ) → length b ≤ s.end + most → tally s (frames s.header b most s.end s.sums) ≡ scan_of h b
              → Reading h b (counted s (frame_at b s.end))
          go zero enough rest = absurd (omega (arith, fits))
          go (suc most) enough rest = record {
            own = r.own;
            within = fits;
            few = omega (arith, r.few);
            fewer = commits_few (eqb (frame_at b s.end).commit 0) s.commits s.frames r.fewer;
            most = most;
            enough = omega arith;
            rest = rw good at rest;
          }

      -- a frame more has been read
      pub further : length b - after.end < length b - s.end
      unfolding counted
      further = rw made (omega (arith, fits))

-- a log whose header opens is read
pub scanned_read : (b : List ℕ) {h : Header} {s : Summary} → opened b ≡ Ok h → s ≡ scan_of h b → Ok s ≡ scanned b
scanned_read b is all = rw (is, all)
