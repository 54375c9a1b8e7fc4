-- The last commit of a log's own summary is the last valid frame that has a size: no valid frame after it has one. Each
-- frame that the scan counts keeps that true.
use mathlib.Core.Path.{◌≡◌, refl, ap, ◌∙◌, subst}
use mathlib.Core.Bool.{Bool, true, false, cond}
use mathlib.Core.List.{List, [], ◌∷◌, ◌++◌, append_assoc, append-nil}
use Prim.Native.Nat.{ℕ, ◌+◌}
use native.Mathlib.Omega.{arith}
use Rattle.std.specs.Prelude.{Option, Some, None}
use lib.Dec.{eqb}
use lib.ListN.{length, length-append}
use lib.Seq.{append_snoc}
use borrow.Author.Tests.{eqb-true, eqb-false}
use Rattle.wal_header.specs.declared.header.Header.{Header}
use Rattle.wal_frame.specs.declared.frame.Frame.{Frame}
use Rattle.wal_frames.specs.declared.scanning.Commit.{Commit}
use Rattle.wal_frames.specs.declared.scanning.Summary.{Summary}
use Rattle.wal_frames.specs.Scan.{frames_in, start_of, counted, tally, scan_of}
use Rattle.wal.specs.Committed.{NoCommit, LastCommit, LastIs}

-- ── one frame more ───────────────────────────────────────────────────────────
no_commit_more : (fs : List Frame) (f : Frame) → NoCommit fs → f.commit ≡ 0 → NoCommit (fs ++ f ∷ [])
no_commit_more [] f g e = (e, tt)
no_commit_more (x ∷ fs) f g e = (g.0, no_commit_more fs f g.1 e)

-- a frame that is no commit changes nothing
last_kept : (c : Option Commit) (fs : List Frame) (f : Frame) → LastIs c fs → f.commit ≡ 0 → LastIs c (fs ++ f ∷ [])
last_kept None fs f g e = no_commit_more fs f g e
last_kept (Some c) fs f g e = record {
  before = g.before;
  frame = g.frame;
  after = g.after ++ f ∷ [];
  split = ap (λ (l : List Frame). l ++ f ∷ []) g.split ∙ append_assoc g.before (g.frame ∷ g.after) (f ∷ []);
  number = g.number;
  sized = g.sized;
  some = g.some;
  none = no_commit_more g.after f g.none e;
}

-- and one that is a commit is the last
last_moved : (fs : List Frame) (f : Frame) → (f.commit ≡ 0 → ⊥) → LastCommit (fs ++ f ∷ []) (length fs + 1) f.commit
last_moved fs f some = record {
  before = fs;
  frame = f;
  after = [];
  split = refl;
  number = refl;
  sized = refl;
  some = some;
  none = tt;
}

-- ── all frames ───────────────────────────────────────────────────────────────
last_tally : (read : List Frame) (s : Summary) (fs : List Frame) → s.frames ≡ length read → LastIs s.last read
    → LastIs (tally s fs).last (read ++ fs)
unfolding tally counted
last_tally read s [] e g = rw append-nil g
last_tally read s (f ∷ fs) e g =
    let one : s.frames + 1 ≡ length (read ++ f ∷ []) = rw length-append (omega arith) in
    rw append_snoc at (last_tally (read ++ f ∷ []) (counted s f) fs one (go (eqb f.commit 0) refl))
  where
    go : (t : Bool) → eqb f.commit 0 ≡ t → LastIs (cond t s.last (Some (record { frame = s.frames + 1; pages = f.commit }))) (read ++ f ∷ [])
    go true z = last_kept s.last read f g (eqb-true f.commit 0 z)
    go false z = rw e (last_moved read f (eqb-false f.commit 0 z))

module _ (h : Header) (b : List ℕ) where
  pub own_last : LastIs (scan_of h b).last (frames_in h b)
  own_last = last_tally [] (start_of h) (frames_in h b) refl tt

  pub last_is_commit : {c : Commit} → (scan_of h b).last ≡ Some c → LastCommit (frames_in h b) c.frame c.pages
  last_is_commit e = subst (λ (c : Option Commit). LastIs c (frames_in h b)) e own_last

  pub none_is_commit : (scan_of h b).last ≡ None → NoCommit (frames_in h b)
  none_is_commit e = subst (λ (c : Option Commit). LastIs c (frames_in h b)) e own_last
