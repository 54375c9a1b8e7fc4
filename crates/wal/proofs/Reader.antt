-- The document's section 4.5, word by word, with the summary that a scan gave: 'the last valid instance of page P that is
-- followed by a commit frame or is a commit frame itself becomes the value read. If the WAL contains no copies of page P that
-- are valid and which are a commit frame or are followed by a commit frame, then page P is read from the database file.'
-- For the frames up to the last commit are exactly those that are commits or are followed by one.
use mathlib.Core.Path.{◌≡◌, refl, sym, ap, ◌∙◌, subst}
use mathlib.Core.Bool.{Bool, true, false, cond}
use mathlib.Core.List.{List, [], ◌∷◌, ◌++◌, append_assoc}
use mathlib.Core.Logic.{inl, inr}
use Prim.Native.Nat.{ℕ, suc, ◌+◌, ◌*◌, ◌≤◌}
use native.Mathlib.Omega.{arith}
use Rattle.std.specs.Prelude.{Option, Some, None, Ok}
use lib.Dec.{eqb}
use lib.ListN.{length, take, length-append}
use lib.Seq.{append_snoc, take_at}
use borrow.Author.Tests.{eqb-true, eqb-false}
use Rattle.wal_header.specs.declared.header.Header.{Header}
use Rattle.wal_frame.specs.declared.frame.Frame.{Frame}
use Rattle.wal_frame.specs.Frame.{frame_length}
use Rattle.wal_frames.specs.declared.scanning.Commit.{Commit}
use Rattle.wal_frames.specs.declared.scanning.Summary.{Summary}
use Rattle.wal_frames.specs.Scan.{frames_in, scan_of, scanned}
use Rattle.wal.specs.declared.find.FoundFrame.{FoundFrame}
use Rattle.wal.specs.Reading.{committed, newer, newest, found}
use Rattle.wal.proofs.Placed.{own_found, scan_own}
use Rattle.wal.specs.Committed.{NoCommit, LastIs, HasCommit, NoCopy, ReadsAs}
use Rattle.wal.proofs.LastCommit.{own_last}

-- ── the newest of some frames ────────────────────────────────────────────────
-- none of the frames holds the page
abbrev NoPage : (page : ℕ) → List Frame → Type 0
NoPage page [] = Unit
NoPage page (f ∷ fs) = (f.page ≡ page → ⊥) × NoPage page fs

-- the k-th does, and none after it; `number` frames stand before the first
record NewestAt (page n number at : ℕ) (fs : List Frame) (k place : ℕ) : Type 0 where
  before : List Frame
  frame : Frame
  after : List Frame
  split : fs ≡ before ++ frame ∷ after
  number_is : number + length before + 1 ≡ k
  place_is : place ≡ at + length before * n
  holds : frame.page ≡ page
  none : NoPage page after

abbrev NewestIs : (page n number at : ℕ) → List Frame → Option FoundFrame → Type 0
NewestIs page n number at fs None = NoPage page fs
NewestIs page n number at fs (Some f) = NewestAt page n number at fs f.number f.offset

module _ (page n : ℕ) where
  newest_is : (number at : ℕ) (fs : List Frame) → NewestIs page n number at fs (newest page n number at fs)
  unfolding newest
  newest_is number at [] = tt
  newest_is number at (f ∷ fs) = later (newest page n (suc number) (at + n) fs) (newest_is (suc number) (at + n) fs)
    where
      this : (t : Bool) → eqb f.page page ≡ t → NoPage page fs
          → NewestIs page n number at (f ∷ fs) (cond t (Some (record { number = suc number; offset = at })) None)
      this true e none = record {
        before = [];
        frame = f;
        after = fs;
        split = refl;
        number_is = omega arith;
        place_is = omega arith;
        holds = eqb-true f.page page e;
        none = none;
      }
      this false e none = (eqb-false f.page page e, none)

      later : (r : Option FoundFrame) → NewestIs page n (suc number) (at + n) fs r
          → NewestIs page n number at (f ∷ fs) (newer r (cond (eqb f.page page) (Some (record { number = suc number; offset = at })) None))
      later None g = this (eqb f.page page) refl g
      later (Some found) g = record {
        before = f ∷ g.before;
        frame = g.frame;
        after = g.after;
        split = ap (λ (l : List Frame). f ∷ l) g.split;
        number_is = omega (arith, g.number_is);
        place_is = omega (arith, g.place_is);
        holds = g.holds;
        none = g.none;
      }

-- ── frames that end in a commit ──────────────────────────────────────────────
abbrev Ends : List Frame → Type 0
Ends [] = ⊥
Ends (f ∷ []) = f.commit ≡ 0 → ⊥
Ends (f ∷ g ∷ fs) = Ends (g ∷ fs)

ends_last : (fs : List Frame) (f : Frame) → (f.commit ≡ 0 → ⊥) → Ends (fs ++ f ∷ [])
ends_last [] f some = some
ends_last (x ∷ []) f some = some
ends_last (x ∷ y ∷ fs) f some = ends_last (y ∷ fs) f some

ends_from : (fs : List Frame) (f : Frame) (gs : List Frame) → Ends (fs ++ f ∷ gs) → Ends (f ∷ gs)
ends_from [] f gs e = e
ends_from (x ∷ []) f gs e = e
ends_from (x ∷ y ∷ fs) f gs e = ends_from (y ∷ fs) f gs e

ends_commit : (f : Frame) (fs after : List Frame) → Ends (f ∷ fs) → HasCommit (f ∷ (fs ++ after))
ends_commit f [] after e = inl e
ends_commit f (g ∷ fs) after e = inr (ends_commit g fs after e)

-- ── no copy ──────────────────────────────────────────────────────────────────
no_commit_has : (fs : List Frame) → NoCommit fs → HasCommit fs → ⊥
no_commit_has [] g c = c
no_commit_has (f ∷ fs) g (inl some) = some g.0
no_commit_has (f ∷ fs) g (inr c) = no_commit_has fs g.1 c

module _ (page : ℕ) where
  no_commit_copy : (fs : List Frame) → NoCommit fs → NoCopy page fs
  no_commit_copy [] g = tt
  no_commit_copy (f ∷ fs) g = ((λ _ c. no_commit_has (f ∷ fs) g c), no_commit_copy fs g.1)

  -- the page is in none of the first frames, and the others are after the last commit
  no_page_copy : (fs after : List Frame) → NoPage page fs → NoCommit after → NoCopy page (fs ++ after)
  no_page_copy [] after g none = no_commit_copy after none
  no_page_copy (f ∷ fs) after g none = ((λ holds _. g.0 holds), no_page_copy fs after g.1 none)

  -- ── the answer ─────────────────────────────────────────────────────────────
  module _ (n : ℕ) where
    newest_reads : (upto after : List Frame) → Ends upto → NoCommit after
        → (r : Option FoundFrame) → NewestIs page n 0 32 upto r → ReadsAs page n (upto ++ after) (Ok r)
    newest_reads upto after ends none None g = no_page_copy upto after g none
    newest_reads upto after ends none (Some f) g =
        let Ends-there = ends_from g.before g.frame g.after (subst Ends g.split ends) in
        record {
          before = g.before;
          frame = g.frame;
          after = g.after ++ after;
          split = ap (λ (l : List Frame). l ++ after) g.split ∙ append_assoc g.before (g.frame ∷ g.after) after;
          number = omega (arith, g.number_is);
          place = g.place_is;
          holds = g.holds;
          commits = ends_commit g.frame g.after after Ends-there;
          last = no_page_copy g.after after g.none none;
        }

    last_reads : (fs : List Frame) (c : Option Commit) → LastIs c fs → ReadsAs page n fs (Ok (newest page n 0 32 (take (committed c) fs)))
    unfolding newest
    last_reads fs None g = no_commit_copy fs g
    last_reads fs (Some c) g =
        let upto = g.before ++ g.frame ∷ [] in
        let whole : upto ++ g.after ≡ fs = append_snoc g.before g.frame g.after ∙ sym g.split in
        let long : length upto ≡ c.frame = length-append g.before (g.frame ∷ []) ∙ g.number in
        let part : take c.frame fs ≡ upto = ap (λ (l : List Frame). take c.frame l) (sym whole) ∙ take_at upto g.after c.frame long in
        let some : g.frame.commit ≡ 0 → ⊥ = λ z. g.some (sym g.sized ∙ z) in
        let ends = ends_last g.before g.frame some in
        let reads = newest_reads upto g.after ends g.none (newest page n 0 32 upto) (newest_is page n 0 32 upto) in
        rw part (subst (λ (l : List Frame). ReadsAs page n l (Ok (newest page n 0 32 upto))) whole reads)

-- of a log with this header
pub own_reads : (h : Header) (b : List ℕ) → 32 ≤ length b → (page : ℕ)
    → ReadsAs page (frame_length h) (frames_in h b) (found page (scan_of h b) b)
own_reads h b long page =
    rw (own_found h b long page) (last_reads page (frame_length h) (frames_in h b) (scan_of h b).last (own_last h b))

-- of any log, with the summary that its scan gave
pub scan_reads : (b : List ℕ) {s : Summary} → scanned b ≡ Ok s → (page : ℕ)
    → ReadsAs page (frame_length s.header) (frames_in s.header b) (found page s b)
scan_reads b {s} e page =
    let own = scan_own b e in
    let h = own.header in
    let reads = own_reads h b own.long page in
    subst (λ (k : Header). ReadsAs page (frame_length k) (frames_in k b) (found page s b)) own.headed
    (subst (λ (t : Summary). ReadsAs page (frame_length h) (frames_in h b) (found page t b)) (sym own.is) reads)
