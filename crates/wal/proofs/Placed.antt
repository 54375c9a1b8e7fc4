-- A log's own summary: the valid frames stand one after another from byte 32 on, and the summary counts them. So with the
-- summary that a scan gave, all valid frames are listed, and a page is looked for in those up to the last commit; that the
-- summary is of another log is never the answer.
use mathlib.Core.Path.{◌≡◌, refl, sym, ap, ◌∙◌, subst}
use mathlib.Core.Bool.{Bool, true, false, cond, ◌||◌}
use mathlib.Core.List.{List, [], ◌∷◌, ◌++◌, map}
use Prim.Native.Nat.{ℕ, zero, suc, ◌+◌, ◌*◌, ◌≤◌}
use native.Mathlib.Nat.{mul-le-mul_right}
use native.Mathlib.Omega.{arith}
use Rattle.std.specs.Prelude.{Some, Result, Ok, Err}
use lib.Dec.{eqb, ltb}
use lib.ListN.{length, take, drop}
use borrow.Author.Tests.{le-leb, le-ltb}
use Rattle.wal_checksum.specs.declared.sums.Sums.{Sums}
use Rattle.wal_header.specs.declared.header.Header.{Header}
use Rattle.wal_header.specs.declared.header.Fault.{Fault}
use Rattle.wal_header.specs.Header.{opened}
use Rattle.wal_header.proofs.Opening.{opened_long}
use Rattle.wal_frame.specs.declared.frame.Frame.{Frame}
use Rattle.wal_frame.specs.Frame.{frame_length, frame_at, valid}
use Rattle.wal_frame.proofs.Framing.{valid_whole}
use Rattle.wal_frames.specs.declared.scanning.Summary.{Summary}
use Rattle.wal_frames.specs.Scan.{frames, frames_in, start_of, counted, tally, scan_of, scanned_as, scanned}
use Rattle.wal.specs.declared.list.ListError.{ListError}
use Rattle.wal.specs.declared.list.ListError.TheVariants as refused
use Rattle.wal.specs.Reading.{reaches, placed, committed, newest, found, listed, ListsFrames}

-- ── where the valid frames stand ─────────────────────────────────────────────
module _ (h : Header) (b : List ℕ) where
  frames_placed : (most at : ℕ) (s : Sums)
      → placed (frame_length h) b (length (frames h b most at s)) at ≡ frames h b most at s
  unfolding frames placed
  frames_placed zero at s = refl
  frames_placed (suc most) at s = go (valid h b at s) (frames_placed most (at + frame_length h) (frame_at b at).sums)
    where
      go : {rest : List Frame} (t : Bool) → placed (frame_length h) b (length rest) (at + frame_length h) ≡ rest
          → placed (frame_length h) b (length (cond t (frame_at b at ∷ rest) [])) at ≡ cond t (frame_at b at ∷ rest) []
      go true e = ap (λ (fs : List Frame). frame_at b at ∷ fs) e
      go false e = refl

  -- they are what stands there
  pub own_frames : placed (frame_length h) b (length (frames_in h b)) 32 ≡ frames_in h b
  own_frames = frames_placed (length b) 32 h.sums

  frames_within : (most at : ℕ) (s : Sums) → at ≤ length b → at + length (frames h b most at s) * frame_length h ≤ length b
  unfolding frames
  frames_within zero at s le = omega arith
  frames_within (suc most) at s le = go _ (valid h b at s) refl (frames_within most (at + frame_length h) (frame_at b at).sums)
    where
      go : (rest : List Frame) (t : Bool) → valid h b at s ≡ t
          → (at + frame_length h ≤ length b → at + frame_length h + length rest * frame_length h ≤ length b)
          → at + length (cond t (frame_at b at ∷ rest) []) * frame_length h ≤ length b
      go rest true e within = omega (arith, within (valid_whole h b at s e))
      go rest false e within = omega arith

-- ── what the summary counts ──────────────────────────────────────────────────
tally_header : (s : Summary) (fs : List Frame) → (tally s fs).header ≡ s.header
unfolding tally counted
tally_header s [] = refl
tally_header s (f ∷ fs) = tally_header (counted s f) fs

tally_frames : (s : Summary) (fs : List Frame) → (tally s fs).frames ≡ s.frames + length fs
unfolding tally counted
tally_frames s [] = omega arith
tally_frames s (f ∷ fs) = tally_frames (counted s f) fs ∙ omega arith

tally_end : (s : Summary) (fs : List Frame) → (tally s fs).end ≡ s.end + length fs * frame_length s.header
unfolding tally counted
tally_end s [] = omega arith
tally_end s (f ∷ fs) = tally_end (counted s f) fs ∙ omega arith

tally_last : (s : Summary) (fs : List Frame) → committed s.last ≤ s.frames
    → committed (tally s fs).last ≤ s.frames + length fs
unfolding tally counted
tally_last s [] le = omega arith
tally_last s (f ∷ fs) le = omega (arith, tally_last (counted s f) fs (go (eqb f.commit 0)))
  where
    go : (t : Bool) → committed (cond t s.last (Some (record { frame = s.frames + 1; pages = f.commit }))) ≤ s.frames + 1
    go true = omega arith
    go false = omega arith

-- the summary's header is the log's, its frames and its end are those of the valid frames, and its last commit is one of them
pub record OwnSummary (h : Header) (b : List ℕ) (s : Summary) : Type 0 where
  pub header : s.header ≡ h
  pub frames : s.frames ≡ length (frames_in h b)
  pub end : s.end ≡ 32 + length (frames_in h b) * frame_length h
  pub last : committed s.last ≤ length (frames_in h b)

pub own_summary : (h : Header) (b : List ℕ) → OwnSummary h b (scan_of h b)
own_summary h b = record {
  header = tally_header (start_of h) (frames_in h b);
  frames = tally_frames (start_of h) (frames_in h b) ∙ omega arith;
  end = tally_end (start_of h) (frames_in h b);
  last = omega (arith, tally_last (start_of h) (frames_in h b) (omega arith));
}

-- ── what it is good for ──────────────────────────────────────────────────────
-- its frames lie within the log, and so do fewer
pub own_reaches : (h : Header) (b : List ℕ) → 32 ≤ length b → (count : ℕ) → count ≤ length (frames_in h b)
    → reaches (frame_length h) count b ≡ true
unfolding reaches
own_reaches h b long count few =
    le-leb (32 + count * frame_length h) (length b)
    (omega (arith, frames_within h b (length b) 32 h.sums long, mul-le-mul_right (frame_length h) few))

placed_take : (n : ℕ) (b : List ℕ) (k m at : ℕ) → k ≤ m → placed n b k at ≡ take k (placed n b m at)
unfolding placed
placed_take n b zero m at le = refl
placed_take n b (suc k) zero at le = absurd (omega arith)
placed_take n b (suc k) (suc m) at le =
    ap (λ (fs : List Frame). frame_at b at ∷ fs) (placed_take n b k m (at + n) (omega arith))

-- all valid frames are listed
pub record OwnListed (h : Header) (b pages sizes : List ℕ) (answer : Result ℕ ListError) (pages' sizes' : List ℕ) : Type 0 where
  pub told : answer ≡ Ok (length (frames_in h b))
  pub numbers : pages' ≡ map (λ f. f.page) (frames_in h b) ++ drop (length (frames_in h b)) pages
  pub commits : sizes' ≡ map (λ f. f.commit) (frames_in h b) ++ drop (length (frames_in h b)) sizes

module _ (h : Header) (b : List ℕ) (long : 32 ≤ length b) where
  -- a page is looked for in the valid frames up to the last commit
  pub own_found : (page : ℕ) → found page (scan_of h b) b
      ≡ Ok (newest page (frame_length h) 0 32 (take (committed (scan_of h b).last) (frames_in h b)))
  unfolding found
  own_found page =
      let own = own_summary h b in
      let count = committed (scan_of h b).last in
      let known = own_reaches h b long count own.last in
      let first = placed_take (frame_length h) b count (length (frames_in h b)) 32 own.last in
      let upto : placed (frame_length h) b count 32 ≡ take count (frames_in h b) = rw (own_frames h b) at first in
      rw (own.header, known, upto)

  -- all valid frames are to be listed
  own_answer : (pages sizes : ℕ) → listed (scan_of h b) b pages sizes
      ≡ cond (ltb pages (length (frames_in h b)) || ltb sizes (length (frames_in h b)))
      (Err refused.Short)
      (Ok (length (frames_in h b)))
  unfolding listed
  own_answer pages sizes =
      let own = own_summary h b in
      let known = own_reaches h b long (length (frames_in h b)) (omega arith) in
      rw (own.header, own.frames, known)

  pub own_known : (pages sizes : ℕ) → listed (scan_of h b) b pages sizes ≡ Err refused.OtherLog → ⊥
  own_known pages sizes other =
      go (ltb pages (length (frames_in h b)) || ltb sizes (length (frames_in h b))) (sym (own_answer pages sizes) ∙ other)
    where
      go : (t : Bool) → cond t (Err refused.Short) (Ok (length (frames_in h b))) ≡ Err refused.OtherLog → ⊥
      go true e = let z : ◌≡◌ {A = ℕ} 0 1 = cc in omega arith
      go false e = let z : ◌≡◌ {A = ℕ} 0 1 = cc in omega arith

  -- and with lists that are long enough they are
  pub own_listed : {pages sizes pages' sizes' : List ℕ} {answer : Result ℕ ListError}
      → ListsFrames (scan_of h b) b pages sizes answer pages' sizes'
      → length (frames_in h b) ≤ length pages → length (frames_in h b) ≤ length sizes
      → OwnListed h b pages sizes answer pages' sizes'
  own_listed {pages} {sizes} {answer = answer} g pages_room sizes_room =
      let own = own_summary h b in
      let numbered = le-ltb (length pages) (length (frames_in h b)) pages_room in
      let sized = le-ltb (length sizes) (length (frames_in h b)) sizes_room in
      let due = own_answer (length pages) (length sizes) in
      let done : answer ≡ Ok (length (frames_in h b)) = g.told ∙ due ∙ rw (numbered, sized) in
      record {
        told = done;
        numbers = rw (done, own.header, own_frames h b) at g.numbers;
        commits = rw (done, own.header, own_frames h b) at g.commits;
      }

-- ── what a scan gave ─────────────────────────────────────────────────────────
-- the log opens, and the summary is its own
pub record Own (b : List ℕ) (s : Summary) : Type 0 where
  pub header : Header
  pub opens : opened b ≡ Ok header
  pub long : 32 ≤ length b
  pub is : s ≡ scan_of header b
  pub headed : header ≡ s.header

pub scan_own : (b : List ℕ) {s : Summary} → scanned b ≡ Ok s → Own b s
scan_own b {s} e = go (opened b) refl e
  where
    go : (o : Result Header Fault) → opened b ≡ o → scanned_as o b ≡ Ok s → Own b s
    go (Err fault) is e = absurd (let z : ◌≡◌ {A = ℕ} 0 1 = cc in omega arith)
    go (Ok h) is e =
        let same : s ≡ scan_of h b = cc in
        let headed : h ≡ s.header = sym (ap (λ (t : Summary). t.header) same ∙ (own_summary h b).header) in
        record { header = h; opens = is; long = opened_long b is; is = same; headed = headed }

-- a listing knows it, and so does a search (`scan_reads` of proofs/Reader.antt)
pub scan_known : (b : List ℕ) {s : Summary} → scanned b ≡ Ok s
    → (pages sizes : ℕ) → listed s b pages sizes ≡ Err refused.OtherLog → ⊥
scan_known b e pages sizes other =
    let own = scan_own b e in
    let other' = subst (λ (t : Summary). listed t b pages sizes ≡ Err refused.OtherLog) own.is other in
    own_known own.header b own.long pages sizes other'

pub scan_lists : (b : List ℕ) {s : Summary} {pages sizes pages' sizes' : List ℕ} {answer : Result ℕ ListError} → scanned b ≡ Ok s
    → ListsFrames s b pages sizes answer pages' sizes' → s.frames ≤ length pages → s.frames ≤ length sizes
    → OwnListed s.header b pages sizes answer pages' sizes'
scan_lists b {s} {pages} {sizes} {pages'} {sizes'} {answer} e g pages_room sizes_room =
    let own = scan_own b e in
    let counts = own_summary own.header b in
    let count : s.frames ≡ length (frames_in own.header b) = ap (λ (t : Summary). t.frames) own.is ∙ counts.frames in
    let g' = subst (λ (t : Summary). ListsFrames t b pages sizes answer pages' sizes') own.is g in
    subst (λ (h : Header). OwnListed h b pages sizes answer pages' sizes') own.headed
    (own_listed own.header b own.long g' (omega arith) (omega arith))
