-- A frame depends on the log's bytes up to its own end and on no others. So a log that is cut at any byte after its header keeps
-- exactly the valid frames that lie wholly before the cut, what comes after the first bad frame does not matter, and a log that
-- grows keeps its frames.
use mathlib.Core.Path.{◌≡◌, refl, sym, ap, ◌∙◌}
use mathlib.Core.Bool.{Bool, true, false}
use mathlib.Core.List.{List, [], ◌∷◌, ◌++◌}
use Prim.Native.Nat.{ℕ, zero, suc, ◌+◌, ◌*◌, ◌≤◌, ◌<◌}
use native.Mathlib.Omega.{arith}
use Rattle.std.specs.Prelude.{Ok}
use lib.Dec.{leb}
use lib.ListN.{length, take, length-append, get_or-append}
use lib.Seq.{get_or-take, length-take-le}
use borrow.Author.Tests.{leb-true, leb-false, le-leb, lt-leb, le-ltb}
use Rattle.wal_checksum.specs.declared.sums.Sums.{Sums}
use Rattle.wal_checksum.proofs.Agreeing.{Agree, agree_number, agree_checksum}
use Rattle.wal_header.specs.Header.{is_big, header_sums, header_of, opened}
use Rattle.wal_frame.specs.Frame.{frame_length, frame_at, valid}
use Rattle.wal_frames.specs.Scan.{frames, frames_in, start_of, tally, scanned}
use Rattle.wal_frames.specs.Cut.{whole_before}
use Rattle.wal_header.specs.declared.header.Header.{Header}
use Rattle.wal_frame.specs.declared.frame.Frame.{Frame}
use Rattle.wal_frame.proofs.Framing.{cut_off}
use Rattle.wal_frame.proofs.Depending.{same_frame, same_valid}
use Rattle.wal_frames.proofs.Turns.{frames_end, scanned_read}

-- ── what a header and a frame depend on ──────────────────────────────────────
-- the first 32 bytes decide how a log is opened
pub same_header : {b c : List ℕ} → Agree 32 b c → 32 ≤ length b → 32 ≤ length c → opened b ≡ opened c
unfolding opened header_of header_sums
same_header {b} {c} same long long' =
    rw (
      le-ltb (length b) 32 long,
      le-ltb (length c) 32 long',
      agree_number same 0 (omega arith),
      agree_number same 4 (omega arith),
      agree_number same 8 (omega arith),
      agree_number same 12 (omega arith),
      agree_number same 16 (omega arith),
      agree_number same 20 (omega arith),
      agree_number same 24 (omega arith),
      agree_number same 28 (omega arith),
      agree_checksum same (is_big _) 0 3 _ (omega arith),
    )

-- ── the cut ──────────────────────────────────────────────────────────────────
none_before : (cut n at : ℕ) (fs : List Frame) → cut < at + n → whole_before cut n at fs ≡ []
unfolding whole_before
none_before cut n at [] past = refl
none_before cut n at (f ∷ fs) past = rw (lt-leb (at + n) cut past) (none_before cut n (at + n) fs (omega arith))

-- from a place on; c is b, cut
module _ (h : Header) {b c : List ℕ} (same : Agree (length c) b c) (longer : length c ≤ length b) where
  -- as many as there may be in b and in c
  Cut : (most fewer at : ℕ) (s : Sums) → Type 0
  Cut most fewer at s = frames h c fewer at s ≡ whole_before (length c) (frame_length h) at (frames h b most at s)

  -- a frame that the cut left whole
  cut_whole : (most fewer at : ℕ) (s : Sums) → length c ≤ at + fewer → at + frame_length h ≤ length c
      → ((rest : ℕ) (t : Sums) → length c ≤ at + frame_length h + rest → Cut most rest (at + frame_length h) t) → Cut (suc most) fewer at s
  unfolding Cut frames whole_before
  cut_whole most zero at s enough within onwards = absurd (omega arith)
  cut_whole most (suc rest) at s enough within onwards = go (valid h b at s) refl
    where
      equal : valid h c at s ≡ valid h b at s
      equal = sym (same_valid h same at s within longer (omega arith))

      go : (t : Bool) → valid h b at s ≡ t → Cut (suc most) (suc rest) at s
      go false bad = rw (equal ∙ bad, bad)
      go true good =
          rw (equal ∙ good, good, same_frame h same at (omega arith), le-leb (at + frame_length h) (length c) within)
          (ap (λ (fs : List Frame). frame_at c at ∷ fs) (onwards rest (frame_at c at).sums (omega arith)))

  cut_from : (most fewer at : ℕ) (s : Sums) → length b ≤ at + most → length c ≤ at + fewer → Cut most fewer at s
  unfolding Cut frames whole_before
  cut_from zero fewer at s enough enough' = frames_end h c fewer at s (cut_off h c at s (omega arith))
  cut_from (suc most) fewer at s enough enough' =
      go (leb (at + frame_length h) (length c)) refl (λ rest t left. cut_from most rest (at + frame_length h) t (omega arith) left)
    where
      go : (t : Bool) → leb (at + frame_length h) (length c) ≡ t
          → ((rest : ℕ) (t : Sums) → length c ≤ at + frame_length h + rest → Cut most rest (at + frame_length h) t)
          → Cut (suc most) fewer at s
      go true is onwards = cut_whole most fewer at s enough' (leb-true (at + frame_length h) (length c) is) onwards
      go false past onwards =
          let beyond : length c < at + frame_length h = leb-false (at + frame_length h) (length c) past in
          frames_end h c fewer at s (cut_off h c at s beyond) ∙ sym (none_before (length c) (frame_length h) at (frames h b (suc most) at s) beyond)

  cut_frames : frames_in h c ≡ whole_before (length c) (frame_length h) 32 (frames_in h b)
  unfolding Cut
  cut_frames = cut_from (length b) (length c) 32 h.sums (omega arith) (omega arith)

-- 'For a log cut at any byte after its header, the scan gives exactly those of the full log's valid frames that lie wholly before
-- the cut.'
module _ (b : List ℕ) (cut : ℕ) (within : cut ≤ length b) (after_header : 32 ≤ cut) where
  cut_agrees : Agree (length (take cut b)) b (take cut b)
  cut_agrees = record { byte = λ i below. sym (get_or-take cut b i 0 (omega (arith, length-take-le cut b within))) }

  pub cut_opened : opened (take cut b) ≡ opened b
  cut_opened =
      let long : length (take cut b) ≡ cut = length-take-le cut b within in
      same_header (record { byte = λ i below. get_or-take cut b i 0 (omega arith) }) (omega arith) (omega arith)

  pub cut_keeps : (h : Header) → frames_in h (take cut b) ≡ whole_before cut (frame_length h) 32 (frames_in h b)
  cut_keeps h =
      let long : length (take cut b) ≡ cut = length-take-le cut b within in
      cut_frames h cut_agrees (omega arith) ∙ ap (λ (k : ℕ). whole_before k (frame_length h) 32 (frames_in h b)) long

  -- and so the whole answer: the same header, and those frames counted
  pub cut_scan : {h : Header} → opened b ≡ Ok h
      → scanned (take cut b) ≡ Ok (tally (start_of h) (whole_before cut (frame_length h) 32 (frames_in h b)))
  cut_scan {h} is = sym (scanned_read (take cut b) (cut_opened ∙ is) (sym (ap (λ (fs : List Frame). tally (start_of h) fs) (cut_keeps h))))

-- ── what comes after ─────────────────────────────────────────────────────────
-- a log that grows keeps its frames, and more may follow
prefix : (cut n at : ℕ) (fs : List Frame) → (rest : List Frame) × (fs ≡ whole_before cut n at fs ++ rest)
unfolding whole_before
prefix cut n at [] = ([], refl)
prefix cut n at (f ∷ fs) = go (leb (at + n) cut) refl (prefix cut n (at + n) fs)
  where
    go : (t : Bool) → leb (at + n) cut ≡ t → ((rest : List Frame) × (fs ≡ whole_before cut n (at + n) fs ++ rest))
        → (rest : List Frame) × (f ∷ fs ≡ whole_before cut n at (f ∷ fs) ++ rest)
    go true is onwards = (onwards.0, rw is (ap (λ (x : List Frame). f ∷ x) onwards.1))
    go false past onwards =
        let beyond : cut < at + n = leb-false (at + n) cut past in
        (f ∷ fs, rw (past, none_before cut n (at + n) fs (omega arith)))

pub grown_keeps : (h : Header) (b more : List ℕ) → (rest : List Frame) × (frames_in h (b ++ more) ≡ frames_in h b ++ rest)
grown_keeps h b more =
    let agree : Agree (length b) (b ++ more) b = record { byte = λ i below. get_or-append b more 0 i below } in
    let kept : frames_in h b ≡ whole_before (length b) (frame_length h) 32 (frames_in h (b ++ more)) =
    cut_frames h agree (omega (arith, length-append b more)) in
    let all = prefix (length b) (frame_length h) 32 (frames_in h (b ++ more)) in
    (all.0, rw kept all.1)

-- the first bad frame ends the scan: whatever follows it may be anything
module _ (h : Header) {k : ℕ} {b c : List ℕ} (same : Agree k b c) (long : k ≤ length b) (long' : k ≤ length c) where
  ends_from : (most other at : ℕ) (s : Sums) → length c ≤ at + other
      → at + length (frames h b most at s) * frame_length h + frame_length h ≤ k → length b ≤ at + most
      → frames h c other at s ≡ frames h b most at s
  unfolding frames
  ends_from zero other at s enough' fits enough = absurd (omega arith)
  ends_from (suc most) zero at s enough' fits enough = absurd (omega arith)
  ends_from (suc most) (suc other) at s enough' fits enough =
      go (valid h b at s) refl fits (λ t onwards. ends_from most other (at + frame_length h) t (omega arith) onwards (omega arith))
    where
      equal : valid h c at s ≡ valid h b at s
      equal = sym (same_valid h same at s (omega arith) long long')

      go : (t : Bool) → valid h b at s ≡ t → at + length (frames h b (suc most) at s) * frame_length h + frame_length h ≤ k
          → ((t : Sums) → at + frame_length h + length (frames h b most (at + frame_length h) t) * frame_length h + frame_length h ≤ k
          → frames h c other (at + frame_length h) t ≡ frames h b most (at + frame_length h) t)
          → frames h c (suc other) at s ≡ frames h b (suc most) at s
      go false bad fits onwards = rw (equal ∙ bad, bad)
      go true good fits onwards =
          let room = rw (good, same_frame h same at (omega arith)) at fits in
          rw (equal ∙ good, good, same_frame h same at (omega arith))
          (ap (λ (fs : List Frame). frame_at c at ∷ fs) (onwards (frame_at c at).sums (omega (arith, room))))

-- b and c are the same up to the end of b's first bad frame
pub bad_frame_ends : (h : Header) {b c : List ℕ} {bad_end : ℕ} → bad_end ≡ 32 + length (frames_in h b) * frame_length h + frame_length h
    → bad_end ≤ length b → bad_end ≤ length c → Agree bad_end b c → frames_in h c ≡ frames_in h b
bad_frame_ends h {b} {c} is long long' same =
    ends_from h same long long' (length b) (length c) 32 h.sums (omega arith) (omega arith) (omega arith)

pub bad_frame_scan : {h : Header} {b c : List ℕ} {bad_end : ℕ} → opened b ≡ Ok h
    → bad_end ≡ 32 + length (frames_in h b) * frame_length h + frame_length h → bad_end ≤ length b → bad_end ≤ length c → Agree bad_end b c
    → scanned c ≡ scanned b
bad_frame_scan {h} {b} {c} is ends long long' same =
    let header : opened c ≡ opened b =
    sym (same_header (record { byte = λ i below. same.byte i (omega arith) }) (omega arith) (omega arith)) in
    let frames_are : frames_in h c ≡ frames_in h b = bad_frame_ends h ends long long' same in
    sym (scanned_read c (header ∙ is) refl) ∙ ap (λ (fs : List Frame). Ok (tally (start_of h) fs)) frames_are ∙ scanned_read b is refl
