-- A frame depends on the log's bytes from its first to its last and on no others.
use mathlib.Core.Path.{◌≡◌, ◌∙◌}
use mathlib.Core.List.{List}
use Prim.Native.Nat.{ℕ, ◌+◌, ◌-◌, ◌≤◌}
use native.Mathlib.Omega.{arith}
use lib.ListN.{length, take, drop, length-drop}
use lib.Seq.{get_or-take, length-take-le}
use borrow.Author.Tests.{le-leb}
use Rattle.wal_checksum.specs.declared.sums.Sums.{Sums}
use Rattle.wal_checksum.proofs.Agreeing.{Agree, agree_number, agree_checksum}
use Rattle.wal_checksum.proofs.Shifting.{part_number, part_checksum}
use Rattle.wal_header.specs.declared.header.Header.{Header}
use Rattle.wal_frame.specs.Frame.{frame_length, frame_at, salted, sums_after, valid, next_at}

-- ── the same bytes ───────────────────────────────────────────────────────────
module _ (h : Header) {k : ℕ} {b c : List ℕ} (same : Agree k b c) where
  pub same_frame : (at : ℕ) → at + 24 ≤ k → frame_at b at ≡ frame_at c at
  unfolding frame_at
  same_frame at within =
      rw (
        agree_number same at (omega arith),
        agree_number same (at + 4) (omega arith),
        agree_number same (at + 16) (omega arith),
        agree_number same (at + 16 + 4) (omega arith),
      )

  same_sums_lem : (at : ℕ) (s : Sums) → at + frame_length h ≤ k → sums_after h b at s ≡ sums_after h c at s
  unfolding sums_after
  same_sums_lem at s within =
      rw (agree_checksum same h.big at 1 s (omega arith))
      (agree_checksum same h.big (at + 24) _ _ (omega arith))

  -- a frame within the bytes that are the same is valid in both logs or in none
  pub same_valid : (at : ℕ) (s : Sums) → at + frame_length h ≤ k → k ≤ length b → k ≤ length c → valid h b at s ≡ valid h c at s
  unfolding valid salted
  same_valid at s within long long' =
      rw (
        le-leb (at + frame_length h) (length b) (omega arith),
        le-leb (at + frame_length h) (length c) (omega arith),
        agree_number same (at + 8) (omega arith),
        agree_number same (at + 12) (omega arith),
        same_sums_lem at s within,
        same_frame at (omega arith),
      )

-- ── a part of the log ────────────────────────────────────────────────────────
module _ (h : Header) (b : List ℕ) (at : ℕ) (s : Sums) (whole : at + frame_length h ≤ length b) where
  part_length : length (drop at b) ≡ length b - at
  part_length = length-drop at b

  part_frame : frame_at (drop at b) 0 ≡ frame_at b at
  unfolding frame_at
  part_frame =
      rw (
        part_number b at 0 at (omega arith),
        part_number b at 4 (at + 4) (omega arith),
        part_number b at 16 (at + 16) (omega arith),
        part_number b at 20 (at + 16 + 4) (omega arith),
      )

  part_valid : valid h (drop at b) 0 s ≡ valid h b at s
  unfolding valid salted sums_after
  part_valid =
      rw (
        le-leb (0 + frame_length h) (length (drop at b)) (omega (arith, part_length)),
        le-leb (at + frame_length h) (length b) whole,
        part_number b at 8 (at + 8) (omega arith),
        part_number b at 12 (at + 12) (omega arith),
        part_checksum b at h.big 0 at 1 s (omega arith),
        part_checksum b at h.big 24 (at + 24) _ _ (omega arith),
        part_frame,
      )

  -- a frame that is cut out of the log is as valid as in its place: a log can be read piece by piece
  pub piece_next : next_at h (take (frame_length h) (drop at b)) 0 s ≡ next_at h b at s
  piece_next =
      let long : frame_length h ≤ length (drop at b) = omega (arith, part_length) in
      let size : length (take (frame_length h) (drop at b)) ≡ frame_length h = length-take-le (frame_length h) (drop at b) long in
      let same : Agree (frame_length h) (take (frame_length h) (drop at b)) (drop at b) =
      record { byte = λ i below. get_or-take (frame_length h) (drop at b) i 0 below } in
      rw (same_valid h same 0 s (omega arith) (omega arith) long ∙ part_valid, same_frame h same 0 (omega arith) ∙ part_frame)
