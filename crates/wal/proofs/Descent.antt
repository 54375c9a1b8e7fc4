-- A search that goes down: the last of some frames that holds the page is the topmost, if that one does, and otherwise the
-- last of those below it that does.
use Rattle.std.proofs.Common.{◌≡◌, ℕ, zero, suc, ◌+◌, ◌*◌, ◌-◌, ◌≤◌, ◌<◌, Bool, true, false, cond, List, length, eqb, Option, Some, None, Result, Ok, refl, sym, ap, ◌∙◌, add-one, arith}
use Rattle.std.proofs.lemmas.Bool.{eq-eqb, ne_eqb}
use Rattle.wal_checksum.specs.Checksum.{big_endian}
use Rattle.wal_frame.specs.Frame.{frame_length, frame_at}
use Rattle.wal.specs.declared.find.FoundFrame.{FoundFrame}
use Rattle.wal_frames.specs.declared.scanning.Summary.{Summary}
use Rattle.wal.specs.declared.find.OtherLog.{OtherLog}
use Rattle.wal.specs.Reading.{reaches, placed, committed, newer, newest, found}
use Rattle.wal.proofs.Reach.{reach_within}

-- the frame of this number, which begins at `at`
abbrev pub frame : (number at : ℕ) → FoundFrame
frame number at = record { number = number; offset = at }

abbrev answer : Option FoundFrame → Result (Option FoundFrame) OtherLog
answer o = Ok o

-- the topmost frame decides before the others
newer_cond : (t : Bool) (f : FoundFrame) (below this : Option FoundFrame)
    → newer (cond t (Some f) below) this ≡ cond t (Some f) (newer below this)
newer_cond true f below this = refl
newer_cond false f below this = refl

module _ (page n : ℕ) (b : List ℕ) where
  -- of k + 1 frames the topmost is the one after k
  newest_top : (k number at : ℕ) → newest page n number at (placed n b (suc k) at)
      ≡ cond (eqb (big_endian b (at + k * n)) page)
      (Some (frame (suc (number + k)) (at + k * n)))
      (newest page n number at (placed n b k at))
  unfolding placed newest frame_at
  newest_top zero number at =
      let here : at + zero * n ≡ at = omega arith in
      let first : number + zero ≡ number = omega arith in
      rw (here, first)
  newest_top (suc k) number at =
      let here : at + n + k * n ≡ at + suc k * n = omega arith in
      let top : suc number + k ≡ number + suc k = omega arith in
      let this = cond (eqb (big_endian b at) page) (Some (frame (suc number) at)) None in
      let holds = eqb (big_endian b (at + n + k * n)) page in
      let below = newest page n (suc number) (at + n) (placed n b k (at + n)) in
      ap (λ (x : Option FoundFrame). newer x this) (newest_top k (suc number) (at + n))
      ∙ newer_cond holds (frame (suc (suc number + k)) (at + n + k * n)) below this
      ∙ rw (here, top)

-- `left` of `count` frames are still to be looked at, and decide
pub record Descent (page : ℕ) (s : Summary) (b : List ℕ) (n count left : ℕ) : Type 0 where
  pub within : 32 + count * n ≤ length b
  pub answer : found page s b ≡ Ok (newest page n 0 32 (placed n b left 32))

module _ {page : ℕ} {s : Summary} {b : List ℕ} {n count : ℕ} where
  pub descent_starts : count ≡ committed s.last → true ≡ reaches (frame_length s.header) count b → n ≡ frame_length s.header
      → Descent page s b n count count
  unfolding found
  descent_starts upto so is =
      rw is record { within = reach_within (frame_length s.header) count b so; answer = rw (← upto, ← so) refl }

  -- what is left is decided by the frame below
  look : {k x : ℕ} → Descent page s b n count (suc k) → x ≡ big_endian b (32 + k * n)
      → found page s b ≡ Ok (cond (eqb x page) (Some (frame (suc k) (32 + k * n))) (newest page n 0 32 (placed n b k 32)))
  look {k} d read =
      let number : 0 + k ≡ k = omega arith in
      d.answer ∙ ap (λ (o : Option FoundFrame). answer o) (newest_top page n b k 0 32) ∙ rw (number, read) refl

  pub descent_hit : {left x : ℕ} → Descent page s b n count left → 0 < left → x ≡ big_endian b (32 + (left - 1) * n) → x ≡ page
      → Ok (Some (frame (left - 1 + 1) (32 + (left - 1) * n))) ≡ found page s b
  descent_hit {left = zero} d some read same = absurd (omega arith)
  descent_hit {left = suc k} {x} d some read same =
      let one : suc k - 1 ≡ k = omega arith in
      rw (one, add-one k, look d (rw one at read), eq-eqb x page same) refl

  pub descent_more : {left x : ℕ} → Descent page s b n count left → 0 < left → x ≡ big_endian b (32 + (left - 1) * n) → (x ≡ page → ⊥)
      → Descent page s b n count (left - 1)
  descent_more {left = zero} d some read other = absurd (omega arith)
  descent_more {left = suc k} {x} d some read other =
      let one : suc k - 1 ≡ k = omega arith in
      rw one record { within = d.within; answer = rw (ne_eqb x page other) at (look d (rw one at read)) }

  pub descent_done : {left : ℕ} → Descent page s b n count left → left ≤ 0 → Ok None ≡ found page s b
  unfolding placed newest
  descent_done {left = zero} d none = sym d.answer
  descent_done {left = suc k} d none = absurd (omega arith)
