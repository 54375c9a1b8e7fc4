-- Whether the memory is sound and the list long enough determines the verdict; and a listing of as many pages as the verdict says
-- leaves the list as the answer says.
use mathlib.Core.Path.{◌≡◌, refl, sym, ap, ◌∙◌}
use mathlib.Core.List.{List}
use Prim.Native.Nat.{ℕ, ◌≤◌}
use native.Mathlib.Omega.{arith}
use lib.ListN.{length}
use Rattle.page.specs.declared.cache.PageCache.{PageCache}
use Rattle.model.specs.Cache.{Cache}
use Rattle.memory.specs.Memory.{Memory}
use Rattle.memory.specs.Holds.{Holds}
use Rattle.memory.proofs.OnceKept.{holds_held}
use Rattle.std.specs.Prelude.{Ok, Err}
use Rattle.listing.specs.declared.testing.ListingError.{ListingError}
use Rattle.listing.specs.declared.testing.ListingError.TheVariants.{NotSound, ShortList}
use Rattle.listing.specs.Listing.{Form, Room, CanListRow, RowWritten, WritesRow}
use Rattle.listing.specs.Outcome.{Listing, code_of, value_of, Verdict, all_listed, not_sound, too_short, Admits, ListingEffect}
use Rattle.listing.proofs.Sweeping.{row_stands}

-- ── a cache ──────────────────────────────────────────────────────────────────
module _ {A : Type 0} (F : Form A) {m : Memory} {head : PageCache} {c : Cache} (g : Holds m head c) where
  -- its pages may be listed, from the hand on
  pub cache_listable : {list : List A} → F.places head.held ≤ length list → CanListRow F m.slots head.hand.0 head.held list
  cache_listable room = record { row = c.row; stands = row_stands g; count = holds_held g; room = room }

  -- and then its row is listed
  pub cache_listed : {before after : List A} → WritesRow F m.slots head.hand.0 head.held before after → RowWritten F c.row before after
  cache_listed lists = lists c.row (row_stands g) (holds_held g)

-- ── from the verdict to the answer ───────────────────────────────────────────
module _ {A : Type 0} {F : Form A} {m : Memory} {head : PageCache} {space : ℕ} {before : List A} (room : Room F before space) where
  in_places : {code n : ℕ} → Verdict m head head.held space code n → Verdict m head (F.places head.held) (length before) code n
  in_places (all_listed v) = all_listed (record { sound = v.sound; room = room.enough head.held v.room; count = v.count })
  in_places (not_sound v) = not_sound v
  in_places (too_short v) = too_short (record { sound = v.sound; short = room.short head.held v.short })

  -- a refusal is the call's answer
  pub refuses : {why : ListingError} → Admits m head space (Err why) → ListingEffect F m head before before (Err why)
  refuses {why} g = record { verdict = in_places g; refused = λ other. refl; done = λ is. absurd (refusal why is) }
    where
      refusal : (e : ListingError) → code_of (Err e) ≡ 0 → ⊥
      refusal NotSound is = omega (arith, is)
      refusal ShortList is = omega (arith, is)

  module _ {held : ℕ} (g : Admits m head space (Ok held)) where
    -- otherwise as many pages as it says may be listed
    pub admitted : CanListRow F m.slots head.hand.0 held before
    admitted = by_verdict refl g
      where
        by_verdict : {code n : ℕ} → code ≡ 0 → Verdict m head head.held space code n → CanListRow F m.slots head.hand.0 n before
        by_verdict is (all_listed v) = rw v.count (cache_listable F v.sound.holds (room.enough head.held v.room))
        by_verdict is (not_sound v) = absurd (omega (arith, is))
        by_verdict is (too_short v) = absurd (omega (arith, is))

    -- and then the call has come to its answer
    pub comes : {after : List A} → WritesRow F m.slots head.hand.0 held before after → ListingEffect F m head before after (Ok held)
    comes {after} lists = record { verdict = in_places g; refused = λ other. absurd (other refl); done = λ is c holds. filled refl g lists c holds }
      where
        filled : {code n : ℕ} → code ≡ 0 → Verdict m head head.held space code n → WritesRow F m.slots head.hand.0 n before after → (c : Cache) → Holds m head c → RowWritten F c.row before after
        filled is (all_listed v) lists c holds = cache_listed F holds (rw v.count at lists)
        filled is (not_sound v) lists c holds = absurd (omega (arith, is))
        filled is (too_short v) lists c holds = absurd (omega (arith, is))

-- ── one outcome ──────────────────────────────────────────────────────────────
-- the number and the value determine the answer
answer_told : (a b : Listing) → code_of a ≡ code_of b → value_of a ≡ value_of b → a ≡ b
answer_told (Ok n) (Ok k) code value = ap Ok value
answer_told (Ok n) (Err NotSound) code value = absurd (omega (arith, code))
answer_told (Ok n) (Err ShortList) code value = absurd (omega (arith, code))
answer_told (Err NotSound) (Ok n) code value = absurd (omega (arith, code))
answer_told (Err NotSound) (Err NotSound) code value = refl
answer_told (Err NotSound) (Err ShortList) code value = absurd (omega (arith, code))
answer_told (Err ShortList) (Ok n) code value = absurd (omega (arith, code))
answer_told (Err ShortList) (Err NotSound) code value = absurd (omega (arith, code))
answer_told (Err ShortList) (Err ShortList) code value = refl

module _ {m : Memory} {head : PageCache} {needed space : ℕ} where
  verdict_once : {code code' n n' : ℕ} → Verdict m head needed space code n → Verdict m head needed space code' n' → (code ≡ code') × (n ≡ n')
  verdict_once (all_listed v) (all_listed w) = (refl, v.count ∙ sym w.count)
  verdict_once (all_listed v) (not_sound w) = absurd (w v.sound)
  verdict_once (all_listed v) (too_short w) = absurd (omega (arith, v.room, w.short))
  verdict_once (not_sound v) (all_listed w) = absurd (v w.sound)
  verdict_once (not_sound v) (not_sound w) = (refl, refl)
  verdict_once (not_sound v) (too_short w) = absurd (v w.sound)
  verdict_once (too_short v) (all_listed w) = absurd (omega (arith, v.short, w.room))
  verdict_once (too_short v) (not_sound w) = absurd (w v.sound)
  verdict_once (too_short v) (too_short w) = (refl, refl)

-- the same answer, and the same list
pub record Same {A : Type 0} (a : Listing) (after : List A) (a' : Listing) (after' : List A) : Type 0 where
  pub answer : a ≡ a'
  pub list : after ≡ after'

-- the contract is deterministic
pub comes_once : {A : Type 0} {F : Form A} {m : Memory} {head : PageCache} {before after after' : List A} {a a' : Listing}
    → ListingEffect F m head before after a → ListingEffect F m head before after' a' → Same a after a' after'
comes_once {F = F} {m = m} {head = head} {before = before} {after = after} {after' = after'} {a = a} {a' = a'} g g' =
    let once : (code_of a ≡ code_of a') × (value_of a ≡ value_of a') = verdict_once g.verdict g'.verdict in
    let e : a ≡ a' = answer_told a a' once.0 once.1 in
    record { answer = e; list = by_verdict g.verdict g.refused g.done (rw e g'.refused) (rw e g'.done) }
  where
    by_verdict : {code n : ℕ} → Verdict m head (F.places head.held) (length before) code n
        → ((code ≡ 0 → ⊥) → after ≡ before) → (code ≡ 0 → (c : Cache) → Holds m head c → RowWritten F c.row before after)
        → ((code ≡ 0 → ⊥) → after' ≡ before) → (code ≡ 0 → (c : Cache) → Holds m head c → RowWritten F c.row before after')
        → after ≡ after'
    by_verdict (all_listed v) r d r' d' = (d refl v.sound.cache v.sound.holds).list ∙ sym (d' refl v.sound.cache v.sound.holds).list
    by_verdict (not_sound v) r d r' d' = r (λ z. absurd (omega arith)) ∙ sym (r' (λ z. absurd (omega arith)))
    by_verdict (too_short v) r d r' d' = r (λ z. absurd (omega arith)) ∙ sym (r' (λ z. absurd (omega arith)))
