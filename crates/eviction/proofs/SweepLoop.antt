-- What the sweep's loop has done after some looks, and that one look more keeps it: the seats and the row are turned by one
-- together, so that the looks that are left come to what all of them come to.
use mathlib.Core.Path.{◌≡◌, refl, sym, ap, ◌∙◌, subst}
use mathlib.Core.Bool.{true, false}
use mathlib.Core.List.{List, [], ◌∷◌, ◌++◌}
use Prim.Native.Nat.{ℕ, suc, ◌+◌, ◌*◌, ◌-◌, ◌<◌}
use native.Mathlib.Omega.{arith}
use lib.ListN.{length, length-append}
use Rattle.page.specs.Entry.{ref_max}
use Rattle.page.specs.declared.entry.PageCacheEntry.{PageCacheEntry}
use Rattle.page.specs.declared.names.Slot.{Slot}
use Rattle.page.proofs.Each.{each_append}
use Rattle.ring_links.specs.Ring.{has}
use Rattle.pool.specs.Slots.{entries}
use Rattle.ring_links.proofs.Columns.{next_at_lem}
use Rattle.ring_links.proofs.Rings.{TurnedTo, turn_to}
use Rattle.ring_links.proofs.Rows.{has_turns}
use Rattle.model.specs.Cache.{page_may_go}
use Rattle.model.specs.Row.{Entry, Row, Each}
use Rattle.model.specs.Sweep.{Swept, pass, lower, looks}
use Rattle.model.proofs.Looks.{pass_none, loop_goes, loop_stays, loop_full}
use Rattle.model.proofs.Lowering.{lower_le}
use Rattle.memory.specs.Holds.{EntryGood, Seated, row_of}
use Rattle.eviction.specs.Sweep.{seen_at, TakenAt, PassedAt, comes_to, Turned, SweptFrom, SweptAs}
use Rattle.eviction.proofs.Seats.{seated_turn, names_used, seated_used, row_passed}

-- a page that is passed stays good
good_lower : (e : Entry) → EntryGood e → EntryGood (lower page_may_go 1 e)
unfolding lower
good_lower e f = record { flags = f.flags; uses = omega (arith, f.uses, lower_le page_may_go 1 e) }

-- ── after some looks ─────────────────────────────────────────────────────────
-- the ring begins at slot `at`, and the looks that are left of 4 * held come to what all of them come to
pub record SweepLoop (es : List PageCacheEntry) (seats : List ℕ) (held : ℕ) (es' : List PageCacheEntry) (at passed : ℕ) : Type 0 where
  pub turned : Turned es seats es' at
  pub left : (k : ℕ) → passed + k ≡ suc ref_max * held
      → pass passed (looks page_may_go k (row_of es' (at ∷ turned.rest))) ≡ looks page_may_go (suc ref_max * held) (row_of es seats)

-- before the first
sweep_loop_start : {es : List PageCacheEntry} {hand : ℕ} {rest : List ℕ} (held : ℕ) → Seated es (hand ∷ rest)
    → SweepLoop es (hand ∷ rest) held es hand 0
sweep_loop_start held g = record {
  turned = record { rest = _; seated = g; size = refl; same = λ k. refl; named = λ by. refl; good = λ f. f };
  left = λ k q. let all : k ≡ suc ref_max * held = omega arith in rw (all, pass_none);
}

module _ {es : List PageCacheEntry} {seats : List ℕ} {held : ℕ} {es' : List PageCacheEntry} {at passed : ℕ}
    (m : SweepLoop es seats held es' at passed) where
  abbrev rest : List ℕ
  rest = m.turned.rest

  -- the page at `at` is passed
  sweep_loop_passed : {es'' : List PageCacheEntry} {next : Slot} → PassedAt es' at es'' next → SweepLoop es seats held es'' next.0 (passed + 1)
  sweep_loop_passed {es''} {next} p =
      let e : Entry = lower page_may_go 1 (seen_at es' at) in
      let g : Seated es' (at ∷ rest) = m.turned.seated in
      let t : TurnedTo _ _ at rest = turn_to rest g.ring in
      let parts : rest ++ at ∷ [] ≡ next.0 ∷ t.rest = t.parts ∙ ap {B = List ℕ} (λ n. n ∷ t.rest) (next_at_lem es' at ∙ sym p.next) in
      let row : row_of es'' (next.0 ∷ t.rest) ≡ row_of es' rest ++ e ∷ [] =
      ap {B = Row} (row_of es'') (sym parts) ∙ ap {B = Row} (λ l. row_of l (rest ++ at ∷ [])) p.loses ∙ row_passed es' at rest g in
      record {
        turned = record {
          rest = t.rest;
          seated = subst (Seated es'') parts (rw p.loses (seated_turn (seated_used es' at e.uses g)));
          size = omega (arith, ap length parts, length-append rest (at ∷ []), m.turned.size);
          same = λ k. ap (has k) (sym parts) ∙ has_turns k rest (at ∷ []) ∙ m.turned.same k;
          named = λ by. rw p.loses (names_used es' at e.uses by ∙ m.turned.named by);
          good = λ f.
              let f' = m.turned.good f in
              subst (Each EntryGood) (sym row) (each_append EntryGood (row_of es' rest) (e ∷ []) f'.1 (good_lower (seen_at es' at) f'.0, tt));
        };
        left = λ k q.
            ap {B = Swept} (λ r. pass (passed + 1) (looks page_may_go k r)) row
            ∙ sym (loop_stays page_may_go passed k (seen_at es' at) (row_of es' rest) p.stays) ∙ m.left (suc k) (omega arith);
      }

  -- the page at `at` is taken
  sweep_loop_taken : {es'' : List PageCacheEntry} → passed < suc ref_max * held → TakenAt es' at es''
      → SweptFrom es seats held es'' (record { found = true; at = record { 0 = at }; passed = passed })
  sweep_loop_taken {es''} more t =
      let k : ℕ = suc ref_max * held - suc passed in
      rw t.same record {
        turned = m.turned;
        came = sym (m.left (suc k) (omega arith)) ∙ loop_goes page_may_go passed k (seen_at es' at) (row_of es' rest) t.goes;
      }

  -- none is taken by all the looks
  sweep_loop_full : passed ≡ suc ref_max * held
      → SweptFrom es seats held es' (record { found = false; at = record { 0 = at }; passed = suc ref_max * held })
  sweep_loop_full all = record {
    turned = m.turned;
    came = sym (m.left 0 (omega arith)) ∙ loop_full page_may_go passed (row_of es' (at ∷ rest)) ∙ ap {B = Swept} (comes_to false es' at rest) all;
  }

-- ── the loop ─────────────────────────────────────────────────────────────────
-- there are as many words as before, and the looks so far are these, whatever seats the ring had
pub record Going (slots : List ℕ) (hand : Slot) (held : ℕ) (slots' : List ℕ) (at : Slot) (passed : ℕ) : Type 0 where
  pub long : length slots' ≡ length slots
  pub loop : (rest : List ℕ) → Seated (entries slots) (hand.0 ∷ rest)
      → SweepLoop (entries slots) (hand.0 ∷ rest) held (entries slots') at.0 passed

pub going_start : {slots : List ℕ} {hand : Slot} {held : ℕ} → Going slots hand held slots hand 0
going_start = record { long = refl; loop = λ rest g. sweep_loop_start _ g }

module _ {slots : List ℕ} {hand : Slot} {held : ℕ} {slots' : List ℕ} {at : Slot} {passed : ℕ}
    (g : Going slots hand held slots' at passed) where
  -- a look passes the page, or takes it, or none is left
  pub going_passed : {slots'' : List ℕ} {next : Slot} → length slots'' ≡ length slots'
      → PassedAt (entries slots') at.0 (entries slots'') next → Going slots hand held slots'' next (passed + 1)
  going_passed long p = record {
    long = long ∙ g.long;
    loop = λ rest s. sweep_loop_passed (g.loop rest s) p;
  }

  pub going_taken : {es'' : List PageCacheEntry} → passed < suc ref_max * held → TakenAt (entries slots') at.0 es''
      → SweptAs (entries slots) hand.0 held es'' (record { found = true; at = at; passed = passed })
  going_taken more t rest s = sweep_loop_taken (g.loop rest s) more t

  pub going_full : passed ≡ suc ref_max * held
      → SweptAs (entries slots) hand.0 held (entries slots') (record { found = false; at = at; passed = suc ref_max * held })
  going_full all rest s = sweep_loop_full (g.loop rest s) all
