-- From the rules to the calls. A call that passes its tests does what its rule says, and one that fails a test answers that
-- test's code with nothing changed. A rule is put together from blocks, and each block only adds to what was answered and
-- listed: so a call that came to the rest of a rule came to the whole.
use Rattle.std.specs.Prelude.{Ok, Err, Result, Some, None}
use mathlib.Core.Path.{◌≡◌, refl, sym, ap, ◌∙◌, subst}
use mathlib.Core.Bool.{Bool, true, false}
use mathlib.Core.List.{List, [], ◌∷◌, ◌++◌, append_assoc}
use mathlib.Core.Option.{some}
use Prim.Native.Nat.{ℕ, suc, ◌+◌, ◌≤◌, ◌<◌}
use native.Mathlib.Omega.{arith}
use lib.ListN.{length, take, drop, set, length-append}
use lib.Seq.{drop-cons, drop-drop, take-append_seam, drop-append-add, set-append_seam}
use borrow.Author.Tests.{lt-ltb, le-ltb}
use Rattle.page.specs.Record.{Holders, deletable, one_holder_more}
use Rattle.page.specs.declared.cache.PageCache.{PageCache}
use Rattle.page.specs.declared.record.Hindrance.{Hindrance}
use Rattle.page.specs.declared.record.Hindrance.TheVariants.{Locked, Dirty, Pinned}
use Rattle.model.specs.Cache.{Cache, held_in, leave}
use Rattle.model.specs.Call.{Call, Outcome, answer, listing, touching}
use Rattle.model.specs.Rooms.{Room, following}
use Rattle.model.specs.Row.{Page}
use Rattle.model.specs.Rules.{deleting, hit_with, hit}
use Rattle.model.specs.Step.{act, step}
use Rattle.model.specs.Tests.{asks, too_large, bad_record, short_list, handle_elsewhere, refusal}
use Rattle.model.proofs.KeptTests.{Passes}
use Rattle.memory.specs.Memory.{Memory}
use Rattle.memory.specs.Holds.{Holds}
use Rattle.memory.proofs.OnceKept.{holds_held}
use Rattle.answer.specs.Answer.{code_of, value_of, refused_as, plainly, Follows, Wrote, MatchesOutcome}
use Rattle.answer.specs.declared.answer.Answer.{Answer}
use Rattle.answer.specs.declared.answered.Answered.{Answered}

-- ── the tests before the rules ───────────────────────────────────────────────
module _ (call : Call) {c : Cache} where
  -- a call that fails no test does what its rule says
  pub step_acts : Passes call c → step call c ≡ act call c
  unfolding step refusal
  step_acts p = rw (p.capacity, p.state, p.places, p.naming)

  -- else it answers the code of the first test that it fails
  module _ (capacity : too_large (asks call).capacity c ≡ true) where
    pub step_too_large : step call c ≡ answer 15 0 c
    unfolding step refusal
    step_too_large = rw capacity

  module _ (capacity : too_large (asks call).capacity c ≡ false) where
    pub step_bad_record : bad_record (asks call).state ≡ true → step call c ≡ answer 2 0 c
    unfolding step refusal
    step_bad_record state = rw (capacity, state)

    module _ (state : bad_record (asks call).state ≡ false) where
      pub step_short_list : short_list (asks call).places c ≡ true → step call c ≡ answer 3 0 c
      unfolding step refusal
      step_short_list places = rw (capacity, state, places)

      pub step_elsewhere : short_list (asks call).places c ≡ false → handle_elsewhere (asks call).naming c ≡ true → step call c ≡ answer 12 0 c
      unfolding step refusal
      step_elsewhere places naming = rw (capacity, state, places, naming)

-- the tests of numbers, as the code makes them
module _ {m : Memory} {head : PageCache} {c : Cache} (H : Holds m head c) where
  module _ {places : ℕ} where
    pub list_short : places < head.held → short_list (some places) c ≡ true
    list_short short = lt-ltb places (held_in c) (omega (arith, holds_held H))

    pub list_long : head.held ≤ places → short_list (some places) c ≡ false
    list_long long = le-ltb places (held_in c) (omega (arith, holds_held H))

  module _ {n : ℕ} where
    pub capacity_above : length m.by_key < n → too_large (some n) c ≡ true
    capacity_above above = lt-ltb c.size n (omega (arith, H.lengths.by_key))

    pub capacity_within : n ≤ length m.by_key → too_large (some n) c ≡ false
    capacity_within within = le-ltb c.size n (omega (arith, H.lengths.by_key))

-- ── one answer or outcome for another ────────────────────────────────────────
module _ {r r' : Answered} (same : r ≡ r') {o : Outcome} {m : Memory} where
  pub follows_told : Follows o m r' → Follows o m r
  follows_told f = subst (λ (x : Answered). Follows o m x) (sym same) f

  pub comes_told : {before after : List ℕ} → MatchesOutcome o before m after r' → MatchesOutcome o before m after r
  comes_told {before} {after} f = subst (λ (x : Answered). MatchesOutcome o before m after x) (sym same) f

module _ {o o' : Outcome} (same : o ≡ o') {m : Memory} {r : Answered} where
  pub follows_as : Follows o' m r → Follows o m r
  follows_as f = subst (λ (x : Outcome). Follows x m r) (sym same) f

  pub comes_as : {before after : List ℕ} → MatchesOutcome o' before m after r → MatchesOutcome o before m after r
  comes_as {before} {after} f = subst (λ (x : Outcome). MatchesOutcome x before m after r) (sym same) f

-- ── the list ─────────────────────────────────────────────────────────────────
pub wrote_none : (list : List ℕ) → Wrote [] list list
wrote_none list = record { list = refl }

module _ {handles before list : List ℕ} (w : Wrote handles before list) where
  -- one handle more, at the next place
  pub wrote_next : (handle : ℕ) → length handles < length before → Wrote (handles ++ handle ∷ []) before (set list (length handles) handle)
  wrote_next handle place =
      let long : length (handles ++ handle ∷ []) ≡ suc (length handles) = omega (arith, length-append handles (handle ∷ [])) in
      record { list = rw (w.list, drop-cons before (length handles) 0 place, long, append_assoc) (set-append_seam handles _ _ handle) }

  -- more handles, from the next place on
  pub wrote_then : (more : List ℕ) {after : List ℕ} → after ≡ take (length handles) list ++ more ++ drop (length handles + length more) list
      → Wrote (handles ++ more) before after
  wrote_then more then = record {
    list = then ∙ rw (w.list, take-append_seam, drop-append-add, drop-drop, length-append);
  }

-- ── the blocks of the rules ──────────────────────────────────────────────────
-- an answer, and nothing else
module _ (a : Answer) {m : Memory} {head : PageCache} {c : Cache} (H : Holds m head c) where
  pub plain_follows : Follows (answer (code_of a) (value_of a) c) m (plainly a head)
  plain_follows = record { code = refl; value = refl; passed = refl; listed = refl; holds = H }

  pub plain_comes : (list : List ℕ) → MatchesOutcome (answer (code_of a) (value_of a) c) list m list (plainly a head)
  plain_comes list = record { follows = plain_follows; wrote = wrote_none list }

-- an outcome that lists nothing leaves the list alone
pub unlisted_comes : {o : Outcome} {m : Memory} {r : Answered} {list : List ℕ} → Follows o m r → o.listed ≡ [] → MatchesOutcome o list m list r
unlisted_comes {list = list} f q = record { follows = f; wrote = rw q (wrote_none list) }

-- one touch more, which is no part of the answer
module _ {o : Outcome} {m : Memory} {r : Answered} where
  pub touching_follows : Follows o m r → Follows (touching o) m r
  touching_follows f = record { code = f.code; value = f.value; passed = f.passed; listed = f.listed; holds = f.holds }

  pub touching_comes : {before after : List ℕ} → MatchesOutcome o before m after r → MatchesOutcome (touching o) before m after r
  touching_comes f = record { follows = touching_follows f.follows; wrote = f.wrote }

-- handles that were listed before
pub listing_follows : (handles : List ℕ) {o : Outcome} {m : Memory} {r : Answered} {n : ℕ} → Follows o m r → n ≡ length handles + r.listed
    → Follows (listing handles o) m (record { answer = r.answer; passed = r.passed; listed = n; head = r.head })
listing_follows handles {o} f counted = record {
  code = f.code;
  value = f.value;
  passed = f.passed;
  listed = omega (arith, f.listed, length-append handles o.listed);
  holds = f.holds;
}

-- evictions that went before an answer
pub following_follows : (room : Room) (a : Answer) {m : Memory} {head : PageCache} {c : Cache} {passed n : ℕ} → Holds m head c
    → passed ≡ room.passed → n ≡ length room.gone
    → Follows (following room (answer (code_of a) (value_of a) c)) m (record { answer = a; passed = passed; listed = n; head = head })
following_follows room a H swept counted = record {
  code = refl;
  value = refl;
  passed = omega arith;
  listed = omega (arith, length-append room.gone []);
  holds = H;
}

-- ── rule 8 ───────────────────────────────────────────────────────────────────
module _ (p : Page) (follow : Cache → Outcome) (c : Cache) where
  abbrev decided : Result Unit Hindrance → Outcome
  decided (Ok _) = listing (p.handle ∷ []) (follow (leave p c))
  decided (Err Locked) = answer 5 p.key c
  decided (Err Dirty) = answer 6 p.key c
  decided (Err Pinned) = answer 7 p.key c

  -- a deletion, and what follows it
  pub deleting_done : deletable p.state ≡ Ok tt → deleting p follow c ≡ listing (p.handle ∷ []) (follow (leave p c))
  deleting_done may = ap decided may

  -- a deletion that is refused
  pub deleting_refused : (why : Hindrance) → deletable p.state ≡ Err why
      → deleting p follow c ≡ answer (code_of (refused_as (record { 0 = p.key }) (Err why))) (value_of (refused_as (record { 0 = p.key }) (Err why))) c
  deleting_refused Locked because = ap decided because
  deleting_refused Dirty because = ap decided because
  deleting_refused Pinned because = ap decided because

-- ── rule 9 ───────────────────────────────────────────────────────────────────
-- a hit lists nothing
pub hit_unlisted : (key : ℕ) (asked : Bool) (p : Page) (c : Cache) → (hit key asked p c).listed ≡ []
hit_unlisted key asked p c = go (one_holder_more p.state) asked
  where
    go : (r : Holders) (b : Bool) → (hit_with key r b p c).listed ≡ []
    go (Some holders) true = refl
    go (Some holders) false = refl
    go None b = refl
