-- Rule 9: a call that passes its tests does what the rule says of the entry that the search found, or of none.
use Rattle.std.specs.Prelude.{Some, None}
use mathlib.Core.Path.{◌≡◌, refl, sym, ap, ◌∙◌, subst}
use mathlib.Core.Bool.{Bool, true, false}
use mathlib.Core.List.{List}
use mathlib.Core.Option.{Option, none, some}
use Prim.Native.Nat.{ℕ, ◌≤◌, ◌<◌}
use lib.ListN.{length, get_or}
use Rattle.page.specs.Record.{Holders, all_flags, stale, with_holders, one_holder_more, one_holder_less}
use Rattle.page.specs.declared.cache.PageCache.{PageCache}
use Rattle.page.specs.declared.entry.PageCacheEntry.{PageCacheEntry}
use Rattle.page.specs.declared.record.PageRecord.{PageRecord}
use Rattle.pool.specs.Slots.{blank, entries}
use Rattle.model.specs.Cache.{Cache, touch, rewrite}
use Rattle.model.specs.Call.{Outcome, lookup, peek, release, answer}
use Rattle.model.specs.Row.{Entry, find}
use Rattle.model.specs.Rules.{deleting, hit_with, hit, lookup_found, peek_found, release_with, release_found}
use Rattle.model.specs.Step.{act, step}
use Rattle.memory.specs.Memory.{Memory}
use Rattle.memory.specs.Holds.{Holds, seen}
use Rattle.memory.proofs.Standing.{found_good}
use Rattle.answer.specs.Answer.{plainly, Follows, MatchesOutcome}
use Rattle.answer.specs.declared.answer.Answer.TheVariants.{Done, ShortList, Absent, HolderLimit}
use Rattle.answer.specs.declared.answered.Answered.{Answered}
use Rattle.answer.proofs.Steps.{step_acts, step_short_list, list_short, list_long, follows_as, comes_as, plain_follows, plain_comes, unlisted_comes, touching_follows, hit_unlisted}
use Rattle.moves.specs.Moves.{StandsAt}
use Rattle.deletion.proofs.Deleting.{stored_is}
use Rattle.lookups.specs.Hit.{CanHit}

-- ── by what was found ────────────────────────────────────────────────────────
module _ (key : ℕ) (c : Cache) {found : Option Entry} (is : find key c.row ≡ found) where
  pub peek_found_lem : (asked : Bool) → step (peek key asked) c ≡ peek_found key asked found c
  unfolding act
  peek_found_lem asked =
      step_acts (peek key asked) (record { capacity = refl; state = refl; places = refl; naming = refl })
      ∙ ap {B = Outcome} (λ (x : Option Entry). peek_found key asked x c) is

  release_found_lem : step (release key) c ≡ release_found key found c
  unfolding act
  release_found_lem =
      step_acts (release key) (record { capacity = refl; state = refl; places = refl; naming = refl })
      ∙ ap {B = Outcome} (λ (x : Option Entry). release_found key x c) is

  module _ {m : Memory} {head : PageCache} {places : ℕ} (H : Holds m head c) (long : head.held ≤ places) where
    lookup_found_lem : step (lookup key places) c ≡ lookup_found key found c
    unfolding act
    lookup_found_lem =
        step_acts (lookup key places) (record { capacity = refl; state = refl; places = list_long H long; naming = refl })
        ∙ ap {B = Outcome} (λ (x : Option Entry). lookup_found key x c) is

-- a page that is stale is deleted, and any other is a hit
found_stale : (key : ℕ) (e : Entry) (c : Cache) → stale e.page.state ≡ true → lookup_found key (some e) c ≡ deleting e.page (answer 4 0) c
found_stale key e c is = rw (is, lookup_found)

found_fresh : (key : ℕ) (e : Entry) (c : Cache) → stale e.page.state ≡ false → lookup_found key (some e) c ≡ hit key true e.page c
found_fresh key e c is = rw (is, lookup_found)

-- ── the page at the slot ─────────────────────────────────────────────────────
module _ {m : Memory} {head : PageCache} {c : Cache} {key s : ℕ} {e : Entry} (H : Holds m head c) (at : StandsAt c.row key s e)
    {stored : PageCacheEntry} (loaded : stored ≡ get_or (entries m.slots) s blank) where
  pub can_hit : CanHit m.slots head s stored
  can_hit = record { by_key = m.by_key; by_handle = m.by_handle; marks = m.marks; cache = c; key = key; entry = e; holds = H; stands = at; loaded = loaded }

  -- the record with another number of holders is as good as the one that was loaded
  pub recount_good : {holders : ℕ} {state : PageRecord} → state ≡ with_holders stored.page holders → state.flags ≤ all_flags
  recount_good written =
      rw written (subst (λ (x : Entry). x.page.state.flags ≤ all_flags) (sym (stored_is H at loaded)) (found_good H key at.found at.slot).flags)

  module _ (asked : Bool) {r : Holders} (counted : r ≡ one_holder_more stored.page) where
    hit_comes : {m' : Memory} {a : Answered} → Follows (hit_with key r asked (seen s stored).page c) m' a → Follows (hit key asked e.page c) m' a
    hit_comes {m'} {a} f =
        subst (λ (x : Entry). Follows (hit key asked x.page c) m' a) (stored_is H at loaded)
        (subst (λ (x : Holders). Follows (hit_with key x asked (seen s stored).page c) m' a) counted f)

    pub hit_limit : r ≡ None → Follows (hit key asked e.page c) m (plainly HolderLimit head)
    hit_limit is = hit_comes (rw is (plain_follows HolderLimit H))

    module _ {holders : ℕ} (is : r ≡ Some holders) {state : PageRecord} (written : state ≡ with_holders stored.page holders) {m' : Memory} where
      pub hit_seen : asked ≡ false → Holds m' head (rewrite key state c) → Follows (hit key asked e.page c) m' (plainly (Done stored.handle.0) head)
      hit_seen unasked held = hit_comes (rw (is, unasked, sym written) (plain_follows (Done stored.handle.0) held))

      pub hit_touched : asked ≡ true → Holds m' head (touch key (rewrite key state c))
          → Follows (hit key asked e.page c) m' (plainly (Done stored.handle.0) head)
      hit_touched told held = hit_comes (rw (is, told, sym written) (touching_follows (plain_follows (Done stored.handle.0) held)))

  -- ── release ────────────────────────────────────────────────────────────────
  module _ {r : Holders} (counted : r ≡ one_holder_less stored.page) where
    release_comes : {m' : Memory} {a : Answered} → Follows (release_with key r (seen s stored).page c) m' a → Follows (step (release key) c) m' a
    release_comes {m'} {a} f =
        follows_as (release_found_lem key c at.found)
        (subst (λ (x : Entry). Follows (release_found key (some x) c) m' a) (stored_is H at loaded)
        (subst (λ (x : Holders). Follows (release_with key x (seen s stored).page c) m' a) counted f))

    pub release_limit : r ≡ None → Follows (step (release key) c) m (plainly HolderLimit head)
    release_limit is = release_comes (rw is (plain_follows HolderLimit H))

    pub release_done : {holders : ℕ} {state : PageRecord} {m' : Memory} → r ≡ Some holders → state ≡ with_holders stored.page holders
        → Holds m' head (rewrite key state c) → Follows (step (release key) c) m' (plainly (Done 0) head)
    release_done is written left = release_comes (rw (is, sym written) (plain_follows (Done 0) left))

  -- ── get ────────────────────────────────────────────────────────────────────
  module _ {list : List ℕ} (long : head.held ≤ length list) {m' : Memory} {a : Answered} where
    pub lookup_stale : {list' : List ℕ} → stale stored.page ≡ true → MatchesOutcome (deleting e.page (answer 4 0) c) list m' list' a
        → MatchesOutcome (step (lookup key (length list)) c) list m' list' a
    lookup_stale is comes =
        comes_as (lookup_found_lem key c at.found H long ∙ found_stale key e c (ap (λ (x : Entry). stale x.page.state) (sym (stored_is H at loaded)) ∙ is)) comes

    pub lookup_hit : stale stored.page ≡ false → Follows (hit key true e.page c) m' a
        → MatchesOutcome (step (lookup key (length list)) c) list m' list a
    lookup_hit is comes =
        comes_as (lookup_found_lem key c at.found H long ∙ found_fresh key e c (ap (λ (x : Entry). stale x.page.state) (sym (stored_is H at loaded)) ∙ is))
        (unlisted_comes comes (hit_unlisted key true e.page c))

-- ── no page ──────────────────────────────────────────────────────────────────
module _ {m : Memory} {head : PageCache} {c : Cache} (H : Holds m head c) (key : ℕ) where
  pub lookup_short : {list : List ℕ} → length list < head.held → MatchesOutcome (step (lookup key (length list)) c) list m list (plainly ShortList head)
  lookup_short {list} short = comes_as (step_short_list (lookup key (length list)) refl refl (list_short H short)) (plain_comes ShortList H list)

  module _ (absent : find key c.row ≡ none) where
    pub lookup_absent : {list : List ℕ} → head.held ≤ length list → MatchesOutcome (step (lookup key (length list)) c) list m list (plainly Absent head)
    lookup_absent {list} long = comes_as (lookup_found_lem key c absent H long) (plain_comes Absent H list)

    pub peek_absent : (asked : Bool) → Follows (step (peek key asked) c) m (plainly Absent head)
    peek_absent asked = follows_as (peek_found_lem key c absent asked) (plain_follows Absent H)

    pub release_absent : Follows (step (release key) c) m (plainly Absent head)
    release_absent = follows_as (release_found_lem key c absent) (plain_follows Absent H)
