-- The tests before the rules are the model's, in the model's order: so the call answers a refusal where the model does, and
-- otherwise acts.
use mathlib.Core.Path.{◌≡◌, refl}
use mathlib.Core.Bool.{true}
use mathlib.Core.List.{List}
use Prim.Native.Nat.{ℕ, ◌≤◌, ◌<◌, ◌^◌}
use lib.ListN.{length}
use borrow.Author.Tests.{lt-ltb, le-ltb}
use Rattle.page.specs.Record.{all_flags}
use Rattle.page.specs.declared.cache.PageCache.{PageCache}
use Rattle.free_marks.specs.Marks.{Wide}
use Rattle.sorted_index.specs.declared.search.By.TheVariants.{Handle}
use Rattle.model.specs.Cache.{Cache}
use Rattle.model.specs.Call.{Call, insert}
use Rattle.model.specs.Rules.{on_insert}
use Rattle.model.specs.Step.{act, step}
use Rattle.model.specs.Tests.{under_other}
use Rattle.memory.specs.Memory.{Memory}
use Rattle.memory.specs.Holds.{Holds, Sound}
use Rattle.memory.proofs.OnceKept.{holds_kept}
use Rattle.answer.specs.Answer.{plainly, MatchesOutcome}
use Rattle.answer.specs.declared.answer.Answer.TheVariants.{BadRecord, ShortList, HandleElsewhere}
use Rattle.answer.specs.declared.answered.Answered.{Answered}
use Rattle.answer.proofs.Steps.{step_acts, step_bad_record, step_short_list, step_elsewhere, list_short, list_long, comes_as, plain_comes}
use Rattle.moves.specs.Moves.{KeyAt, GapIn}
use Rattle.insertion.specs.declared.mode.NewPage.{NewPage}
use Rattle.insertion.specs.Mode.{insertion_of}
use Rattle.insertion.specs.Renew.{Free, KeyFound}
use Rattle.insertion.specs.Insert.{Insertable, Inserts}

-- the call that is asked for
abbrev asking : NewPage → List ℕ → Call
asking asked list = insert (insertion_of asked.mode) asked.key.0 asked.handle.0 asked.page (length list)

module _ (asked : NewPage) {list : List ℕ} {m : Memory} {head : PageCache} {c : Cache} (H : Holds m head c) where
  -- ── a test that fails ──────────────────────────────────────────────────────
  pub bad_record_lem : all_flags < asked.page.flags → MatchesOutcome (step (asking asked list) c) list m list (plainly BadRecord head)
  bad_record_lem bad = comes_as (step_bad_record (asking asked list) refl (lt-ltb all_flags asked.page.flags bad)) (plain_comes BadRecord H list)

  module _ (good : asked.page.flags ≤ all_flags) where
    pub short_list_lem : length list < head.held → MatchesOutcome (step (asking asked list) c) list m list (plainly ShortList head)
    short_list_lem short = comes_as (step_short_list (asking asked list) refl (le-ltb all_flags asked.page.flags good) (list_short H short)) (plain_comes ShortList H list)

    module _ (long : head.held ≤ length list) where
      pub elsewhere : under_other asked.key.0 asked.handle.0 c.row ≡ true → MatchesOutcome (step (asking asked list) c) list m list (plainly HandleElsewhere head)
      elsewhere there =
          comes_as (step_elsewhere (asking asked list) refl (le-ltb all_flags asked.page.flags good) (list_long H long) there) (plain_comes HandleElsewhere H list)

      -- ── none fails ─────────────────────────────────────────────────────────
      acts : Free asked c → {m' : Memory} {list' : List ℕ} {r : Answered} → MatchesOutcome (on_insert asked.key.0 asked.handle.0 asked.page (insertion_of asked.mode) c) list m' list' r
          → MatchesOutcome (step (asking asked list) c) list m' list' r
      unfolding act
      acts free comes =
          comes_as (step_acts (asking asked list) (record { capacity = refl; state = le-ltb all_flags asked.page.flags good; places = list_long H long; naming = free })) comes

-- the words of the slots are of 64 bits, and the estimate of 32: so the cache is within its limits
module _ {m : Memory} {head : PageCache} {list : List ℕ} {asked : NewPage} (good : asked.page.flags ≤ all_flags)
    (long : head.held ≤ length list) (wide : Wide m.slots) (small : head.estimate < 2 ^ 32) where
  -- the handle stands nowhere
  pub call_insertable : {gap : ℕ} → GapIn Handle m.slots m.by_handle head.held asked.handle.0 gap → Sound m head
      → Insertable m head list gap asked
  call_insertable nowhere s = record {
    cache = s.cache;
    holds = s.holds;
    kept = holds_kept wide s.holds small;
    nowhere = nowhere;
    flags = good;
    long = long;
  }

  -- it stands under the key
  pub call_found : {slot : ℕ} (s : Sound m head) → KeyAt s.cache.row asked.key.0 slot × Free asked s.cache
      → KeyFound m head list slot asked
  call_found s t = record {
    cache = s.cache;
    entry = t.0.entry;
    holds = s.holds;
    kept = holds_kept wide s.holds small;
    stands = t.0.stands;
    free = t.1;
    flags = good;
    long = long;
  }

  pub call_inserts : {m' : Memory} {list' : List ℕ} {r : Answered} → ((c : Cache) → Holds m head c → Free asked c)
      → Inserts m head list asked m' list' r → (c : Cache) → Holds m head c → MatchesOutcome (step (asking asked list) c) list m' list' r
  call_inserts free inserts c H = acts asked H good long (free c H) (inserts.comes c H (holds_kept wide H small) (free c H))
