-- A stale page under the key. It goes and is listed, and the new page is admitted without it; or rule 8 refuses, and then
-- nothing follows.
use mathlib.Core.Path.{◌≡◌, refl}
use mathlib.Core.List.{List, [], ◌∷◌}
use Prim.Native.Nat.{ℕ, suc}
use native.Mathlib.Omega.{arith}
use lib.ListN.{length}
use Rattle.page.specs.declared.cache.PageCache.{PageCache}
use Rattle.model.specs.Cache.{Cache, held_in, leave}
use Rattle.model.specs.Row.{Entry}
use Rattle.model.proofs.ByKey.{find_stands, stands_own}
use Rattle.model.proofs.KeptPages.{leave_kept, without_held}
use Rattle.memory.specs.Memory.{Memory}
use Rattle.memory.specs.Holds.{Holds}
use Rattle.memory.proofs.OnceKept.{holds_held, holds_fits}
use Rattle.answer.specs.Answer.{plainly}
use Rattle.answer.specs.declared.answer.Answer.{Answer}
use Rattle.answer.specs.declared.answered.Answered.{Answered}
use Rattle.answer.proofs.Steps.{comes_as, wrote_none, wrote_next, deleting_done}
use Rattle.moves.specs.declared.finding.Gaps.{Gaps}
use Rattle.moves.specs.Moves.{StandsAt, Unseated, GapsOf}
use Rattle.deletion.specs.Deletion.{CanDelete, Goes, Stays}
use Rattle.deletion.proofs.Deleting.{stays_comes}
use Rattle.insertion.specs.declared.mode.NewPage.{NewPage}
use Rattle.insertion.specs.Admit.{admitting, Admissible, Admits}
use Rattle.insertion.specs.Renew.{KeyFound, InsertsStale}
use Rattle.insertion.proofs.Names.{deleted_new}

module _ {m : Memory} {head : PageCache} {list : List ℕ} {s : ℕ} {asked : NewPage} where
  abbrev less : (w : KeyFound m head list s asked) → suc (held_in (leave w.entry.page w.cache)) ≡ held_in w.cache
  less w =
      without_held w.entry.page.key w.cache.row w.entry
      (stands_own asked.key.0 w.cache.row w.entry (find_stands asked.key.0 w.cache.row w.entry w.stands.found))

  pub stale_deletable : KeyFound m head list s asked → CanDelete m head s list 0
  stale_deletable w = record {
    removable = record { cache = w.cache; key = asked.key.0; entry = w.entry; holds = w.holds; stands = w.stands };
    within = omega (arith, less w, holds_held w.holds, w.long);
  }

  pub stale_refused : {m' : Memory} {list' : List ℕ} {why : Answer}
      → ((c : Cache) (k : ℕ) (e : Entry) → Holds m head c → StandsAt c.row k s e → Stays e.page m list m' list' why)
      → InsertsStale m head list s asked m' list' (plainly why head)
  stale_refused stays = record {
    comes = λ c e H k at free. stays_comes (admitting asked) H (stays c asked.key.0 e H at);
  }

  module _ {m' : Memory} {list' : List ℕ} {head' : PageCache}
      (goes : (c : Cache) (k : ℕ) (e : Entry) → Holds m head c → StandsAt c.row k s e → Goes c e.page list 0 m' list' head') where
    pub stale_unseated : KeyFound m head list s asked
        → Unseated m' head' asked.key.0 asked.handle.0
    stale_unseated w = record {
      marks = m'.marks;
      cache = leave w.entry.page w.cache;
      holds = (goes w.cache asked.key.0 w.entry w.holds w.stands).holds;
      new = deleted_new asked.key.0 asked.handle.0 w.cache w.entry w.kept w.stands.found w.free;
    }

    pub stale_admissible : {gaps : Gaps} → KeyFound m head list s asked → length list' ≡ length list
        → GapsOf m' head'.held asked.key.0 asked.handle.0 gaps
        → Admissible m' head' list' 1 gaps asked
    stale_admissible w long right =
        let gone = goes w.cache asked.key.0 w.entry w.holds w.stands in
        record {
          cache = leave w.entry.page w.cache;
          holds = gone.holds;
          kept = leave_kept w.entry.page w.cache w.kept;
          right = right;
          flags = w.flags;
          places = omega (arith, less w, holds_held gone.holds, holds_held w.holds, w.long);
          few = omega (arith, less w, holds_held gone.holds, holds_held w.holds, holds_fits w.holds, w.holds.limits.most);
        }

    pub stale_admitted : {m'' : Memory} {list'' : List ℕ} {r : Answered} → KeyFound m head list s asked
        → Admits m' head' list' 1 asked m'' list'' r → InsertsStale m head list s asked m'' list'' r
    stale_admitted w admits = record {
      comes = λ c e H k at free.
          let gone = goes c asked.key.0 e H at in
          comes_as (deleting_done e.page (admitting asked) c gone.may)
          (admits.comes (leave e.page c) (e.page.handle ∷ []) list gone.holds (leave_kept e.page c k) (deleted_new asked.key.0 asked.handle.0 c e k at.found free)
          (rw gone.listed (wrote_next (wrote_none list) e.page.handle (stale_deletable w).within)) refl);
    }
