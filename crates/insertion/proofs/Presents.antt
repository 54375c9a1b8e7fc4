-- A page under a key that is there, loaded or locked. A touch changes no page: the key still finds its entry, at the same slot,
-- and the handle still stands under no other key, so that the entry can be replaced.
use mathlib.Core.Path.{◌≡◌, refl, sym, ap, ◌∙◌}
use mathlib.Core.Bool.{Bool, true, false, true≢false, false≢true}
use mathlib.Core.List.{List}
use mathlib.Core.Logic.{◌≢◌}
use Prim.Native.Nat.{ℕ, ◌<◌}
use lib.ListN.{length, get_or}
use borrow.Author.Tests.{eq-eqb, ne_eqb}
use Rattle.page.specs.declared.cache.PageCache.{PageCache}
use Rattle.page.specs.declared.entry.PageCacheEntry.{PageCacheEntry}
use Rattle.page.specs.declared.record.PageRecord.{PageRecord}
use Rattle.pool.specs.Slots.{blank, entries}
use Rattle.model.specs.Cache.{Cache, touch}
use Rattle.model.specs.Call.{Outcome, upsert, answer, touching}
use Rattle.model.specs.Row.{Page, Entry}
use Rattle.model.specs.Rules.{present, key_exists}
use Rattle.model.specs.Sweep.{touched}
use Rattle.memory.specs.Memory.{Memory}
use Rattle.memory.specs.Holds.{Holds}
use Rattle.memory.proofs.Standing.{found_inside}
use Rattle.answer.specs.Answer.{plainly}
use Rattle.answer.specs.declared.answer.Answer.TheVariants.{Done, KeyExists, OtherPage}
use Rattle.answer.proofs.Steps.{follows_as, plain_follows, touching_follows}
use Rattle.moves.specs.Moves.{StandsAt, Replaceable, Touches, Replaces}
use Rattle.moves.proofs.Change.{stands_touched, free_touched}
use Rattle.deletion.proofs.Deleting.{stored_is}
use Rattle.insertion.specs.declared.mode.NewPage.{NewPage}
use Rattle.insertion.specs.declared.mode.InsertMode.{InsertMode}
use Rattle.insertion.specs.declared.mode.InsertMode.TheVariants.{Plain, Forced, Upsert}
use Rattle.insertion.specs.Mode.{insertion_of, replaces}
use Rattle.insertion.specs.Present.{Presents}

-- ── the mode decides ─────────────────────────────────────────────────────────
module _ (key handle : ℕ) (page : PageRecord) (p : Page) (c : Cache) where
  replaces_upsert : (mode : InsertMode) → replaces mode ≡ true
      → present key handle page (insertion_of mode) p c ≡ present key handle page upsert p c
  replaces_upsert Plain q = absurd (false≢true q)
  replaces_upsert Forced q = absurd (false≢true q)
  replaces_upsert Upsert q = refl

  keeps_exists : (mode : InsertMode) → replaces mode ≡ false → present key handle page (insertion_of mode) p c ≡ key_exists key handle page p c
  keeps_exists Plain q = refl
  keeps_exists Forced q = refl
  keeps_exists Upsert q = absurd (true≢false q)

abbrev if_same : ℕ → Cache → Bool → Outcome
if_same key c b = elim b [ true ↦ touching (answer 9 0 (touch key c)) | false ↦ answer 11 0 c ]

-- ── what the code asks for ───────────────────────────────────────────────────
module _ {slots by_handle : List ℕ} {head : PageCache} {s handle : ℕ} {page : PageRecord} where
  pub present_inside : Replaceable slots by_handle head s handle page → s < length (entries slots)
  present_inside w = found_inside w.holds w.key w.stands.found w.stands.slot

  -- after the touch
  pub touched_replaceable : {slots' : List ℕ} → Replaceable slots by_handle head s handle page → Touches slots s slots'
      → Replaceable slots' by_handle head s handle page
  touched_replaceable w t = record {
    by_key = w.by_key;
    marks = w.marks;
    cache = touch w.key w.cache;
    key = w.key;
    entry = touched w.entry;
    holds = t _ _ _ _ _ _ _ w.holds w.stands;
    stands = stands_touched w.stands;
    free = free_touched w.key handle w.cache.row w.entry w.stands.found w.free;
    flags = w.flags;
  }

-- ── what it comes to ─────────────────────────────────────────────────────────
-- the handle that is loaded is the page's
old_handle : {m : Memory} {head : PageCache} {c : Cache} {key s : ℕ} {e : Entry} {stored : PageCacheEntry} → Holds m head c → StandsAt c.row key s e
    → stored ≡ get_or (entries m.slots) s blank → stored.handle.0 ≡ e.page.handle
old_handle H at loaded = ap (λ (x : Entry). x.page.handle) (stored_is H at loaded)

module _ {slots by_handle : List ℕ} {head : PageCache} {s : ℕ} {asked : NewPage} {stored : PageCacheEntry} (loaded : stored ≡ get_or (entries slots) s blank) where
  pub presents_replaced : {slots' slots'' by_handle'' : List ℕ} {head'' : PageCache} → replaces asked.mode ≡ true → Touches slots s slots'
      → Replaces slots' by_handle head s asked.handle.0 asked.page slots'' by_handle'' head''
      → Presents slots by_handle head s asked slots'' by_handle'' (plainly (Done stored.handle.0) head'')
  presents_replaced q t r = record {
    follows = λ by_key marks c key e H at free.
        follows_as (replaces_upsert key asked.handle.0 asked.page e.page c asked.mode q) (record {
          code = refl;
          value = old_handle H at loaded;
          passed = refl;
          listed = refl;
          holds = r by_key marks (touch key c) key (touched e) (t _ _ _ _ _ _ _ H at) (stands_touched at) (free_touched key asked.handle.0 c.row e at.found free);
        });
  }

  -- another page under the key
  pub presents_other : replaces asked.mode ≡ false → stored.handle.0 ≢ asked.handle.0
      → Presents slots by_handle head s asked slots by_handle (plainly OtherPage head)
  presents_other q other = record {
    follows = λ by_key marks c key e H at free.
        follows_as (keeps_exists key asked.handle.0 asked.page e.page c asked.mode q ∙ ap {B = Outcome} (if_same key c) (ne_eqb e.page.handle asked.handle.0 (λ same. other (old_handle H at loaded ∙ same))))
        (plain_follows OtherPage H);
  }

  -- the same page
  pub presents_same : {slots' : List ℕ} → replaces asked.mode ≡ false → stored.handle.0 ≡ asked.handle.0 → Touches slots s slots'
      → Presents slots by_handle head s asked slots' by_handle (plainly KeyExists head)
  presents_same q same t = record {
    follows = λ by_key marks c key e H at free.
        follows_as (keeps_exists key asked.handle.0 asked.page e.page c asked.mode q ∙ ap {B = Outcome} (if_same key c) (eq-eqb e.page.handle asked.handle.0 (sym (old_handle H at loaded) ∙ same)))
        (touching_follows (plain_follows KeyExists (t _ _ _ _ _ _ _ H at)));
  }
