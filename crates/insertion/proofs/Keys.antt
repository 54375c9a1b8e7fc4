-- By what stands under the key: nothing, and then the key is new; a page that is stale; or one that is loaded or locked.
use mathlib.Core.Path.{◌≡◌, refl, sym, ap, ◌∙◌, subst}
use mathlib.Core.Bool.{Bool, true, false}
use mathlib.Core.List.{List, []}
use mathlib.Core.Option.{Option, none, some}
use Prim.Native.Nat.{ℕ, ◌<◌}
use lib.Dec.{eqb}
use lib.ListN.{length, get_or}
use Rattle.page.specs.Record.{stale}
use Rattle.page.specs.declared.cache.PageCache.{PageCache}
use Rattle.page.specs.declared.entry.PageCacheEntry.{PageCacheEntry}
use Rattle.pool.specs.Slots.{blank, entries}
use Rattle.sorted_index.specs.declared.search.By.TheVariants.{Handle}
use Rattle.model.specs.Cache.{Cache}
use Rattle.model.specs.Call.{Outcome}
use Rattle.model.specs.Row.{Page, Entry, find}
use Rattle.model.specs.Rules.{deleting, present, insert_found, on_insert}
use Rattle.model.proofs.KeptCases.{either}
use Rattle.memory.specs.Memory.{Memory, memory_of, memory_seen}
use Rattle.memory.specs.declared.lent.LentView.{LentView}
use Rattle.memory.specs.Holds.{Holds}
use Rattle.answer.specs.declared.answered.Answered.{Answered}
use Rattle.answer.proofs.Steps.{comes_as, wrote_none, unlisted_comes}
use Rattle.moves.specs.Moves.{KeyAt, GapIn, Replaceable}
use Rattle.moves.proofs.Search.{handle_miss}
use Rattle.moves.proofs.Removal.{slot_inside}
use Rattle.deletion.proofs.Deleting.{stored_is}
use Rattle.insertion.specs.declared.mode.NewPage.{NewPage}
use Rattle.insertion.specs.declared.mode.InsertMode.{InsertMode}
use Rattle.insertion.specs.declared.mode.InsertMode.TheVariants.{Plain, Forced, Upsert}
use Rattle.insertion.specs.Mode.{insertion_of}
use Rattle.insertion.specs.Admit.{admitting, Admits}
use Rattle.insertion.specs.Present.{Presents}
use Rattle.insertion.specs.Renew.{KeyFound, InsertsStale}
use Rattle.insertion.proofs.Names.{absent_new}
use Rattle.insertion.specs.Insert.{InsertsFound, Insertable, Inserts}

-- ── the model's rule ─────────────────────────────────────────────────────────
module _ (asked : NewPage) where
  abbrev found_as : Option Entry → Cache → Outcome
  found_as = insert_found asked.key.0 asked.handle.0 asked.page (insertion_of asked.mode)

  by_key : {v : Option Entry} (c : Cache) → find asked.key.0 c.row ≡ v
      → on_insert asked.key.0 asked.handle.0 asked.page (insertion_of asked.mode) c ≡ found_as v c
  unfolding on_insert
  by_key c q = ap {B = Outcome} (λ (v : Option Entry). found_as v c) q

  abbrev present_as : Page → Cache → Outcome
  present_as = present asked.key.0 asked.handle.0 asked.page (insertion_of asked.mode)

  by_staleness : {b : Bool} (e : Entry) (c : Cache) → stale e.page.state ≡ b
      → found_as (some e) c ≡ elim b [ true ↦ deleting e.page (admitting asked) c | false ↦ present_as e.page c ]
  by_staleness e c q = ap {B = Outcome} (λ (b : Bool). elim b [ true ↦ deleting e.page (admitting asked) c | false ↦ present_as e.page c ]) q

  -- a page that stays where it is: nothing is listed
  present_lists : (p : Page) (c : Cache) → (present_as p c).listed ≡ []
  present_lists p c = go asked.mode
    where
      go : (mode : InsertMode) → (present asked.key.0 asked.handle.0 asked.page (insertion_of mode) p c).listed ≡ []
      go Plain = either (λ (o : Outcome). o.listed ≡ []) (eqb p.handle asked.handle.0) (λ _. refl) (λ _. refl)
      go Forced = either (λ (o : Outcome). o.listed ≡ []) (eqb p.handle asked.handle.0) (λ _. refl) (λ _. refl)
      go Upsert = refl

-- ── gaps ────────────────────────────────────────────────────────────────────
-- one that was found where the memory is lent to be read
module _ (v : LentView) {m : Memory} (same : memory_seen v ≡ m) {held name gap : ℕ} where
  pub gap_by_handle : GapIn Handle v.slots.now v.by_handle.now held name gap → GapIn Handle m.slots m.by_handle held name gap
  gap_by_handle = subst (λ (x : Memory). GapIn Handle x.slots x.by_handle held name gap) same

-- ── the key is absent ────────────────────────────────────────────────────────
module _ {m : Memory} {head : PageCache} {list : List ℕ} {asked : NewPage} where
  module _ {m' : Memory} {list' : List ℕ} {r : Answered} where
    pub inserts_absent : ((c : Cache) → Holds m head c → find asked.key.0 c.row ≡ none) → Admits m head list 0 asked m' list' r
        → Inserts m head list asked m' list' r
    inserts_absent absent admits = record {
      comes = λ c H k free.
          comes_as (by_key asked c (absent c H))
          (admits.comes c [] list H k (absent_new asked.key.0 asked.handle.0 c.row (absent c H) free) (wrote_none list) refl);
    }

    -- ── the key is there ─────────────────────────────────────────────────────
    pub inserts_found : {s : ℕ} → ((c : Cache) → Holds m head c → KeyAt c.row asked.key.0 s) → InsertsFound m head list s asked m' list' r
        → Inserts m head list asked m' list' r
    inserts_found at found = record {
      comes = λ c H k free.
          comes_as (by_key asked c (at c H).stands.found) (found.comes c (at c H).entry H k (at c H).stands free);
    }

  pub key_found : {s gap : ℕ} (w : Insertable m head list gap asked) → KeyAt w.cache.row asked.key.0 s → KeyFound m head list s asked
  key_found w t = record {
    cache = w.cache;
    entry = t.entry;
    holds = w.holds;
    kept = w.kept;
    stands = t.stands;
    free = handle_miss w.holds refl asked.key.0 asked.handle.0 w.nowhere;
    flags = w.flags;
    long = w.long;
  }

-- ── loaded or locked, or neither ─────────────────────────────────────────────
module _ {m : Memory} {head : PageCache} {list : List ℕ} {s : ℕ} {asked : NewPage} where
  pub found_inside : KeyFound m head list s asked → s < length (entries m.slots)
  found_inside w = slot_inside w.holds w.stands

  pub found_replaceable : KeyFound m head list s asked → Replaceable m.slots m.by_handle head s asked.handle.0 asked.page
  found_replaceable w = record {
    by_key = m.by_key;
    marks = m.marks;
    cache = w.cache;
    key = asked.key.0;
    entry = w.entry;
    holds = w.holds;
    stands = w.stands;
    free = w.free;
    flags = w.flags;
  }

  -- what is loaded is the entry
  module _ {stored : PageCacheEntry} {b : Bool} (loaded : stored ≡ get_or (entries m.slots) s blank) (tested : b ≡ stale stored.page) where
    pub found_stale : {m' : Memory} {list' : List ℕ} {r : Answered} → b ≡ true → InsertsStale m head list s asked m' list' r
        → InsertsFound m head list s asked m' list' r
    found_stale q inserts = record {
      comes = λ c e H k at free.
          comes_as (by_staleness asked e c (ap (λ (x : Entry). stale x.page.state) (sym (stored_is H at loaded)) ∙ sym tested ∙ q)) (inserts.comes c e H k at free);
    }

    pub found_present : {slots' by_handle' : List ℕ} {r : Answered} → b ≡ false
        → Presents m.slots m.by_handle head s asked slots' by_handle' r
        → InsertsFound m head list s asked (memory_of slots' m.by_key by_handle' m.marks) list r
    found_present q presents = record {
      comes = λ c e H k at free.
          comes_as (by_staleness asked e c (ap (λ (x : Entry). stale x.page.state) (sym (stored_is H at loaded)) ∙ sym tested ∙ q))
          (unlisted_comes (presents.follows m.by_key m.marks c asked.key.0 e H at free) (present_lists asked e.page c));
    }
