-- A deletion at a slot. What is loaded there is the page that stands there, so the reason against it is the model's; and the
-- model's rule 8 goes by that reason alone.
use Rattle.std.specs.Prelude.{Ok, Err}
use mathlib.Core.Path.{◌≡◌, refl, sym, ap, ◌∙◌, subst, subst₃}
use mathlib.Core.List.{List, [], ◌∷◌}
use mathlib.Core.Option.{Option, none}
use Prim.Native.Nat.{ℕ, ◌≤◌, ◌<◌}
use native.Mathlib.Omega.{arith}
use lib.ListN.{length, get_or, set}
use Rattle.page.specs.Record.{deletable}
use Rattle.page.specs.declared.cache.PageCache.{PageCache}
use Rattle.page.specs.declared.entry.PageCacheEntry.{PageCacheEntry}
use Rattle.page.specs.declared.record.Hindrance.{Hindrance}
use Rattle.pool.specs.Slots.{blank, entries}
use Rattle.model.specs.Cache.{Cache}
use Rattle.model.specs.Call.{Outcome, delete, answer}
use Rattle.model.specs.Row.{Page, Entry, find}
use Rattle.model.specs.Rules.{deleting, delete_found}
use Rattle.model.specs.Step.{act, step}
use Rattle.memory.specs.Memory.{Memory, memory_seen}
use Rattle.memory.specs.declared.lent.LentView.{LentView}
use Rattle.memory.specs.Holds.{Holds, seen}
use Rattle.memory.proofs.Standing.{holds_standing}
use Rattle.answer.specs.Answer.{code_of, value_of, refused_as, plainly, MatchesOutcome}
use Rattle.answer.specs.declared.answer.Answer.{Answer}
use Rattle.answer.specs.declared.answer.Answer.TheVariants.{Done, ShortList}
use Rattle.answer.specs.declared.answered.Answered.{Answered}
use Rattle.answer.proofs.Steps.{step_acts, step_short_list, list_short, list_long, comes_as, wrote_none, wrote_next, plain_follows, plain_comes, listing_follows, deleting_done, deleting_refused}
use Rattle.moves.specs.Moves.{StandsAt, KeyAt, Removes}
use Rattle.moves.proofs.Removal.{some_held}
use Rattle.deletion.specs.Deletion.{CanDelete, Goes, Stays}

-- what the memory holds is seen where it is lent to be read
pub seen_holds : (v : LentView) {m : Memory} {head : PageCache} {c : Cache} → memory_seen v ≡ m → Holds m head c → Holds (memory_seen v) head c
seen_holds v {head = head} {c = c} same H = subst (λ (x : Memory). Holds x head c) (sym same) H

-- ── the page at the slot ─────────────────────────────────────────────────────
module _ {m : Memory} {head : PageCache} {c : Cache} {key s : ℕ} {e : Entry} (H : Holds m head c) (at : StandsAt c.row key s e)
    {stored : PageCacheEntry} (loaded : stored ≡ get_or (entries m.slots) s blank) where
  -- what is loaded is the page
  pub stored_is : seen s stored ≡ e
  stored_is = ap {B = Entry} (seen s) loaded ∙ sym (holds_standing H key at.found at.slot).entry_is

  pub page_goes : deletable stored.page ≡ Ok tt → {list : List ℕ} {place : ℕ} {m' : Memory} {head' : PageCache} → Removes m head s m' head'
      → Goes c e.page list place m' (set list place stored.handle.0) head'
  page_goes granted {list} {place} removes = record {
    may = ap (λ (x : Entry). deletable x.page.state) (sym stored_is) ∙ granted;
    holds = removes c key e H at;
    listed = ap {B = List ℕ} (λ (x : Entry). set list place x.page.handle) stored_is;
  }

  pub page_stays : {why : Hindrance} → deletable stored.page ≡ Err why → {list : List ℕ} {a : Answer} → a ≡ refused_as stored.key (Err why)
      → Stays e.page m list m list a
  page_stays {why} refused because = record {
    why = why;
    hindered = ap (λ (x : Entry). deletable x.page.state) (sym stored_is) ∙ refused;
    because = because ∙ ap {B = Answer} (λ (x : Entry). refused_as (record { 0 = x.page.key }) (Err why)) stored_is;
    kept = refl;
    list_kept = refl;
  }

-- a page that a key found can be deleted, if the list has a place for each page that is held
pub can_delete : {m : Memory} {head : PageCache} {c : Cache} {key s : ℕ} {list : List ℕ} → Holds m head c → KeyAt c.row key s
    → head.held ≤ length list → CanDelete m head s list 0
can_delete {c = c} {key = key} H found long = record {
  removable = record { cache = c; key = key; entry = found.entry; holds = H; stands = found.stands };
  within = omega (arith, some_held H found.stands);
}

-- ── what rule 8 says of it ───────────────────────────────────────────────────
module _ {c : Cache} {p : Page} {list : List ℕ} {m' : Memory} {list' : List ℕ} where
  -- the page goes, is listed first, and `done` is answered
  pub goes_comes : (done : Answer) {head' : PageCache} → 0 < length list → Goes c p list 0 m' list' head'
      → MatchesOutcome (deleting p (answer (code_of done) (value_of done)) c) list m' list' (record { answer = done; passed = 0; listed = 1; head = head' })
  goes_comes done place goes = comes_as (deleting_done p (answer (code_of done) (value_of done)) c goes.may) (record {
    follows = listing_follows (p.handle ∷ []) (plain_follows done goes.holds) refl;
    wrote = rw goes.listed (wrote_next (wrote_none list) p.handle place);
  })

  -- the page stays, whatever was to follow
  pub stays_comes : (follow : Cache → Outcome) {m : Memory} {head : PageCache} {a : Answer} → Holds m head c → Stays p m list m' list' a
      → MatchesOutcome (deleting p follow c) list m' list' (plainly a head)
  stays_comes follow {m} {head} H stays =
      let why : Answer = refused_as (record { 0 = p.key }) (Err stays.why) in
      comes_as (deleting_refused p follow c stays.why stays.hindered)
      (subst₃ (λ (x : Memory) (l : List ℕ) (a : Answer). MatchesOutcome (answer (code_of why) (value_of why) c) list x l (plainly a head)) (sym stays.kept) (sym stays.list_kept) (sym stays.because)
      (plain_comes why H list))

-- ── the call ─────────────────────────────────────────────────────────────────
delete_found_lem : (key : ℕ) {places : ℕ} {m : Memory} {head : PageCache} {c : Cache} {found : Option Entry} → Holds m head c → head.held ≤ places
    → find key c.row ≡ found → step (delete key places) c ≡ delete_found found c
unfolding act
delete_found_lem key {places} {c = c} H long is =
    step_acts (delete key places) (record { capacity = refl; state = refl; places = list_long H long; naming = refl })
    ∙ ap {B = Outcome} (λ (x : Option Entry). delete_found x c) is

module _ {m : Memory} {head : PageCache} {c : Cache} (H : Holds m head c) (key : ℕ) {list : List ℕ} where
  pub delete_short : length list < head.held → MatchesOutcome (step (delete key (length list)) c) list m list (plainly ShortList head)
  delete_short short = comes_as (step_short_list (delete key (length list)) refl refl (list_short H short)) (plain_comes ShortList H list)

  module _ (long : head.held ≤ length list) where
    pub delete_absent : find key c.row ≡ none → MatchesOutcome (step (delete key (length list)) c) list m list (plainly (Done 0) head)
    delete_absent absent = comes_as (delete_found_lem key H long absent) (plain_comes (Done 0) H list)

    pub delete_there : {s : ℕ} {e : Entry} → StandsAt c.row key s e → {m' : Memory} {list' : List ℕ} {r : Answered}
        → MatchesOutcome (deleting e.page (answer 0 0) c) list m' list' r → MatchesOutcome (step (delete key (length list)) c) list m' list' r
    delete_there at comes = comes_as (delete_found_lem key H long at.found) comes
