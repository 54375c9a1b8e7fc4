-- The loop of the sweeping deletions: what was deleted and what is left come together to the whole, and the list has a place
-- for every page that is still held.
use mathlib.Core.Path.{◌≡◌, refl, sym, ap, ◌∙◌, subst}
use mathlib.Core.Bool.{Bool, true, false}
use mathlib.Core.List.{List, [], ◌∷◌, ◌++◌, append-nil}
use Prim.Native.Nat.{ℕ, ◌+◌, ◌≤◌, ◌<◌}
use native.Mathlib.Omega.{arith}
use lib.ListN.{length, get_or, drop, length-append, length-drop}
use Rattle.page.specs.Cache.{max_slots}
use Rattle.page.specs.declared.cache.PageCache.{PageCache}
use Rattle.page.specs.declared.entry.PageCacheEntry.{PageCacheEntry}
use Rattle.pool.specs.Slots.{blank, entries}
use Rattle.model.specs.Cache.{Cache}
use Rattle.model.specs.Call.{Outcome, answer, listing}
use Rattle.model.specs.Row.{Page, Entry, sorted_by_key, those}
use Rattle.model.specs.Rules.{delete_each}
use Rattle.memory.specs.Memory.{Memory}
use Rattle.memory.specs.Holds.{Holds, Sound, seen}
use Rattle.memory.proofs.OnceKept.{holds_held, holds_fits}
use Rattle.memory.proofs.Walks.{walk_fits, walk_inside}
use Rattle.answer.specs.Answer.{code_of, value_of, Wrote, MatchesOutcome, ReadyToCall}
use Rattle.answer.specs.declared.answer.Answer.{Answer}
use Rattle.answer.specs.declared.answer.Answer.TheVariants.{Done}
use Rattle.answer.proofs.Steps.{wrote_none, wrote_next, plain_follows, listing_follows, deleting_refused, comes_as}
use Rattle.moves.specs.Moves.{StandsAt}
use Rattle.deletion.specs.Deletion.{CanDelete, Goes, Stays}
use Rattle.truncation.specs.Deletions.{page_at, Walkable, Chooses}
use Rattle.truncation.proofs.Places.{place_stands, place_held}
use Rattle.truncation.proofs.Chosen.{none_missed}
use Rattle.truncation.proofs.Remaining.{left, Toward, toward_end, toward_passed, toward_one, toward_deleted}

-- what all the deletions come to
abbrev wholly : (Page → Bool) → Cache → Outcome
wholly test c = delete_each (those test (sorted_by_key c.row)) c

-- from memory m with the head and the list at first, to m' with head' and list' now, where the walk from place `from` is at place i
-- and the list has `count` handles
pub record Progress (answers : PageCacheEntry → Bool → Type 0) (from : ℕ) (m : Memory) (head : PageCache) (list : List ℕ) (m' : Memory) (head' : PageCache) (list' : List ℕ) (count i : ℕ) : Type 0 where
  pub ready : ReadyToCall m head list
  pub sound : Sound m' head'
  pub gone : List ℕ
  pub wrote : Wrote gone list list'
  pub counted : count ≡ length gone
  pub few : count + head'.held ≤ head.held
  pub within : i ≤ head'.held
  pub toward : (test : Page → Bool) → Chooses answers m from test → (c : Cache) → Holds m head c → Toward (wholly test c) test m' head' gone i

pub progress_start : {answers : PageCacheEntry → Bool → Type 0} {m : Memory} {head : PageCache} {list : List ℕ} {from : ℕ} → Walkable m head list from
    → Progress answers from m head list m head list 0 from
progress_start {list = list} {from} w = record {
  ready = w.ready;
  sound = w.ready.sound;
  gone = [];
  wrote = wrote_none list;
  counted = refl;
  few = omega arith;
  within = w.within;
  toward = λ test chooses c H. record {
    now = c;
    holds = H;
    comes = ap {B = Outcome} (λ (ps : List Page). delete_each ps c) (none_missed test H from w.within chooses.none);
  };
}

module _ {answers : PageCacheEntry → Bool → Type 0} {from : ℕ} {m : Memory} {head : PageCache} {list : List ℕ} {m' : Memory} {head' : PageCache} {list' : List ℕ} {count i : ℕ}
    (g : Progress answers from m head list m' head' list' count i) where
  -- no more were listed than were held
  few_gone : length g.gone ≤ length list
  few_gone = omega (arith, g.few, g.counted, g.ready.long)

  pub progress_long : length list' ≡ length list
  progress_long =
      ap length g.wrote.list ∙ length-append g.gone (drop (length g.gone) list) ∙ omega (arith, length-drop (length g.gone) list, few_gone)

  pub progress_count : count ≤ max_slots
  progress_count =
      let H = g.ready.sound.holds in
      omega (arith, g.few, holds_held H, holds_fits H, H.limits.most)

  -- the call ends here with the answer a
  ends : {whole : Outcome} {c' : Cache} {m'' : Memory} {list'' : List ℕ} (a : Answer) → list'' ≡ list' → Holds m'' head' c'
      → whole ≡ listing g.gone (answer (code_of a) (value_of a) c')
      → MatchesOutcome whole list m'' list'' (record { answer = a; passed = 0; listed = count; head = head' })
  ends {c' = c'} {m''} {list''} a same H whole = comes_as whole (record {
    follows = listing_follows g.gone (plain_follows a H) (omega (arith, g.counted));
    wrote = rw append-nil (record { list = same ∙ g.wrote.list });
  })

  -- no page is left
  pub progress_done : head'.held ≤ i → (test : Page → Bool) → Chooses answers m from test → (c : Cache) → Holds m head c
      → MatchesOutcome (wholly test c) list m' list' (record { answer = Done 0; passed = 0; listed = count; head = head' })
  progress_done end test chooses c H = let t = g.toward test chooses c H in ends (Done 0) refl t.holds (toward_end t (omega (arith, g.within)))

  module _ (more : i < head'.held) where
    pub progress_place : i < length m'.by_key
    progress_place = omega (arith, walk_fits g.sound.holds)

    pub progress_slot : get_or m'.by_key i 0 < length (entries m'.slots)
    progress_slot = walk_inside g.sound.holds i more

    pub progress_can_delete : CanDelete m' head' (get_or m'.by_key i 0) list' count
    progress_can_delete = record {
      removable = record { cache = g.sound.cache; key = _; entry = _; holds = g.sound.holds; stands = place_stands g.sound.holds i more };
      within = omega (arith, progress_long, g.few, g.ready.long);
    }

    module _ {e : PageCacheEntry} (loaded : e ≡ get_or (entries m'.slots) (get_or m'.by_key i 0) blank) {chosen : Bool} (answered : answers e chosen) where
      -- the answer for the entry is the test's for its page
      told : (test : Page → Bool) → Chooses answers m from test → test (page_at m'.slots m'.by_key i) ≡ chosen
      told test chooses =
          let s : ℕ = get_or m'.by_key i 0 in
          sym (chooses.told e chosen s answered ∙ ap (λ (x : PageCacheEntry). test (seen s x).page) loaded)

      -- the page is not chosen
      pub progress_passed : chosen ≡ false → Progress answers from m head list m' head' list' count (i + 1)
      progress_passed passes = record {
        ready = g.ready;
        sound = g.sound;
        gone = g.gone;
        wrote = g.wrote;
        counted = g.counted;
        few = g.few;
        within = omega arith;
        toward = λ test chooses c H. toward_passed (g.toward test chooses c H) more (told test chooses ∙ passes);
      }

      -- it is chosen, and is refused
      pub progress_refused : chosen ≡ true → {m'' : Memory} {list'' : List ℕ} {a : Answer}
          → ((c : Cache) (key : ℕ) (e : Entry) → Holds m' head' c → StandsAt c.row key (get_or m'.by_key i 0) e → Stays e.page m' list' m'' list'' a)
          → (test : Page → Bool) → Chooses answers m from test → (c : Cache) → Holds m head c
          → MatchesOutcome (wholly test c) list m'' list'' (record { answer = a; passed = 0; listed = count; head = head' })
      progress_refused goes_now {a = a} stays test chooses c H =
          let p : Page = page_at m'.slots m'.by_key i in
          let t = g.toward test chooses c H in
          let s = stays t.now _ _ t.holds (place_stands t.holds i more) in
          ends a s.list_kept (subst (λ (x : Memory). Holds x head' t.now) (sym s.kept) t.holds)
          (toward_one t more (told test chooses ∙ goes_now)
          ∙ ap {B = Outcome} (listing g.gone) (deleting_refused p (delete_each (left test m' head' (i + 1))) t.now s.why s.hindered
          ∙ ap {B = Outcome} (λ (x : Answer). answer (code_of x) (value_of x) t.now) (sym s.because)))

    -- it goes
    module _ {m'' : Memory} {list'' : List ℕ} {head'' : PageCache} (goes : (c : Cache) (key : ℕ) (e : Entry) → Holds m' head' c
        → StandsAt c.row key (get_or m'.by_key i 0) e → Goes c e.page list' count m'' list'' head'') where
      went : (c : Cache) → Holds m' head' c → Goes c (page_at m'.slots m'.by_key i) list' count m'' list'' head''
      went c H = goes c _ _ H (place_stands H i more)

      pub progress_held : head''.held + 1 ≡ head'.held
      progress_held = place_held g.sound.holds i more (went g.sound.cache g.sound.holds).holds

      pub progress_deleted : {e : PageCacheEntry} → e ≡ get_or (entries m'.slots) (get_or m'.by_key i 0) blank → {chosen : Bool} → answers e chosen → chosen ≡ true
          → Progress answers from m head list m'' head'' list'' (count + 1) i
      progress_deleted loaded answered goes_now = record {
        ready = g.ready;
        sound = record { cache = _; holds = (went g.sound.cache g.sound.holds).holds };
        gone = g.gone ++ (page_at m'.slots m'.by_key i).handle ∷ [];
        wrote = rw ((went g.sound.cache g.sound.holds).listed, g.counted)
            (wrote_next g.wrote (page_at m'.slots m'.by_key i).handle (omega (arith, g.few, g.counted, g.ready.long)));
        counted = omega (arith, g.counted, length-append g.gone ((page_at m'.slots m'.by_key i).handle ∷ []));
        few = omega (arith, g.few, progress_held);
        within = omega (arith, progress_held);
        toward = λ test chooses c H.
            let t = g.toward test chooses c H in
            let w = went t.now t.holds in
            toward_deleted t more (told loaded answered test chooses ∙ goes_now) w.may w.holds;
      }
