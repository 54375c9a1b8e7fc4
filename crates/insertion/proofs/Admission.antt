-- A page under an absent key. Evictions leave pages that were there, so that the key and the handle are still new; where they
-- made room, a slot is free; and where they did not, the mode decides.
use mathlib.Core.Path.{◌≡◌, refl, sym, ap, ◌∙◌, subst}
use mathlib.Core.Bool.{Bool, true, false, not, ◌&&◌, false≢true}
use mathlib.Core.List.{List, [], ◌∷◌, append-nil}
use mathlib.Core.Logic.{◌≢◌}
use Prim.Native.Nat.{ℕ, ◌+◌, ◌≤◌, ◌<◌}
use native.Mathlib.Omega.{arith}
use lib.ListN.{length}
use borrow.Author.Tests.{ltb-true, not-true, not-false}
use Rattle.page.specs.Cache.{max_slots}
use Rattle.page.specs.Record.{all_flags}
use Rattle.page.specs.declared.cache.PageCache.{PageCache}
use Rattle.page.specs.declared.record.PageRecord.{PageRecord}
use Rattle.free_marks.specs.Marks.{Wide}
use Rattle.model.specs.Cache.{Cache, held_in}
use Rattle.model.specs.Call.{Outcome, answer, listing}
use Rattle.model.specs.Limits.{CacheInvariant}
use Rattle.model.specs.Rooms.{Room, make_room, following}
use Rattle.model.specs.Rules.{place, on_full, in_room}
use Rattle.model.proofs.KeptRooms.{make_room_lem, make_room_spare}
use Rattle.model.proofs.KeptSize.{make_room_size}
use Rattle.memory.specs.Memory.{Memory}
use Rattle.memory.specs.Holds.{Holds}
use Rattle.memory.proofs.Once.{holds_memory}
use Rattle.memory.proofs.OnceKept.{holds_held}
use Rattle.answer.specs.Answer.{code_of, value_of, Wrote, MatchesOutcome}
use Rattle.answer.specs.declared.answer.Answer.{Answer}
use Rattle.answer.specs.declared.answer.Answer.TheVariants.{Done}
use Rattle.answer.proofs.Steps.{comes_as, wrote_then, listing_follows, following_follows}
use Rattle.eviction.specs.Room.{Made}
use Rattle.eviction.specs.declared.making_room.Room as code
use Rattle.moves.specs.declared.finding.Gaps.{Gaps}
use Rattle.moves.specs.Moves.{NewNames, GapsOf, Placeable, Places}
use Rattle.moves.proofs.Search.{gaps_new}
use Rattle.insertion.specs.declared.mode.NewPage.{NewPage}
use Rattle.insertion.specs.declared.mode.InsertMode.{InsertMode}
use Rattle.insertion.specs.declared.mode.InsertMode.TheVariants.{Plain, Forced, Upsert}
use Rattle.insertion.specs.Mode.{insertion_of, goes_in, turned_away}
use Rattle.insertion.specs.Admit.{Admits, KnownBefore}

-- ── the mode decides ─────────────────────────────────────────────────────────
-- no room was made, and the page doesn't go in
abbrev stays_out : InsertMode → Room → Bool
stays_out mode r = r.full && not (goes_in mode (held_in r.cache) r.cache.size)

module _ (key handle : ℕ) (page : PageRecord) where
  abbrev if_free : Cache → Bool → Outcome
  if_free c b = elim b [ true ↦ place key handle page c | false ↦ answer 13 0 c ]

  full_goes : (mode : InsertMode) (c : Cache) → goes_in mode (held_in c) c.size ≡ true
      → on_full key handle page (insertion_of mode) c ≡ place key handle page c
  full_goes Plain c q = absurd (false≢true q)
  full_goes Forced c q = ap {B = Outcome} (if_free c) q
  full_goes Upsert c q = ap {B = Outcome} (if_free c) q

  full_refused : (mode : InsertMode) (c : Cache) → goes_in mode (held_in c) c.size ≡ false
      → on_full key handle page (insertion_of mode) c ≡ answer (code_of (turned_away mode)) (value_of (turned_away mode)) c
  full_refused Plain c q = refl
  full_refused Forced c q = ap {B = Outcome} (if_free c) q
  full_refused Upsert c q = ap {B = Outcome} (if_free c) q

  module _ (mode : InsertMode) (r : Room) where
    abbrev if_full : Bool → Outcome
    if_full b = following r (elim b [ true ↦ on_full key handle page (insertion_of mode) r.cache | false ↦ place key handle page r.cache ])

    room_refused : stays_out mode r ≡ true
        → in_room key handle page (insertion_of mode) r ≡ following r (answer (code_of (turned_away mode)) (value_of (turned_away mode)) r.cache)
    room_refused q = go r.full refl q
      where
        go : (b : Bool) → r.full ≡ b → b && not (goes_in mode (held_in r.cache) r.cache.size) ≡ true
            → in_room key handle page (insertion_of mode) r ≡ following r (answer (code_of (turned_away mode)) (value_of (turned_away mode)) r.cache)
        go true f h = ap {B = Outcome} if_full f ∙ ap {B = Outcome} (following r) (full_refused mode r.cache (not-true _ h))
        go false f h = absurd (false≢true h)

    room_goes : stays_out mode r ≡ false → in_room key handle page (insertion_of mode) r ≡ following r (place key handle page r.cache)
    room_goes q = go r.full refl q
      where
        go : (b : Bool) → r.full ≡ b → b && not (goes_in mode (held_in r.cache) r.cache.size) ≡ false
            → in_room key handle page (insertion_of mode) r ≡ following r (place key handle page r.cache)
        go true f h = ap {B = Outcome} if_full f ∙ ap {B = Outcome} (following r) (full_goes mode r.cache (not-false _ h))
        go false f h = ap {B = Outcome} if_full f

-- a page that goes in has a slot
goes_free : (mode : InsertMode) (held size : ℕ) → goes_in mode held size ≡ true → held < size
goes_free Plain held size q = absurd (false≢true q)
goes_free Forced held size q = ltb-true held size q
goes_free Upsert held size q = ltb-true held size q

room_spare : (mode : InsertMode) (c : Cache) → CacheInvariant c → stays_out mode (make_room c) ≡ false → held_in (make_room c).cache < (make_room c).cache.size
room_spare mode c k q = go (make_room c).full refl q
  where
    go : (b : Bool) → (make_room c).full ≡ b → b && not (goes_in mode (held_in (make_room c).cache) (make_room c).cache.size) ≡ false
        → held_in (make_room c).cache < (make_room c).cache.size
    go true f h = goes_free mode _ _ (not-false _ h)
    go false f h = omega (arith, make_room_spare c k f, make_room_size c)

-- evictions leave pages that were there
still_new : {key handle : ℕ} (c : Cache) → CacheInvariant c → NewNames key handle c.row → NewNames key handle (make_room c).cache.row
still_new {key} {handle} c k new = record {
  keys = (make_room_lem c k).pages (λ p. key ≢ p.key) new.keys;
  handles = (make_room_lem c k).pages (λ p. handle ≢ p.handle) new.handles;
}

-- ── after the evictions ──────────────────────────────────────────────────────
empty : (l : List ℕ) → length l ≡ 0 → l ≡ []
empty [] q = refl
empty (x ∷ l) q = absurd (omega arith)

module _ {m : Memory} {head : PageCache} {c : Cache} (H : Holds m head c) {list : List ℕ} {listed : ℕ} {m' : Memory} {list' : List ℕ} {r : code.Room}
    (made : Made (make_room c) list listed m' list' r) where
  -- so few handles are listed that their number fits
  pub few_listed : CacheInvariant c → listed + head.held ≤ max_slots → r.listed ≤ max_slots
  few_listed k few = omega (arith, made.listed, (make_room_lem c k).count, holds_held H)

  -- an answer after them
  came : {gone before : List ℕ} → Wrote gone before list → length gone ≡ listed → (a : Answer) {after : Cache} {m'' : Memory} {head'' : PageCache} → Holds m'' head'' after
      → MatchesOutcome (listing gone (following (make_room c) (answer (code_of a) (value_of a) after))) before m'' list'
      (record { answer = a; passed = r.passed; listed = r.listed; head = head'' })
  came {gone} w count a H'' = record {
    follows = listing_follows gone (following_follows (make_room c) a H'' made.passed refl) (omega (arith, made.listed));
    wrote = rw (append-nil (make_room c).gone) (wrote_then w (make_room c).gone (rw (← count) at made.handles));
  }

  -- the gaps. If no page went, the memory is what it was
  module _ (asked : NewPage) {gaps : Gaps} (k : CacheInvariant c) (wide : Wide m.marks) (wide' : Wide m'.marks)
      (right : GapsOf m head.held asked.key.0 asked.handle.0 gaps) where
    still_right : r.listed ≡ listed → GapsOf m' r.head.held asked.key.0 asked.handle.0 gaps
    still_right q =
        let none_went : (make_room c).gone ≡ [] = empty (make_room c).gone (omega (arith, made.listed)) in
        let same = holds_memory wide wide' H (subst (Holds m' r.head) ((make_room_lem c k).still none_went) made.holds) in
        subst (λ (x : Memory). GapsOf x r.head.held asked.key.0 asked.handle.0 gaps) same.0
        (subst (λ (h : PageCache). GapsOf m h.held asked.key.0 asked.handle.0 gaps) same.1 right)

    pub room_known : KnownBefore m' r.head listed r.listed gaps asked
    room_known = record {
      new = record { marks = m'.marks; cache = (make_room c).cache; holds = made.holds; new = still_new c k (gaps_new H right) };
      still = still_right;
    }

  -- the test as the code makes it
  module _ (mode : InsertMode) {goes : Bool} (tested : goes ≡ goes_in mode r.head.held (length m'.by_key)) where
    as_model : r.full && not goes ≡ stays_out mode (make_room c)
    as_model =
        let held : r.head.held ≡ held_in (make_room c).cache = sym (holds_held made.holds) in
        let same : goes ≡ goes_in mode (held_in (make_room c).cache) (make_room c).cache.size = tested ∙ (λ i. goes_in mode (held i) (made.holds.lengths.by_key i)) in
        λ i. made.full i && not (same i)

    pub room_placeable : {gaps : Gaps} {key handle : ℕ} {page : PageRecord} → CacheInvariant c
        → GapsOf m' r.head.held key handle gaps → page.flags ≤ all_flags → r.full && not goes ≡ false
        → Placeable m' r.head gaps key handle page
    room_placeable k right flags q = record {
      cache = (make_room c).cache;
      holds = made.holds;
      right = right;
      room = room_spare mode c k (sym as_model ∙ q);
      flags = flags;
    }

-- ── of every cache that the memory holds ─────────────────────────────────────
module _ {m : Memory} {head : PageCache} {list : List ℕ} {listed : ℕ} {m' : Memory} {list' : List ℕ} {r : code.Room}
    (made : (c : Cache) → Holds m head c → Made (make_room c) list listed m' list' r) {asked : NewPage} {goes : Bool}
    (tested : goes ≡ goes_in asked.mode r.head.held (length m'.by_key)) where
  pub admits_refused : {a : Answer} → a ≡ turned_away asked.mode → r.full && not goes ≡ true
      → Admits m head list listed asked m' list' (record { answer = a; passed = r.passed; listed = r.listed; head = r.head })
  admits_refused away q =
      rw away
      (record {
        comes = λ c gone before H k new w count.
            comes_as (ap {B = Outcome} (listing gone) (room_refused asked.key.0 asked.handle.0 asked.page asked.mode (make_room c) (sym (as_model H (made c H) asked.mode tested) ∙ q)))
            (came H (made c H) w count (turned_away asked.mode) (made c H).holds);
      })

  pub admits_placed : {m'' : Memory} {head'' : PageCache} → r.full && not goes ≡ false → Places m' r.head asked.key.0 asked.handle.0 asked.page m'' head''
      → Admits m head list listed asked m'' list' (record { answer = Done 0; passed = r.passed; listed = r.listed; head = head'' })
  admits_placed q places = record {
    comes = λ c gone before H k new w count.
        comes_as (ap {B = Outcome} (listing gone) (room_goes asked.key.0 asked.handle.0 asked.page asked.mode (make_room c) (sym (as_model H (made c H) asked.mode tested) ∙ q)))
        (came H (made c H) w count (Done 0) (places (make_room c).cache (made c H).holds (still_new c k new)));
  }
