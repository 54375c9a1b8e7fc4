-- Rules 6 to 12, a call at a time.
use Rattle.std.specs.Prelude.{Bool, true, false, not, ◌&&◌, List, [], ◌∷◌, map, ℕ, eqb, ltb, Ok, Err, Some, None}
use Rattle.std.proofs.Math.Option.{Option, none, some}
use Rattle.page.specs.Cache.{page_one}
use Rattle.page.specs.Record.{Holders, dirty, tagged, stale, deletable, one_holder_more, one_holder_less}
use Rattle.page.specs.declared.record.Hindrance.TheVariants.{Locked, Dirty, Pinned}
use Rattle.page.specs.declared.record.PageRecord.{PageRecord}
use Rattle.model.specs.Row.{Page, Entry, Row, find, sorted_by_key, those}
use Rattle.model.specs.Cache.{Cache, held_in, with_row, with_estimate, with_capacity, up, down, new_page, enter, leave, touch, rewrite, held_by, replace}
use Rattle.model.specs.Call.{Insertion, plain, forced, upsert, Outcome, answer, listing, touching}
use Rattle.model.specs.Rooms.{Room, sweep_of, evicted, enough, sweeping, evict_to, make_room, following}

-- ── rule 8 ───────────────────────────────────────────────────────────────────
-- the page is deleted and listed, and then something follows; or the first of locked, dirty, pinned refuses it, giving
-- the key. Holders aren't tested, and page 1 may be deleted
abbrev pub deleting : Page → (Cache → Outcome) → Cache → Outcome
deleting p follow c = elim (deletable p.state) [
  | Ok _ ↦ listing (p.handle ∷ []) (follow (leave p c))
  | Err Locked ↦ answer 5 p.key c
  | Err Dirty ↦ answer 6 p.key c
  | Err Pinned ↦ answer 7 p.key c
]

abbrev pub delete_found : Option Entry → Cache → Outcome
delete_found none c = answer 0 0 c
delete_found (some e) c = deleting e.page (answer 0 0) c

-- an absent key is done
abbrev pub on_delete : ℕ → Cache → Outcome
on_delete key c = delete_found (find key c.row) c

-- ── rules 5, 6 and 7: insertion ──────────────────────────────────────────────
module _ (key handle : ℕ) (state : PageRecord) where
  abbrev pub place : Cache → Outcome
  place c = answer 0 0 (enter (new_page key handle state c) c)

  -- without making room, if a slot is free
  abbrev pub place_if_free : Cache → Outcome
  place_if_free c = elim (ltb (held_in c) c.size) [ true ↦ place c | false ↦ answer 13 0 c ]

  -- no room could be made: the forced forms go in without it
  abbrev pub on_full : Insertion → Cache → Outcome
  on_full plain c = answer 8 0 c
  on_full forced c = place_if_free c
  on_full upsert c = place_if_free c

  -- after the attempt to make room
  abbrev pub in_room : Insertion → Room → Outcome
  in_room how r = following r (elim r.full [ true ↦ on_full how r.cache | false ↦ place r.cache ])

  -- the key is absent
  abbrev pub admit : Insertion → Cache → Outcome
  admit how c = in_room how (make_room c)

  -- a present key with the same handle: one touch, the stored record stays; with another: nothing
  abbrev pub key_exists : Page → Cache → Outcome
  key_exists p c = elim (eqb p.handle handle) [ true ↦ touching (answer 9 0 (touch key c)) | false ↦ answer 11 0 c ]

  -- rule 6 on a present key that is loaded or locked
  abbrev pub present : Insertion → Page → Cache → Outcome
  present plain p c = key_exists p c
  present forced p c = key_exists p c
  present upsert p c = touching (answer 0 p.handle (replace p handle state (touch key c)))

  -- rule 6. Neither loaded nor locked: delete it and go on as absent
  abbrev pub insert_found : Insertion → Option Entry → Cache → Outcome
  insert_found how none c = admit how c
  insert_found how (some e) c = elim (stale e.page.state) [ true ↦ deleting e.page (admit how) c | false ↦ present how e.page c ]

  unfoldable pub on_insert : Insertion → Cache → Outcome
  on_insert how c = insert_found how (find key c.row) c

-- ── rule 9: lookup, peek and release ─────────────────────────────────────────
-- a hit answers the page's handle and adds one holder, with a touch or without; if the record can't count one more, nothing is changed
abbrev pub hit_with : ℕ → Holders → Bool → Page → Cache → Outcome
hit_with key (Some holders) true p c = touching (answer 0 p.handle (touch key (held_by key holders p c)))
hit_with key (Some holders) false p c = answer 0 p.handle (held_by key holders p c)
hit_with key None touches p c = answer 20 0 c

abbrev pub hit : ℕ → Bool → Page → Cache → Outcome
hit key touches p c = hit_with key (one_holder_more p.state) touches p c

-- a page neither loaded nor locked is deleted, and the answer is 4; any other is a hit, with a touch
abbrev pub lookup_found : ℕ → Option Entry → Cache → Outcome
lookup_found key none c = answer 4 0 c
lookup_found key (some e) c = elim (stale e.page.state) [ true ↦ deleting e.page (answer 4 0) c | false ↦ hit key true e.page c ]

abbrev pub on_lookup : ℕ → Cache → Outcome
on_lookup key c = lookup_found key (find key c.row) c

-- tests neither, and touches only if asked
abbrev pub peek_found : ℕ → Bool → Option Entry → Cache → Outcome
peek_found key asked none c = answer 4 0 c
peek_found key asked (some e) c = hit key asked e.page c

abbrev pub on_peek : ℕ → Bool → Cache → Outcome
on_peek key asked c = peek_found key asked (find key c.row) c

-- the page has one holder less, whatever else its record says; if there is none, nothing is changed
abbrev pub release_with : ℕ → Holders → Page → Cache → Outcome
release_with key (Some holders) p c = answer 0 0 (held_by key holders p c)
release_with key None p c = answer 20 0 c

abbrev pub release_found : ℕ → Option Entry → Cache → Outcome
release_found key none c = answer 4 0 c
release_found key (some e) c = release_with key (one_holder_less e.page.state) e.page c

abbrev pub on_release : ℕ → Cache → Outcome
on_release key c = release_found key (find key c.row) c

-- ── rule 10: resize ──────────────────────────────────────────────────────────
-- on Full answer 10, keeping capacity and threshold
abbrev pub resized : ℕ → Room → Outcome
resized capacity r = following r (elim r.full [ true ↦ answer 10 0 r.cache | false ↦ answer 0 0 (with_capacity capacity r.cache) ])

-- to the same capacity does nothing; otherwise evict while held > the new one
abbrev pub on_resize : ℕ → Cache → Outcome
on_resize capacity c = elim (eqb capacity c.capacity) [ true ↦ answer 0 0 c | false ↦ resized capacity (evict_to capacity c) ]

-- ── rule 11: the sweeping deletions ──────────────────────────────────────────
-- one page after another, up to the first refusal
unfoldable pub delete_each : List Page → Cache → Outcome
delete_each [] c = answer 0 0 c
delete_each (p ∷ ps) c = deleting p (delete_each ps) c

-- keys above the limit
abbrev pub on_truncate : ℕ → Cache → Outcome
on_truncate limit c = delete_each (those (λ p. ltb limit p.key) (sorted_by_key c.row)) c

-- clean tagged pages with frame above the limit
abbrev pub newer_than : ℕ → Page → Bool
newer_than limit p = not (dirty p.state) && tagged p.state && ltb limit p.state.frame

abbrev pub on_remove_frames : ℕ → Cache → Outcome
on_remove_frames limit c = delete_each (those (newer_than limit) (sorted_by_key c.row)) c

-- everything goes; the estimate is 0, capacity and switch stay
abbrev pub emptied : Cache → Outcome
emptied c = listing (map (λ e. e.page.handle) (sorted_by_key c.row)) (answer 0 0 (with_estimate 0 (with_row [] c)))

-- or 6 for the first dirty key, and nothing is removed
abbrev pub clear_unless : List Page → Cache → Outcome
clear_unless [] c = emptied c
clear_unless (p ∷ ps) c = answer 6 p.key c

abbrev pub on_clear : Bool → Cache → Outcome
on_clear true c = emptied c
on_clear false c = clear_unless (those (λ p. dirty p.state) (sorted_by_key c.row)) c

-- ── rule 12: notifications and the record write ──────────────────────────────
-- for a present page other than 1, whatever its flags; an absent key answers 0
abbrev pub notified : (ℕ → ℕ) → Option Entry → Cache → Outcome
notified by none c = answer 0 0 c
notified by (some e) c = elim (page_one e.page.key) [ true ↦ answer 0 0 c | false ↦ answer 0 0 (with_estimate (by c.estimate) c) ]

abbrev pub on_dirty : ℕ → Cache → Outcome
on_dirty key c = notified down (find key c.row) c

abbrev pub on_spilled : ℕ → Cache → Outcome
on_spilled key c = notified up (find key c.row) c

abbrev pub write_found : ℕ → PageRecord → Option Entry → Cache → Outcome
write_found key state none c = answer 4 0 c
write_found key state (some e) c = answer 0 0 (rewrite key state c)

abbrev pub on_write : ℕ → PageRecord → Cache → Outcome
on_write key state c = write_found key state (find key c.row) c

-- ── one eviction, asked for ──────────────────────────────────────────────────
abbrev pub evict_answer : Room → Outcome
evict_answer r = following r (elim r.full [ true ↦ answer 8 0 r.cache | false ↦ answer 0 0 r.cache ])

abbrev pub evict_from : Row → Cache → Outcome
evict_from [] c = answer 14 0 c
evict_from (e ∷ es) c = evict_answer (sweeping c (sweep_of c).victim (enough (evicted c)))

abbrev pub on_evict_one : Cache → Outcome
on_evict_one c = evict_from c.row c
