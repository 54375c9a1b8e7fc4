-- 01's sweeps to check by hand, P1 to P9 and the others that need no memory, and an example of each call and each answer, as a
-- table. `proofs/Examples.antt` has the one statement that covers it.
use Rattle.std.specs.Prelude.{true, false, List, [], ◌∷◌, ◌++◌, map, ℕ, ◌*◌, ◌-◌, length, drop}
use Rattle.page.specs.declared.record.PageRecord.{PageRecord}
use Rattle.model.specs.Row.{Row}
use Rattle.model.specs.Cache.{Cache, fresh}
use Rattle.model.specs.Call.{Call, Insertion, plain, forced, upsert, create, insert, lookup, peek, release, delete, resize, truncate, remove_frames, clear, notify_dirty, notify_spilled, write, spill, evict_one, switch, Outcome}
use Rattle.model.specs.Step.{step, run, run_touches, run_falls}

-- ── pages and calls ──────────────────────────────────────────────────────────
-- a pool of 256 slots, as the replay program has it, unless said, and a list of as many places
abbrev pub pool : ℕ
pool = 256

abbrev pub page : (flags pins holders frame : ℕ) → PageRecord
page flags pins holders frame = record { flags = flags; pins = pins; holders = holders; cells = 0; frame = frame }

-- a page with these flags, unpinned, held by nobody else
abbrev pub flags : ℕ → PageRecord
flags n = page n 0 0 0

-- clean and loaded; dirty and loaded; locked and loaded; and two that are stale, one of them dirty
abbrev pub clean : PageRecord
clean = flags 1

abbrev pub changed : PageRecord
changed = flags 5

abbrev pub busy : PageRecord
busy = flags 3

abbrev pub unloaded : PageRecord
unloaded = flags 0

abbrev pub unloaded_dirty : PageRecord
unloaded_dirty = flags 4

-- clean, loaded and pinned; and held by somebody else
abbrev pub pinned : PageRecord
pinned = page 1 1 0 0

abbrev pub held : PageRecord
held = page 1 0 1 0

-- clean, loaded and tagged, of a frame
abbrev pub tagged : ℕ → PageRecord
tagged frame = page 17 0 0 frame

-- a call that puts page k in under the handle 10 * k
abbrev pub put : Insertion → PageRecord → ℕ → Call
put how state k = insert how k (10 * k) state pool

-- a touch that leaves no holder behind: an insertion that is answered 9
abbrev pub touch_all : List ℕ → List Call
touch_all ks = map (put plain clean) ks

-- ── what is compared ─────────────────────────────────────────────────────────
pub record Told : Type 0 where
  pub code : ℕ
  pub value : ℕ
  pub passed : ℕ
  pub listed : List ℕ

abbrev pub told : (code value passed : ℕ) → List ℕ → Told
told code value passed listed = record { code = code; value = value; passed = passed; listed = listed }

abbrev pub tell_of : Outcome → Told
tell_of o = told o.code o.value o.passed o.listed

-- what the calls answer, one after another
unfoldable pub answers : List Call → Cache → List Told
answers [] c = []
answers (call ∷ calls) c = tell_of (step call c) ∷ answers calls (step call c).cache

-- an entry as its key and use count
pub record Seat : Type 0 where
  pub key : ℕ
  pub uses : ℕ

abbrev pub seat : ℕ → ℕ → Seat
seat key uses = record { key = key; uses = uses }

abbrev pub seats : Row → List Seat
seats row = map (λ e. seat e.page.key e.uses) row

-- ── the table ────────────────────────────────────────────────────────────────
-- what an example shows: the last answers; the cache's capacity, estimate and row from the hand at the end; and the touches of the whole
-- run, and the uses that its sweeps took away
pub record Shown : Type 0 where
  pub ends : List Told
  pub capacity : ℕ
  pub estimate : ℕ
  pub row : List Seat
  pub touches : ℕ
  pub falls : ℕ

pub record Example : Type 0 where
  -- S, the number of slots
  pub slots : ℕ
  -- the capacity at creation
  pub capacity : ℕ
  pub calls : List Call
  pub shows : Shown

-- the cache and the uses at the end
pub record Left : Type 0 where
  pub capacity : ℕ
  pub estimate : ℕ

abbrev pub left : (capacity estimate : ℕ) → Left
left capacity estimate = record { capacity = capacity; estimate = estimate }

pub record Used : Type 0 where
  pub touches : ℕ
  pub falls : ℕ

abbrev pub used : (touches falls : ℕ) → Used
used touches falls = record { touches = touches; falls = falls }

-- no touch, and no use taken away
abbrev pub unused : Used
unused = used 0 0

abbrev pub example_in : (slots capacity : ℕ) → List Call → List Told → Left → Used → List Seat → Example
example_in slots capacity calls ends l u row = record {
  slots = slots;
  capacity = capacity;
  calls = calls;
  shows = record { ends = ends; capacity = l.capacity; estimate = l.estimate; row = row; touches = u.touches; falls = u.falls };
}

abbrev pub example : (capacity : ℕ) → List Call → List Told → Left → Used → List Seat → Example
example capacity calls ends l u row = example_in pool capacity calls ends l u row

abbrev pub last_of : ℕ → List Told → List Told
last_of n l = drop (length l - n) l

-- what the calls of an example come to, from creation
unfoldable pub comes_to : Example → Shown
comes_to x =
    let created = fresh x.slots x.capacity in
    let after = run x.calls created in
    record {
      ends = last_of (length x.shows.ends) (answers x.calls created);
      capacity = after.capacity;
      estimate = after.estimate;
      row = seats after.row;
      touches = run_touches x.calls created;
      falls = run_falls x.calls created;
    }

abbrev pub ten : List Call
ten = map (put plain changed) (2 ∷ 3 ∷ 4 ∷ 5 ∷ 6 ∷ 7 ∷ 8 ∷ 9 ∷ 10 ∷ 11 ∷ [])

abbrev pub nine : List Call
nine = map (put plain changed) (2 ∷ 3 ∷ 4 ∷ 5 ∷ 6 ∷ 7 ∷ 8 ∷ 9 ∷ 10 ∷ [])

abbrev pub ten_seats : List Seat
ten_seats = map (λ k. seat k 0) (2 ∷ 11 ∷ 10 ∷ 9 ∷ 8 ∷ 7 ∷ 6 ∷ 5 ∷ 4 ∷ 3 ∷ [])

abbrev pub nine_seats : List Seat
nine_seats = map (λ k. seat k 0) (2 ∷ 10 ∷ 9 ∷ 8 ∷ 7 ∷ 6 ∷ 5 ∷ 4 ∷ 3 ∷ [])

abbrev pub sweeps : List Example
sweeps =
    -- P1: capacity 3, insert 5, 6, 7, 8, 9: 5 goes, then 7. Ring: 8, 9, 6
    example 3 (map (put plain clean) (5 ∷ 6 ∷ 7 ∷ 8 ∷ 9 ∷ [])) (told 0 0 0 (50 ∷ []) ∷ told 0 0 0 (70 ∷ []) ∷ []) (left 3 3) unused (seat 8 0 ∷ seat 9 0 ∷ seat 6 0 ∷ [])
    -- P2: one page, count 3: passed 3, gone, hand none
    ∷ example 1 (put plain clean 5 ∷ touch_all (5 ∷ 5 ∷ 5 ∷ []) ++ evict_one pool ∷ []) (told 0 0 3 (50 ∷ []) ∷ []) (left 1 0) (used 3 3) []
    -- P3: three pages, count 3: passed 9, the hand's goes, the others have 0
    ∷ example 3 (map (put plain clean) (5 ∷ 6 ∷ 7 ∷ []) ++ touch_all (5 ∷ 6 ∷ 7 ∷ 5 ∷ 6 ∷ 7 ∷ 5 ∷ 6 ∷ 7 ∷ []) ++ evict_one pool ∷ []) (told 0 0 9 (50 ∷ []) ∷ []) (left 3 2) (used 9 9) (seat 7 0 ∷ seat 6 0 ∷ [])
    -- P4: counts 2, 1 from the hand: the second goes, passed 3, the first has 0
    ∷ example 2 (map (put plain clean) (5 ∷ 6 ∷ []) ++ touch_all (5 ∷ 5 ∷ 6 ∷ []) ++ evict_one pool ∷ []) (told 0 0 3 (60 ∷ []) ∷ []) (left 2 1) (used 3 3) (seat 5 0 ∷ [])
    -- P5: capacity 1, page 1 held, insert 2: code 8, passed 4
    ∷ example 1 (put plain clean 1 ∷ put plain clean 2 ∷ []) (told 8 0 4 [] ∷ []) (left 1 0) unused (seat 1 0 ∷ [])
    -- P6: then forced insert 2: passed 4, held 2. Then insert 3: 2 goes, code 8, passed 5
    ∷ example 1 (put plain clean 1 ∷ put plain clean 2 ∷ put forced clean 2 ∷ []) (told 0 0 4 [] ∷ []) (left 1 1) unused (seat 1 0 ∷ seat 2 0 ∷ [])
    ∷ example 1 (put plain clean 1 ∷ put plain clean 2 ∷ put forced clean 2 ∷ put plain clean 3 ∷ []) (told 8 0 5 (20 ∷ []) ∷ []) (left 1 0) unused (seat 1 0 ∷ [])
    -- P7: after P6's forced insert write 2 unloaded, insert 2: code 8, 2 gone, held 1
    ∷ example 1 (put plain clean 1 ∷ put plain clean 2 ∷ put forced clean 2 ∷ write 2 unloaded ∷ put plain clean 2 ∷ []) (told 8 0 4 (20 ∷ []) ∷ []) (left 1 0) unused (seat 1 0 ∷ [])
    -- P8: capacity 10, ten dirty pages 2 to 11, estimate 0, selection of 3: 2, 3, 4
    ∷ example 10 (ten ++ spill 3 pool ∷ []) (told 0 3 0 (20 ∷ 30 ∷ 40 ∷ []) ∷ []) (left 10 0) unused ten_seats
    -- P9: nine of them: code 18
    ∷ example 10 (nine ++ spill 3 pool ∷ []) (told 18 0 0 [] ∷ []) (left 10 0) unused nine_seats
    -- capacity 0: insert answers 8, forced insert 0
    ∷ example 0 (put plain clean 5 ∷ put forced clean 5 ∷ []) (told 8 0 0 [] ∷ told 0 0 0 [] ∷ []) (left 0 1) unused (seat 5 0 ∷ [])
    -- an unloaded, unlocked, dirty key: insert answers 6
    ∷ example 2 (put plain unloaded_dirty 5 ∷ put plain clean 5 ∷ []) (told 6 5 0 [] ∷ []) (left 2 0) unused (seat 5 0 ∷ [])
    -- the replay program's example: the sweep passes page 10, which is held and keeps its use, and takes page 20
    ∷ example 2 (map (put plain clean) (10 ∷ 20 ∷ []) ++ lookup 10 pool ∷ put plain clean 30 ∷ lookup 20 pool ∷ []) (told 0 100 0 [] ∷ told 0 0 1 (200 ∷ []) ∷ told 4 0 0 [] ∷ []) (left 2 2) (used 1 0) (seat 10 1 ∷ seat 30 0 ∷ [])
    -- a locked page is passed, and keeps its uses
    ∷ example 2 (put plain busy 5 ∷ put plain clean 6 ∷ touch_all (5 ∷ 6 ∷ []) ++ evict_one pool ∷ []) (told 0 0 3 (60 ∷ []) ∷ []) (left 2 1) (used 2 1) (seat 5 1 ∷ [])
    -- a pending resize keeps the capacity, and the eviction stands
    ∷ example 3 (put plain busy 5 ∷ put plain busy 6 ∷ put plain clean 7 ∷ resize 1 pool ∷ []) (told 10 0 9 (70 ∷ []) ∷ []) (left 3 2) unused (seat 6 0 ∷ seat 5 0 ∷ [])
    -- two evictions in one call: the uses that fell in both are counted
    ∷ example 3 (map (put plain clean) (5 ∷ 6 ∷ 7 ∷ []) ++ touch_all (5 ∷ 7 ∷ 7 ∷ 6 ∷ 6 ∷ []) ++ resize 1 pool ∷ []) (told 0 0 5 (50 ∷ 70 ∷ []) ∷ []) (left 1 1) (used 5 5) (seat 6 0 ∷ [])
    -- 14: nothing to evict
    ∷ example 2 (evict_one pool ∷ []) (told 14 0 0 [] ∷ []) (left 2 0) unused []
    ∷ []

abbrev pub pages_found : List Example
pages_found =
    -- 11: another handle for a present key: nothing is touched. 9: the same handle: one touch
    example 2 (put plain clean 5 ∷ insert plain 5 51 clean pool ∷ put plain clean 5 ∷ []) (told 11 0 0 [] ∷ told 9 0 0 [] ∷ []) (left 2 1) (used 1 0) (seat 5 1 ∷ [])
    -- 12: the handle stands under another key, and the stale key stays
    ∷ example 2 (put plain clean 5 ∷ put plain unloaded 6 ∷ insert plain 6 50 clean pool ∷ []) (told 12 0 0 [] ∷ []) (left 2 2) unused (seat 5 0 ∷ seat 6 0 ∷ [])
    -- 13: forced, and the only slot is taken by page 1
    ∷ example_in 1 1 (put plain clean 1 ∷ put forced clean 2 ∷ []) (told 13 0 4 [] ∷ []) (left 1 0) unused (seat 1 0 ∷ [])
    -- upsert in place answers the old handle, keeps the place and adds a touch; the estimate follows the change
    ∷ example 2 (map (put plain clean) (5 ∷ 6 ∷ []) ++ insert upsert 6 66 changed pool ∷ []) (told 0 60 0 [] ∷ []) (left 2 1) (used 1 0) (seat 5 0 ∷ seat 6 1 ∷ [])
    -- a touch raises the count to 3 at most, and counts all the same
    ∷ example 2 (put plain clean 5 ∷ touch_all (5 ∷ 5 ∷ 5 ∷ 5 ∷ [])) (told 9 0 0 [] ∷ []) (left 2 1) (used 4 0) (seat 5 3 ∷ [])
    -- a stale page: peek finds it, and touches it only if asked; lookup deletes it and answers 4. An absent key is 4 too
    ∷ example 2 (put plain unloaded 5 ∷ peek 5 false ∷ peek 5 true ∷ lookup 5 pool ∷ peek 5 true ∷ []) (told 0 50 0 [] ∷ told 0 50 0 [] ∷ told 4 0 0 (50 ∷ []) ∷ told 4 0 0 [] ∷ []) (left 2 0) (used 1 0) []
    -- deletion: 5 for a locked page, 6 for a dirty one, 7 for a pinned one, in that order; holders and page 1 don't stop it, and an
    -- absent key is done
    ∷ example 3 (put plain (page 7 1 0 0) 5 ∷ put plain (page 5 1 0 0) 6 ∷ put plain pinned 7 ∷ delete 5 pool ∷ delete 6 pool ∷ delete 7 pool ∷ []) (told 5 5 0 [] ∷ told 6 6 0 [] ∷ told 7 7 0 [] ∷ []) (left 3 1) unused (seat 5 0 ∷ seat 7 0 ∷ seat 6 0 ∷ [])
    ∷ example 3 (put plain clean 1 ∷ put plain held 5 ∷ put plain clean 6 ∷ delete 1 pool ∷ delete 5 pool ∷ delete 9 pool ∷ []) (told 0 0 0 (10 ∷ []) ∷ told 0 0 0 (50 ∷ []) ∷ told 0 0 0 [] ∷ []) (left 3 1) unused (seat 6 0 ∷ [])
    ∷ []

abbrev pub held_pages : List Example
held_pages =
    -- a page that was looked up stays until it is released: full, and then it goes
    example 1 (put plain clean 5 ∷ lookup 5 pool ∷ put plain clean 6 ∷ release 5 ∷ put plain clean 6 ∷ []) (told 0 50 0 [] ∷ told 8 0 4 [] ∷ told 0 0 0 [] ∷ told 0 0 1 (50 ∷ []) ∷ []) (left 1 1) (used 1 1) (seat 6 0 ∷ [])
    -- 20 at 65,535 holders, with no touch: of 65,534 one more is added
    ∷ example 1 (put plain (page 1 0 65534 0) 5 ∷ lookup 5 pool ∷ lookup 5 pool ∷ peek 5 true ∷ peek 5 false ∷ []) (told 0 50 0 [] ∷ told 20 0 0 [] ∷ told 20 0 0 [] ∷ told 20 0 0 [] ∷ []) (left 1 1) (used 1 0) (seat 5 1 ∷ [])
    -- but a lookup deletes a stale page first, however many hold it
    ∷ example 1 (put plain (page 0 0 65535 0) 5 ∷ peek 5 true ∷ lookup 5 pool ∷ []) (told 20 0 0 [] ∷ told 4 0 0 (50 ∷ []) ∷ []) (left 1 0) unused []
    -- a peek adds a holder to a stale page too, touch asked or not; one release for each, and then 20. An absent key is 4
    ∷ example 1 (put plain unloaded 5 ∷ peek 5 false ∷ peek 5 true ∷ release 5 ∷ release 5 ∷ release 5 ∷ release 6 ∷ []) (told 0 0 0 [] ∷ told 0 0 0 [] ∷ told 20 0 0 [] ∷ told 4 0 0 [] ∷ []) (left 1 1) (used 1 0) (seat 5 1 ∷ [])
    -- a release works on any page: on page 1, and on one that is locked, dirty and pinned
    ∷ example 2 (put plain clean 1 ∷ put plain (page 7 1 1 0) 5 ∷ lookup 1 pool ∷ release 1 ∷ release 5 ∷ release 5 ∷ []) (told 0 0 0 [] ∷ told 0 0 0 [] ∷ told 20 0 0 [] ∷ []) (left 2 0) (used 1 0) (seat 1 1 ∷ seat 5 0 ∷ [])
    -- it goes by key: after an upsert it takes from the page that stands there now
    ∷ example 1 (put plain clean 5 ∷ lookup 5 pool ∷ insert upsert 5 51 clean pool ∷ release 5 ∷ []) (told 0 50 0 [] ∷ told 20 0 0 [] ∷ []) (left 1 1) (used 2 0) (seat 5 2 ∷ [])
    -- an insertion that is answered 9 holds nothing, and a record write sets the holders as it sets the rest
    ∷ example 1 (put plain clean 5 ∷ put plain clean 5 ∷ release 5 ∷ []) (told 9 0 0 [] ∷ told 20 0 0 [] ∷ []) (left 1 1) (used 1 0) (seat 5 1 ∷ [])
    ∷ example 1 (put plain clean 5 ∷ lookup 5 pool ∷ write 5 clean ∷ release 5 ∷ []) (told 0 0 0 [] ∷ told 20 0 0 [] ∷ []) (left 1 1) (used 1 0) (seat 5 1 ∷ [])
    ∷ []

abbrev pub many_pages : List Example
many_pages =
    -- truncation goes by ascending key, up to the first refusal
    example 4 (put plain clean 5 ∷ put plain changed 6 ∷ put plain clean 7 ∷ put plain clean 3 ∷ truncate 3 pool ∷ []) (told 6 6 0 (50 ∷ []) ∷ []) (left 4 2) unused (seat 3 0 ∷ seat 7 0 ∷ seat 6 0 ∷ [])
    -- frame removal: clean tagged pages of a frame above the limit; and up to the first refusal
    ∷ example 4 (put plain (tagged 5) 3 ∷ put plain (page 21 0 0 5) 4 ∷ put plain (tagged 4) 5 ∷ put plain (page 1 0 0 9) 6 ∷ remove_frames 4 pool ∷ []) (told 0 0 0 (30 ∷ []) ∷ []) (left 4 2) unused (seat 6 0 ∷ seat 5 0 ∷ seat 4 0 ∷ [])
    ∷ example 3 (put plain (tagged 5) 7 ∷ put plain (page 19 0 0 5) 8 ∷ put plain (tagged 5) 9 ∷ remove_frames 4 pool ∷ []) (told 5 8 0 (70 ∷ []) ∷ []) (left 3 2) unused (seat 9 0 ∷ seat 8 0 ∷ [])
    -- clear: 6 for the first dirty key, and nothing changes; unless told that dirty pages go too
    ∷ example 3 (put plain changed 7 ∷ put plain clean 5 ∷ put plain changed 6 ∷ clear false pool ∷ []) (told 6 6 0 [] ∷ []) (left 3 1) unused (seat 7 0 ∷ seat 6 0 ∷ seat 5 0 ∷ [])
    ∷ example 3 (put plain changed 7 ∷ put plain clean 5 ∷ put plain changed 6 ∷ clear true pool ∷ []) (told 0 0 0 (50 ∷ 60 ∷ 70 ∷ []) ∷ []) (left 3 0) unused []
    -- locks, pins and holders don't stop it
    ∷ example 3 (put plain busy 7 ∷ put plain pinned 5 ∷ put plain held 6 ∷ clear false pool ∷ []) (told 0 0 0 (50 ∷ 60 ∷ 70 ∷ []) ∷ []) (left 3 0) unused []
    ∷ []

abbrev pub others : List Example
others =
    -- the notices change the estimate for a present page other than 1, and answer 0 for an absent key
    example 2 (put plain clean 1 ∷ put plain clean 5 ∷ notify_spilled 5 ∷ notify_spilled 1 ∷ notify_spilled 9 ∷ notify_dirty 1 ∷ []) (told 0 0 0 [] ∷ told 0 0 0 [] ∷ told 0 0 0 [] ∷ told 0 0 0 [] ∷ []) (left 2 2) unused (seat 1 0 ∷ seat 5 0 ∷ [])
    ∷ example 2 (put plain clean 5 ∷ put plain clean 6 ∷ notify_dirty 5 ∷ []) (told 0 0 0 [] ∷ []) (left 2 1) unused (seat 5 0 ∷ seat 6 0 ∷ [])
    -- it doesn't fall below 0
    ∷ example 2 (put plain clean 5 ∷ notify_dirty 5 ∷ notify_dirty 5 ∷ []) (told 0 0 0 [] ∷ []) (left 2 0) unused (seat 5 0 ∷ [])
    -- the record write: 2 before 4; it keeps the estimate
    ∷ example 2 (put plain clean 5 ∷ write 9 (flags 32) ∷ write 9 clean ∷ write 5 changed ∷ []) (told 2 0 0 [] ∷ told 4 0 0 [] ∷ told 0 0 0 [] ∷ []) (left 2 1) unused (seat 5 0 ∷ [])
    -- the switch: off, and no spill is needed; on again
    ∷ example 10 (ten ++ switch false ∷ spill 1 pool ∷ switch true ∷ spill 1 pool ∷ []) (told 18 0 0 [] ∷ told 0 0 0 [] ∷ told 0 1 0 (20 ∷ []) ∷ []) (left 10 0) unused ten_seats
    -- 19: a spill is needed, and no page can be spilled, or none is asked for
    ∷ example 1 (put forced (flags 7) 3 ∷ put forced (flags 7) 4 ∷ spill 1 pool ∷ []) (told 19 0 0 [] ∷ []) (left 1 0) unused (seat 3 0 ∷ seat 4 0 ∷ [])
    ∷ example 10 (ten ++ spill 0 pool ∷ []) (told 19 0 0 [] ∷ []) (left 10 0) unused ten_seats
    -- 2: flags above 31. 3: a list shorter than held, whatever the call would do
    ∷ example 2 (put plain (flags 32) 5 ∷ put plain clean 5 ∷ delete 9 0 ∷ lookup 5 0 ∷ []) (told 2 0 0 [] ∷ told 0 0 0 [] ∷ told 3 0 0 [] ∷ told 3 0 0 [] ∷ []) (left 2 1) unused (seat 5 0 ∷ [])
    -- 15: a capacity above the slots; as many are good
    ∷ example 2 (put plain clean 5 ∷ create 257 ∷ resize 257 pool ∷ resize 256 pool ∷ []) (told 15 0 0 [] ∷ told 15 0 0 [] ∷ told 0 0 0 [] ∷ []) (left 256 1) unused (seat 5 0 ∷ [])
    -- a second creation: nothing held, nothing listed, estimate 0, and spill on
    ∷ example 9 (put plain clean 5 ∷ switch false ∷ create 1 ∷ put forced changed 3 ∷ put forced changed 4 ∷ spill 1 pool ∷ []) (told 0 0 0 [] ∷ told 0 0 0 [] ∷ told 0 0 4 [] ∷ told 0 1 0 (30 ∷ []) ∷ []) (left 1 0) unused (seat 3 0 ∷ seat 4 0 ∷ [])
    ∷ []

abbrev pub examples : List Example
examples = sweeps ++ pages_found ++ held_pages ++ many_pages ++ others
