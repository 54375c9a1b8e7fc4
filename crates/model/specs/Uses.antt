-- Demand 3's ledger: which page a call touches, and which evictions it makes, as a function of the cache before the call. An `Outcome`
-- counts touches and falls where they happen; that it counts these and no others is proved (proofs/Exact.antt).
use Rattle.std.specs.Prelude.{Bool, true, false, List, [], ◌∷◌, ◌++◌, ◌≡◌, ℕ, zero, suc, ◌+◌, ◌-◌, eqb, length, Ok, Err, Some, None}
use Rattle.std.proofs.Math.Option.{Option, none, some}
use Rattle.page.specs.Entry.{raised}
use Rattle.page.specs.Record.{Holders, stale, deletable, one_holder_more}
use Rattle.page.specs.declared.record.Hindrance.TheVariants.{Locked, Dirty, Pinned}
use Rattle.model.specs.Row.{Page, Entry, Row, find, total}
use Rattle.model.specs.Cache.{Cache, leave, enter_row}
use Rattle.model.specs.Call.{Insertion, plain, forced, upsert, Call, create, insert, lookup, peek, release, delete, resize, truncate, remove_frames, clear, notify_dirty, notify_spilled, write, spill, evict_one, switch, Outcome}
use Rattle.model.specs.Tests.{refusal}
use Rattle.model.specs.Rooms.{Room}
use Rattle.model.specs.Evictions.{EvictsTo}

-- ── what a call does to use counts ───────────────────────────────────────────
-- the evictions of a call: they start from the cache `from`, go on while more than `target` pages are held, and come after the call has
-- listed the handles `listed`
pub record Evicting : Type 0 where
  pub from : Cache
  pub target : ℕ
  pub listed : List ℕ

-- the key of the page that a call touches, and the evictions that it makes
pub record Effect : Type 0 where
  pub touched : Option ℕ
  pub evicting : Option Evicting

abbrev pub neither : Effect
neither = record { touched = none; evicting = none }

abbrev pub touches : Page → Effect
touches p = record { touched = some p.key; evicting = none }

abbrev pub evicts : Cache → ℕ → List ℕ → Effect
evicts c target listed = record { touched = none; evicting = some (record { from = c; target = target; listed = listed }) }

-- rule 5. Making room for one: capacity 0 is Full without a sweep
abbrev pub room_effect : Cache → List ℕ → Effect
room_effect c listed = elim (eqb c.capacity 0) [ true ↦ neither | false ↦ evicts c (c.capacity - 1) listed ]

-- rule 6, on a page that is loaded or locked: touched if it has the same handle (9), or if it is replaced in place
abbrev pub present_effect : Insertion → ℕ → Page → Effect
present_effect plain handle p = elim (eqb p.handle handle) [ true ↦ touches p | false ↦ neither ]
present_effect forced handle p = elim (eqb p.handle handle) [ true ↦ touches p | false ↦ neither ]
present_effect upsert handle p = touches p

-- rule 6. An absent key needs room, and so does a stale one once its page is deleted
abbrev pub insert_effect : Insertion → ℕ → Option Entry → Cache → Effect
insert_effect how handle none c = room_effect c []
insert_effect how handle (some e) c = elim (stale e.page.state) [
  | true ↦ elim (deletable e.page.state) [
    | Ok _ ↦ room_effect (leave e.page c) (e.page.handle ∷ [])
    | Err Locked ↦ neither
    | Err Dirty ↦ neither
    | Err Pinned ↦ neither
  ]
  | false ↦ present_effect how handle e.page
]

-- rule 9. A hit touches its page if it is to, unless the page can't have one holder more
abbrev pub hit_effect_with : Holders → Bool → Page → Effect
hit_effect_with (Some holders) true p = touches p
hit_effect_with (Some holders) false p = neither
hit_effect_with None asked p = neither

abbrev pub hit_effect : Bool → Page → Effect
hit_effect asked p = hit_effect_with (one_holder_more p.state) asked p

-- a lookup is to touch a page that is loaded or locked, and `peek` any page if asked
abbrev pub lookup_effect : Option Entry → Effect
lookup_effect none = neither
lookup_effect (some e) = elim (stale e.page.state) [ true ↦ neither | false ↦ hit_effect true e.page ]

abbrev pub peek_effect : Bool → Option Entry → Effect
peek_effect asked none = neither
peek_effect asked (some e) = hit_effect asked e.page

-- rule 10. To the same capacity does nothing
abbrev pub resize_effect : ℕ → Cache → Effect
resize_effect capacity c = elim (eqb capacity c.capacity) [ true ↦ neither | false ↦ evicts c capacity [] ]

-- one eviction, asked for: one page less is to be held
abbrev pub evict_effect : Row → Cache → Effect
evict_effect [] c = neither
evict_effect (e ∷ es) c = evicts c (length es) []

-- by the rules
abbrev pub rule_effect : Call → Cache → Effect
rule_effect (create capacity) c = neither
rule_effect (insert how key handle state places) c = insert_effect how handle (find key c.row) c
rule_effect (lookup key places) c = lookup_effect (find key c.row)
rule_effect (peek key asked) c = peek_effect asked (find key c.row)
rule_effect (release key) c = neither
rule_effect (delete key places) c = neither
rule_effect (resize capacity places) c = resize_effect capacity c
rule_effect (truncate limit places) c = neither
rule_effect (remove_frames limit places) c = neither
rule_effect (clear dirty_too places) c = neither
rule_effect (notify_dirty key) c = neither
rule_effect (notify_spilled key) c = neither
rule_effect (write key state) c = neither
rule_effect (spill most places) c = neither
rule_effect (evict_one places) c = evict_effect c.row c
rule_effect (switch on) c = neither

-- a call that a test refuses does neither
abbrev pub unless_refused : ℕ → Effect → Effect
unless_refused zero effect = effect
unless_refused (suc code) effect = neither

abbrev pub effect_of : Call → Cache → Effect
effect_of call c = unless_refused (refusal call c) (rule_effect call c)

-- ── touches ──────────────────────────────────────────────────────────────────
-- their number: one, or none
abbrev pub touches_of : Option ℕ → ℕ
touches_of none = 0
touches_of (some key) = 1

-- one touch is counted; the page under the key has its count raised by 1, at most to 3, and stands where it stood; every other entry is
-- as it was
pub record TouchesAt (key : ℕ) (row : Row) (o : Outcome) : Type 0 where
  pub counted : o.touches ≡ 1
  pub before : Row
  pub e : Entry
  pub e' : Entry
  pub after : Row
  pub was : row ≡ before ++ e ∷ after
  pub is : o.cache.row ≡ before ++ e' ∷ after
  pub key_was : e.page.key ≡ key
  pub key_is : e'.page.key ≡ key
  pub uses : e'.uses ≡ raised e.uses

-- the page under the key is touched, or no touch is counted
abbrev pub Touched : Option ℕ → Row → Outcome → Type 0
Touched none row o = ◌≡◌ {A = ℕ} o.touches 0
Touched (some key) row o = TouchesAt key row o

-- ── falls ────────────────────────────────────────────────────────────────────
-- the row that evictions left, or that row with a new page
pub data Enters (row : Row) : Row → Type 0 where
  stays : Enters row row
  enters : (p : Page) → Enters row (enter_row p row)

-- the evictions, each by demand 3, and what the outcome has of them: the pages passed, the uses that fell, the handles listed, the row
pub record EvictionsIn (x : Evicting) (o : Outcome) : Type 0 where
  pub room : Room
  pub evictions : EvictsTo x.target x.from room
  pub passed : o.passed ≡ room.passed
  pub falls : o.falls ≡ room.falls
  pub listed : o.listed ≡ x.listed ++ room.gone
  pub row : Enters room.cache.row o.cache.row

-- without evictions no page is passed, and no use falls
pub record NoEvictions (o : Outcome) : Type 0 where
  pub passed : ◌≡◌ {A = ℕ} o.passed 0
  pub falls : ◌≡◌ {A = ℕ} o.falls 0

abbrev pub EvictionsOf : Option Evicting → Outcome → Type 0
EvictionsOf none o = NoEvictions o
EvictionsOf (some x) o = EvictionsIn x o

-- the uses that fell, read off the cache after the call: the total use count before the evictions minus the total after the call. A page
-- has no use left when it is evicted, and a new one comes with none
abbrev pub Fell : Option Evicting → Cache → ℕ → Type 0
Fell none after n = ◌≡◌ {A = ℕ} n 0
Fell (some x) after n = n + total after.row ≡ total x.from.row

-- ── both ─────────────────────────────────────────────────────────────────────
-- the outcome of a call on this row counts exactly what the call does to use counts
pub record Counts (x : Effect) (row : Row) (o : Outcome) : Type 0 where
  pub touches : Touched x.touched row o
  pub evictions : EvictionsOf x.evicting o
