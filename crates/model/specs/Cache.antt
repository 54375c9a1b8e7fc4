-- A cache as a row: rules 1, 2, 4 and 12, as changes of the whole cache.
use Rattle.std.specs.Prelude.{Bool, true, false, cond, ◌||◌, [], ◌∷◌, ℕ, zero, suc, ◌+◌, ◌-◌, min, eqb, length}
use Rattle.page.specs.Cache.{may_go, counts}
use Rattle.page.specs.Record.{with_holders}
use Rattle.page.specs.declared.record.PageRecord.{PageRecord}
use Rattle.model.specs.Row.{Page, Entry, Row, change, without}
use Rattle.model.specs.Sweep.{touched}

pub record Cache : Type 0 where
  -- S, the number of slots
  pub size : ℕ
  pub capacity : ℕ
  -- the spill switch
  pub spill : Bool
  -- rule 12's estimate of how many pages count
  pub estimate : ℕ
  pub row : Row

abbrev pub held_in : Cache → ℕ
held_in c = length c.row

abbrev pub with_row : Row → Cache → Cache
with_row row c = record { size = c.size; capacity = c.capacity; spill = c.spill; estimate = c.estimate; row = row }

abbrev pub with_estimate : ℕ → Cache → Cache
with_estimate n c = record { size = c.size; capacity = c.capacity; spill = c.spill; estimate = n; row = c.row }

abbrev pub with_capacity : ℕ → Cache → Cache
with_capacity n c = record { size = c.size; capacity = n; spill = c.spill; estimate = c.estimate; row = c.row }

abbrev pub with_spill : Bool → Cache → Cache
with_spill on c = record { size = c.size; capacity = c.capacity; spill = on; estimate = c.estimate; row = c.row }

-- rule 1. Creation: nothing held, estimate 0, spill on
abbrev pub fresh : ℕ → ℕ → Cache
fresh size capacity = record { size = size; capacity = capacity; spill = true; estimate = 0; row = [] }

-- ── pages ────────────────────────────────────────────────────────────────────
abbrev pub page_may_go : Page → Bool
page_may_go p = may_go p.key p.state

abbrev pub page_counts : Page → Bool
page_counts p = counts p.key p.state

-- ── rule 12: the estimate stays within 0 and its largest value ────────────────
abbrev pub estimate_max : ℕ
estimate_max = 4294967295

abbrev pub up : ℕ → ℕ
up n = min estimate_max (n + 1)

abbrev pub down : ℕ → ℕ
down n = n - 1

-- insertion of a page that counts adds 1
abbrev pub count_in : Page → ℕ → ℕ
count_in p n = cond (page_counts p) (up n) n

-- removing one subtracts 1
abbrev pub count_out : Page → ℕ → ℕ
count_out p n = cond (page_counts p) (down n) n

-- replacement follows the change
abbrev pub count_over : Page → Page → ℕ → ℕ
count_over old new n = cond (page_counts old) (cond (page_counts new) n (down n)) (cond (page_counts new) (up n) n)

-- ── a new page ───────────────────────────────────────────────────────────────
unfoldable pub slot_taken : ℕ → Row → Bool
slot_taken s [] = false
slot_taken s (e ∷ es) = eqb s e.page.slot || slot_taken s es

-- the first free slot from s on, or s + k if the k slots from s on are all taken
unfoldable pub free_from : ℕ → ℕ → Row → ℕ
free_from zero s row = s
free_from (suc k) s row = elim (slot_taken s row) [ true ↦ free_from k (suc s) row | false ↦ s ]

-- a new entry takes the lowest-numbered free slot
unfoldable pub lowest_free : Row → ℕ
lowest_free row = free_from (length row) 0 row

-- rule 1. A new page has count 0. A first one is the hand; another goes directly after the hand
unfoldable pub enter_row : Page → Row → Row
enter_row p [] = record { page = p; uses = 0 } ∷ []
enter_row p (e ∷ es) = e ∷ record { page = p; uses = 0 } ∷ es

abbrev pub new_page : (key handle : ℕ) → PageRecord → Cache → Page
new_page key handle state c = record { slot = lowest_free c.row; key = key; handle = handle; state = state }

abbrev pub enter : Page → Cache → Cache
enter p c = with_estimate (count_in p c.estimate) (with_row (enter_row p c.row) c)

-- ── a page that is there ─────────────────────────────────────────────────────
abbrev pub leave : Page → Cache → Cache
leave p c = with_estimate (count_out p c.estimate) (with_row (without p.key c.row) c)

-- one touch
abbrev pub touch : ℕ → Cache → Cache
touch key c = with_row (change key touched c.row) c

-- the page with another record: writing a page record keeps estimate, handle and use count
abbrev pub rewritten : PageRecord → Entry → Entry
rewritten state e = record { page = record { slot = e.page.slot; key = e.page.key; handle = e.page.handle; state = state }; uses = e.uses }

abbrev pub rewrite : ℕ → PageRecord → Cache → Cache
rewrite key state c = with_row (change key (rewritten state) c.row) c

-- the page with another number of holders, and with all else of its record as it was
abbrev pub held_by : (key holders : ℕ) → Page → Cache → Cache
held_by key holders p c = rewrite key (with_holders p.state holders) c

-- the page with another handle and record, in place
abbrev pub replaced : ℕ → PageRecord → Page → Page
replaced handle state p = record { slot = p.slot; key = p.key; handle = handle; state = state }

abbrev pub replaced_entry : ℕ → PageRecord → Entry → Entry
replaced_entry handle state e = record { page = replaced handle state e.page; uses = e.uses }

abbrev pub replace : Page → ℕ → PageRecord → Cache → Cache
replace p handle state c =
    with_estimate (count_over p (replaced handle state p) c.estimate) (with_row (change p.key (replaced_entry handle state) c.row) c)
