-- What a page record says of its page (01, "Memory, pages and numbers", and rules 6, 8 and 9).
use Rattle.std.specs.Prelude.{Bool, cond, not, ◌&&◌, ◌||◌, ℕ, ◌+◌, ◌-◌, eqb, ltb, Option, Some, None, Result, Ok, Err}
use Rattle.std.specs.Int.Bits.{bit_and}
use Rattle.page.specs.declared.record.PageRecord.{PageRecord}
use Rattle.page.specs.declared.record.Hindrance.{Hindrance}
use Rattle.page.specs.declared.record.Hindrance.TheVariants.{Locked, Dirty, Pinned}

-- ── flags: 1 loaded, 2 locked, 4 dirty, 8 spilled, 16 WAL tag ────────────────
-- the sum of them all
abbrev pub all_flags : ℕ
all_flags = 31

abbrev pub flagged : ℕ → PageRecord → Bool
flagged flag p = not (eqb (bit_and p.flags flag) 0)

abbrev pub loaded : PageRecord → Bool
loaded = flagged 1

abbrev pub locked : PageRecord → Bool
locked = flagged 2

abbrev pub dirty : PageRecord → Bool
dirty = flagged 4

abbrev pub spilled : PageRecord → Bool
spilled = flagged 8

abbrev pub tagged : PageRecord → Bool
tagged = flagged 16

-- ── counts ───────────────────────────────────────────────────────────────────
-- pinned means pins > 0
abbrev pub pinned : PageRecord → Bool
pinned p = not (eqb p.pins 0)

-- somebody other than the cache holds the page
abbrev pub held : PageRecord → Bool
held p = not (eqb p.holders 0)

-- a record counts at most this many holders
abbrev pub holders_max : ℕ
holders_max = 65535

abbrev pub with_holders : PageRecord → ℕ → PageRecord
with_holders p n = record { flags = p.flags; pins = p.pins; holders = n; cells = p.cells; frame = p.frame }

-- how many holders there are, or that a record can't count them
abbrev pub Holders : Type 0
Holders = Option ℕ

-- rule 9: how many holders there are with one more, unless there are as many as a record can count; and with one less, unless there is none
abbrev pub one_holder_more : PageRecord → Holders
one_holder_more p = cond (ltb p.holders holders_max) (Some (p.holders + 1)) None

abbrev pub one_holder_less : PageRecord → Holders
one_holder_less p = cond (ltb 0 p.holders) (Some (p.holders - 1)) None

-- ── what the rules ask ───────────────────────────────────────────────────────
-- neither loaded nor locked
abbrev pub stale : PageRecord → Bool
stale p = not (loaded p) && not (locked p)

abbrev pub clean_or_spilled : PageRecord → Bool
clean_or_spilled p = not (dirty p) || spilled p

-- rule 8: deletion tests locked, dirty, pinned, in that order
abbrev pub deletable : PageRecord → Result Unit Hindrance
deletable p = cond (locked p) (Err Locked) (cond (dirty p) (Err Dirty) (cond (pinned p) (Err Pinned) (Ok tt)))
