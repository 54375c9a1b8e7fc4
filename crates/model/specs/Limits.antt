-- What a cache keeps from its creation on.
use Rattle.std.specs.Prelude.{List, [], ◌∷◌, ◌≢◌, ℕ, ◌≤◌, ◌<◌, ◌^◌}
use Rattle.page.specs.Record.{all_flags}
use Rattle.page.specs.declared.record.PageRecord.{PageRecord}
use Rattle.model.specs.Row.{Page, Entry, Row, Each}
use Rattle.model.specs.Demand.{Limited}
use Rattle.model.specs.Cache.{Cache, held_in, estimate_max}
use Rattle.model.specs.Call.{Call, create, insert, lookup, peek, release, delete, resize, truncate, remove_frames, clear, notify_dirty, notify_spilled, write, spill, evict_one, switch}

-- no two entries of the row have the same number, which is their key, handle or slot
abbrev pub Apart : (Page → ℕ) → Row → Type 0
Apart number [] = Unit {0}
Apart number (e ∷ es) = Each (λ x. number e.page ≢ number x.page) es × Apart number es

-- a page record within its limits
pub record RecordInRange (p : PageRecord) : Type 0 where
  pub pins : p.pins < 2 ^ 16
  pub holders : p.holders < 2 ^ 16
  pub cells : p.cells < 2 ^ 8
  pub frame : p.frame < 2 ^ 64

-- a held page within its limits
pub record EntryInRange (size : ℕ) (e : Entry) : Type 0 where
  pub slot : e.page.slot < size
  pub key : e.page.key < 2 ^ 32
  pub handle : e.page.handle < 2 ^ 32
  pub flags : e.page.state.flags ≤ all_flags
  pub fit : RecordInRange e.page.state
  pub uses : Limited e

pub record CacheInvariant (c : Cache) : Type 0 where
  pub held : held_in c ≤ c.size
  pub capacity : c.capacity ≤ c.size
  pub estimate : c.estimate ≤ estimate_max
  pub good : Each (EntryInRange c.size) c.row
  pub slots : Apart (λ p. p.slot) c.row
  pub keys : Apart (λ p. p.key) c.row
  pub handles : Apart (λ p. p.handle) c.row

-- the arguments of a call are in range: 32 bits for keys and handles, a page record's fields within their limits.
-- Flags are tested (code 2); all other numbers may have any value
abbrev pub ArgumentsInRange : Call → Type 0
ArgumentsInRange (create n) = Unit {0}
ArgumentsInRange (insert how key handle p l) = (key < 2 ^ 32) × (handle < 2 ^ 32) × RecordInRange p
ArgumentsInRange (lookup key l) = Unit {0}
ArgumentsInRange (peek key touch) = Unit {0}
ArgumentsInRange (release key) = Unit {0}
ArgumentsInRange (delete key l) = Unit {0}
ArgumentsInRange (resize n l) = Unit {0}
ArgumentsInRange (truncate limit l) = Unit {0}
ArgumentsInRange (remove_frames limit l) = Unit {0}
ArgumentsInRange (clear dirty_too l) = Unit {0}
ArgumentsInRange (notify_dirty key) = Unit {0}
ArgumentsInRange (notify_spilled key) = Unit {0}
ArgumentsInRange (write key p) = RecordInRange p
ArgumentsInRange (spill most l) = Unit {0}
ArgumentsInRange (evict_one l) = Unit {0}
ArgumentsInRange (switch on) = Unit {0}

abbrev pub AllInRange : List Call → Type 0
AllInRange [] = Unit {0}
AllInRange (call ∷ calls) = ArgumentsInRange call × AllInRange calls
