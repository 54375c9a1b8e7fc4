-- The tests before the rules, in 01's order: 15, 2, 3, 12. (16 and 1 come before them, and are about memory.)
use Rattle.std.specs.Prelude.{Bool, true, false, cond, not, ◌&&◌, [], ◌∷◌, ℕ, eqb, ltb}
use Rattle.std.proofs.Math.Option.{Option, none, some}
use Rattle.page.specs.Record.{all_flags}
use Rattle.page.specs.declared.record.PageRecord.{PageRecord}
use Rattle.model.specs.Row.{Row}
use Rattle.model.specs.Cache.{Cache, held_in}
use Rattle.model.specs.Call.{Call, create, insert, lookup, peek, release, delete, resize, truncate, remove_frames, clear, notify_dirty, notify_spilled, write, spill, evict_one, switch}

-- a key and the handle that is to stand under it
pub record Naming : Type 0 where
  pub key : ℕ
  pub handle : ℕ

-- the arguments of a call that are tested
pub record Asks : Type 0 where
  pub capacity : Option ℕ
  pub state : Option PageRecord
  pub places : Option ℕ
  pub naming : Option Naming

abbrev pub asks : Call → Asks
asks (create n) = record { capacity = some n; state = none; places = none; naming = none }
asks (insert how key handle p l) = record { capacity = none; state = some p; places = some l; naming = some (record { key = key; handle = handle }) }
asks (lookup key l) = record { capacity = none; state = none; places = some l; naming = none }
asks (peek key touch) = record { capacity = none; state = none; places = none; naming = none }
asks (release key) = record { capacity = none; state = none; places = none; naming = none }
asks (delete key l) = record { capacity = none; state = none; places = some l; naming = none }
asks (resize n l) = record { capacity = some n; state = none; places = some l; naming = none }
asks (truncate limit l) = record { capacity = none; state = none; places = some l; naming = none }
asks (remove_frames limit l) = record { capacity = none; state = none; places = some l; naming = none }
asks (clear dirty_too l) = record { capacity = none; state = none; places = some l; naming = none }
asks (notify_dirty key) = record { capacity = none; state = none; places = none; naming = none }
asks (notify_spilled key) = record { capacity = none; state = none; places = none; naming = none }
asks (write key p) = record { capacity = none; state = some p; places = none; naming = none }
asks (spill most l) = record { capacity = none; state = none; places = some l; naming = none }
asks (evict_one l) = record { capacity = none; state = none; places = some l; naming = none }
asks (switch on) = record { capacity = none; state = none; places = none; naming = none }

-- 15: capacity > S
abbrev pub too_large : Option ℕ → Cache → Bool
too_large none c = false
too_large (some n) c = ltb c.size n

-- 2: flags > 31
abbrev pub bad_record : Option PageRecord → Bool
bad_record none = false
bad_record (some p) = ltb all_flags p.flags

-- 3: list shorter than held
abbrev pub short_list : Option ℕ → Cache → Bool
short_list none c = false
short_list (some places) c = ltb places (held_in c)

-- 12: the handle stands under another key
unfoldable pub under_other : ℕ → ℕ → Row → Bool
under_other key handle [] = false
under_other key handle (e ∷ es) = elim (eqb e.page.handle handle && not (eqb e.page.key key)) [ true ↦ true | false ↦ under_other key handle es ]

abbrev pub handle_elsewhere : Option Naming → Cache → Bool
handle_elsewhere none c = false
handle_elsewhere (some n) c = under_other n.key n.handle c.row

-- the code of the first test that the call fails, or 0
unfoldable pub refusal : Call → Cache → ℕ
refusal call c =
    cond (too_large (asks call).capacity c) 15
    (cond (bad_record (asks call).state) 2 (cond (short_list (asks call).places c) 3 (cond (handle_elsewhere (asks call).naming c) 12 0)))
