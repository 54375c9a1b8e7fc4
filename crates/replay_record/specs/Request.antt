-- What a replay record asks for (01, "The replay program").
use Rattle.std.specs.Prelude.{List, [], ◌∷◌, ℕ, get_or, Option, Some, None}
use Rattle.model.specs.Call.{Call, plain, forced, upsert, insert, lookup, peek, release, delete, resize, truncate, remove_frames, clear, notify_dirty, notify_spilled, write, spill, evict_one, switch}
use Rattle.replay_record.specs.declared.record.Record.{Record}

pub data Request : Type 0 where
  -- nothing that exists: answer 17
  none : Request
  creation : (capacity : ℕ) → Request
  call : Call → Request

-- the operations, from 0 on, of a record that comes with a list of `places` places
abbrev pub operations : Record → (places : ℕ) → List Request
operations r places =
    creation r.number
    ∷ call (insert plain r.key.0 r.handle.0 r.page places)
    ∷ call (insert forced r.key.0 r.handle.0 r.page places)
    ∷ call (insert upsert r.key.0 r.handle.0 r.page places)
    ∷ call (lookup r.key.0 places)
    ∷ call (peek r.key.0 r.option)
    ∷ call (delete r.key.0 places)
    ∷ call (resize r.number places)
    ∷ call (truncate r.number places)
    ∷ call (remove_frames r.number places)
    ∷ call (clear r.option places)
    ∷ call (notify_dirty r.key.0)
    ∷ call (notify_spilled r.key.0)
    ∷ call (write r.key.0 r.page)
    ∷ call (spill r.number places)
    ∷ call (evict_one places)
    ∷ call (switch r.option)
    ∷ call (release r.key.0)
    ∷ []

-- the number of the last one: an operation above it is answered with 17
abbrev pub last_operation : ℕ
last_operation = 17

abbrev pub request_of : Record → (places : ℕ) → Request
request_of r places = get_or (operations r places) r.operation none

-- and so are bytes that are no record
abbrev pub request_in : Option Record → (places : ℕ) → Request
request_in None places = none
request_in (Some r) places = request_of r places
