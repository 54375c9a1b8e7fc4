-- What the mode of an insertion decides: which of 01's three forms it has (rules 6 and 7).
use Rattle.std.specs.Prelude.{Bool, true, false, ℕ, ltb}
use Rattle.answer.specs.declared.answer.Answer.{Answer}
use Rattle.answer.specs.declared.answer.Answer.TheVariants.{Full, NoSlot}
use Rattle.model.specs.Call as model
use Rattle.insertion.specs.declared.mode.InsertMode.{InsertMode}
use Rattle.insertion.specs.declared.mode.InsertMode.TheVariants.{Plain, Forced, Upsert}

-- what the model calls it
abbrev pub insertion_of : InsertMode → model.Insertion
insertion_of Plain = model.plain
insertion_of Forced = model.forced
insertion_of Upsert = model.upsert

-- rule 6: upsert replaces a page that is there
abbrev pub replaces : InsertMode → Bool
replaces Plain = false
replaces Forced = false
replaces Upsert = true

-- rule 7: on Full the forced forms insert without making room, if a slot is free
abbrev pub goes_in : InsertMode → (held size : ℕ) → Bool
goes_in Plain held size = false
goes_in Forced held size = ltb held size
goes_in Upsert held size = ltb held size

-- otherwise the answer is 8, or 13 to the forced forms
abbrev pub turned_away : InsertMode → Answer
turned_away Plain = Full
turned_away Forced = NoSlot
turned_away Upsert = NoSlot
