-- Loops over the lent memory keep the lengths of its parts: what held up to a turn and what the turn keeps hold together.
use mathlib.Core.Path.{◌≡◌, refl, ◌∙◌}
use lib.ListN.{length}
use Rattle.memory.specs.Memory.{Memory}

-- no part of the memory has become longer or shorter
pub record SameLengths (m m' : Memory) : Type 0 where
  pub slots : length m'.slots ≡ length m.slots
  pub by_key : length m'.by_key ≡ length m.by_key
  pub by_handle : length m'.by_handle ≡ length m.by_handle
  pub marks : length m'.marks ≡ length m.marks

pub same_start : {m : Memory} → SameLengths m m
same_start = record { slots = refl; by_key = refl; by_handle = refl; marks = refl }

pub same_then : {m m' m'' : Memory} → SameLengths m m' → SameLengths m' m'' → SameLengths m m''
same_then a b = record {
  slots = b.slots ∙ a.slots;
  by_key = b.by_key ∙ a.by_key;
  by_handle = b.by_handle ∙ a.by_handle;
  marks = b.marks ∙ a.marks;
}
