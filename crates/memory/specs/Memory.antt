-- The lent memory as one value.
use Rattle.std.specs.Prelude.{◌≡◌, List, ℕ}
use Rattle.std.specs.Borrow.{MutBor}
use denote.Triple.Both.{Both}
use Rattle.free_marks.specs.Marks.{Wide}
use Rattle.memory.specs.declared.lent.LentMemory.{LentMemory}
use Rattle.memory.specs.declared.lent.LentView.{LentView}

pub record Memory : Type 0 where
  pub slots : List ℕ
  pub by_key : List ℕ
  pub by_handle : List ℕ
  pub marks : List ℕ

-- the memory whose parts these are
abbrev pub memory_of : (slots by_key by_handle marks : List ℕ) → Memory
memory_of slots by_key by_handle marks = record { slots = slots; by_key = by_key; by_handle = by_handle; marks = marks }

-- ── lent as one value ────────────────────────────────────────────────────────
-- the memory in slices that are lent to be written, and in slices that are lent to be read
abbrev pub memory_in : LentMemory → Memory
memory_in m = memory_of m.slots.now m.by_key.now m.by_handle.now m.marks.now

abbrev pub memory_seen : LentView → Memory
memory_seen m = memory_of m.slots.now m.by_key.now m.by_handle.now m.marks.now

-- the slices that are lent after a call are those that were lent before it: it wrote in them, and put no others in their place
pub record SameSlices (m m' : LentMemory) : Type 0 where
  pub slots : m'.slots.ghost_name ≡ m.slots.ghost_name
  pub by_key : m'.by_key.ghost_name ≡ m.by_key.ghost_name
  pub by_handle : m'.by_handle.ghost_name ≡ m.by_handle.ghost_name
  pub marks : m'.marks.ghost_name ≡ m.marks.ghost_name

-- each word is a number of 64 bits, as its type says
pub record WordsFit (m : Memory) : Type 0 where
  pub slots : Wide m.slots
  pub marks : Wide m.marks

-- ── lent one by one ──────────────────────────────────────────────────────────
-- a slice that is lent to be written, and one at entry and at exit
abbrev pub Lent : Type 0
Lent = MutBor (List ℕ)

abbrev pub LentBoth : Type 0
LentBoth = Both Lent Lent

-- the memory that these slices are: for a `requires`
abbrev pub memory : Lent → Lent → Lent → Lent → Memory
memory slots by_key by_handle marks = memory_of slots.now by_key.now by_handle.now marks.now

-- the same at entry and at exit: for an `ensures`
abbrev pub memories : LentBoth → LentBoth → LentBoth → LentBoth → Both Memory Memory
memories slots by_key by_handle marks = record {
  entry = memory slots.entry by_key.entry by_handle.entry marks.entry;
  exit = memory slots.exit by_key.exit by_handle.exit marks.exit;
}
