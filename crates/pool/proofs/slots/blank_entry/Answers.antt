-- A new entry with every number 0 is blank.
use Rattle.std.proofs.Common.{◌≡◌, refl}
use Rattle.page.specs.declared.record.PageRecord.{PageRecord}
use Rattle.pool.specs.Slots.{blank}
use Rattle.pool.proofs.slots.blank_entry.Goals as goal

-- a record is known by its fields
all_zero : (p : PageRecord) → p.flags ≡ 0 → p.pins ≡ 0 → p.holders ≡ 0 → p.cells ≡ 0 → p.frame ≡ 0
    → p ≡ record { flags = 0; pins = 0; holders = 0; cells = 0; frame = 0 }
all_zero p a b d e f =
    let same : p ≡ record { flags = p.flags; pins = p.pins; holders = p.holders; cells = p.cells; frame = p.frame } = refl in
    simp (a, b, d, e, f) at same

pub returns : goal.returns
unfolding blank
returns c = let z = c.default.ensures in rw (all_zero _ z.0 z.1.0 z.1.1.0 z.1.1.1.0 z.1.1.1.1) at c.new.ensures
