-- The header of a database, from the document's section 1.3, and what opening one says of it.
use Rattle.std.specs.Prelude.{◌≡◌, true, cond, List, [], ◌∷◌, ℕ, ◌-◌, ◌≤◌, ◌<◌, eqb, get_or, length, take, codes, Option, None, Some, Result, Ok, Err}
use Rattle.page_size.specs.PageSize.{is_page_size}
use Rattle.btree_format.specs.Fields.{half}
use Rattle.btree_format.specs.Rules.{All, First, LikeMagic}
use Rattle.database_header.specs.declared.header.Database.{Database}
use Rattle.database_header.specs.declared.header.Fault.{Fault}
use Rattle.database_header.specs.declared.header.Fault.TheVariants.{Length, Magic, PageSize, UsableSize}

-- ── the fields ───────────────────────────────────────────────────────────────
-- 16: 'to specify a 65536-byte page size, the value at offset 16 is 0x00 0x01', 'a big-endian 1'
unfoldable pub page_size_of : List ℕ → ℕ
page_size_of b = cond (eqb (half b 16) 1) 65536 (half b 16)

-- 20: 'the number of bytes of space at the end of each page to reserve for extensions'
abbrev pub reserved : List ℕ → ℕ
reserved b = get_or b 20 0

abbrev pub database_of : List ℕ → Database
database_of b = record { page_size = page_size_of b; reserved = reserved b }

-- ── the rules ────────────────────────────────────────────────────────────────
pub data Rule : Type 0 where
  whole : Rule
  magic_string : Rule
  page_size : Rule
  usable_size : Rule

abbrev pub rules : List Rule
rules = whole ∷ magic_string ∷ page_size ∷ usable_size ∷ []

abbrev pub HeaderRuleHolds : List ℕ → Rule → Type 0
-- 'the first 100 bytes of the database file (the database file header)'
HeaderRuleHolds b whole = 100 ≤ length b
-- 'Every valid SQLite database file begins with the following 16 bytes'
HeaderRuleHolds b magic_string = (i : ℕ) → i < 16 → LikeMagic b i
HeaderRuleHolds b page_size = is_page_size (page_size_of b) ≡ true
-- 'the usable size is not allowed to be less than 480'
HeaderRuleHolds b usable_size = 480 ≤ page_size_of b - reserved b

-- ── the answer ───────────────────────────────────────────────────────────────
-- how many rules come before the one that the fault breaks
abbrev pub before : Fault → ℕ
before Length = 0
before (Magic at) = 1
before PageSize = 2
before UsableSize = 3

-- the rule fails; for the magic string, that byte is the first that differs
abbrev pub Fails : List ℕ → Fault → Type 0
Fails b Length = HeaderRuleHolds b whole → ⊥
Fails b (Magic at) = First (LikeMagic b) 16 at
Fails b PageSize = HeaderRuleHolds b page_size → ⊥
Fails b UsableSize = HeaderRuleHolds b usable_size → ⊥

abbrev pub Obeys : List ℕ → List Rule → Type 0
Obeys b = All (HeaderRuleHolds b)

-- the first rule that fails
pub record Refuses (b : List ℕ) (f : Fault) : Type 0 where
  pub earlier : Obeys b (take (before f) rules)
  pub fails : Fails b f

-- all rules hold, and the fields are those that are stored
pub record Describes (b : List ℕ) (d : Database) : Type 0 where
  pub good : Obeys b rules
  pub stored : d ≡ database_of b

abbrev pub Opens : List ℕ → Result Database Fault → Type 0
Opens b (Ok d) = Describes b d
Opens b (Err f) = Refuses b f

-- ── what is told of a fault ──────────────────────────────────────────────────
-- where in the header the field stands that is wrong
abbrev pub offset : Fault → Option ℕ
offset Length = None
offset (Magic at) = Some at
offset PageSize = Some 16
offset UsableSize = Some 20

-- the rule's name, as it is printed
abbrev pub name : Fault → List ℕ
name Length = codes "length"
name (Magic at) = codes "magic"
name PageSize = codes "page size"
name UsableSize = codes "usable size"
