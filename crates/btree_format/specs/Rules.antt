-- The rules of item 9 in the order of the document's fields, and what a check says of a page.
use Rattle.std.specs.Prelude.{◌≡◌, true, List, [], ◌∷◌, ℕ, ◌+◌, ◌≤◌, ◌<◌, get_or, length, take, codes, Option, None, Some, Result, Ok, Err}
use Rattle.page_size.specs.PageSize.{is_page_size}
use Rattle.btree_format.specs.Fields.{Page, usable, header, magic, half, kind, is_kind, cells, start, fragments, pointer_at, size_at}
use Rattle.btree_format.specs.declared.answer.Fault.{Fault}
use Rattle.btree_format.specs.declared.answer.Fault.TheVariants.{Length, PageSize, UsableSize, Magic, PageType, Freeblocks, CellCount, ContentStart, Fragments, CellPointer}

-- ── all hold, or the first that fails ────────────────────────────────────────
-- all rules of the list hold
abbrev pub All : {Rule : Type 0} (RuleHolds : Rule → Type 0) → List Rule → Type 0
All RuleHolds [] = Unit {0}
All RuleHolds (rule ∷ rest) = RuleHolds rule × All RuleHolds rest

-- i is the first number below `many` that is not fine
pub record First (Fine : ℕ → Type 0) (many i : ℕ) : Type 0 where
  pub below : i < many
  pub bad : Fine i → ⊥
  pub before : (j : ℕ) → j < i → Fine j

-- what a search for it answers: its place, or None if all are fine
abbrev pub Finds : (Fine : ℕ → Type 0) (many : ℕ) → Option ℕ → Type 0
Finds Fine many None = (i : ℕ) → i < many → Fine i
Finds Fine many (Some i) = First Fine many i

-- ── the freeblock chain ──────────────────────────────────────────────────────
-- a block stands from `least` on, with room for its first four bytes before the usable end
pub record Placed (end least block : ℕ) : Type 0 where
  pub after : least ≤ block
  pub room : block + 4 ≤ end

-- 'A freeblock requires at least 4 bytes of space', and it ends within
pub record Sized (end block size : ℕ) : Type 0 where
  pub large : 4 ≤ size
  pub within : block + size ≤ end

-- what is found in the chain that begins with the link at `link`, and whose blocks have to lie from `least` on: the place of the first
-- bad link or size, or None if there is none
pub data Chain (b : List ℕ) (end : ℕ) : (link least : ℕ) → Option ℕ → Type 0 where
  -- 'or zero if the freeblock is the last on the chain'
  ends : {link least : ℕ} → half b link ≡ 0 → Chain b end link least None
  -- a link to where no block may stand
  bad_link : {link least : ℕ} → (half b link ≡ 0 → ⊥) → (Placed end least (half b link) → ⊥) → Chain b end link least (Some link)
  -- a block that is too small, or that ends past the usable end
  bad_size : {link least : ℕ} → (half b link ≡ 0 → ⊥) → Placed end least (half b link)
      → (Sized end (half b link) (half b (size_at (half b link))) → ⊥)
      → Chain b end link least (Some (size_at (half b link)))
  -- a good block; the others have to lie after its end: 'in order of increasing offset'
  goes_on : {link least : ℕ} {place : Option ℕ} → (half b link ≡ 0 → ⊥) → Placed end least (half b link)
      → Sized end (half b link) (half b (size_at (half b link)))
      → Chain b end (half b link) (half b link + half b (size_at (half b link))) place
      → Chain b end link least place

-- ── the rules ────────────────────────────────────────────────────────────────
-- byte i of the image is that of the magic string
abbrev pub LikeMagic : List ℕ → (i : ℕ) → Type 0
LikeMagic b i = get_or b i 0 ≡ get_or magic i 0

-- 'from content start to below the usable end'
pub record Inside (start end pointer : ℕ) : Type 0 where
  pub from : start ≤ pointer
  pub below : pointer < end

-- cell pointer i
abbrev pub PointsInside : Page → (i : ℕ) → Type 0
PointsInside p i = Inside (start p) (usable p) (half p.image (pointer_at p i))

pub data Rule : Type 0 where
  same_length : Rule
  page_size : Rule
  usable_size : Rule
  magic_string : Rule
  page_type : Rule
  freeblock_chain : Rule
  cell_count : Rule
  content_start : Rule
  fragmented_bytes : Rule
  cell_pointers : Rule

-- the sizes first, then the fields in the document's order
abbrev pub rules : List Rule
rules =
    same_length ∷ page_size ∷ usable_size ∷ magic_string ∷ page_type ∷ freeblock_chain ∷ cell_count ∷ content_start ∷ fragmented_bytes
    ∷ cell_pointers ∷ []

abbrev pub RuleHolds : Page → Rule → Type 0
RuleHolds p same_length = p.size ≡ length p.image
RuleHolds p page_size = is_page_size p.size ≡ true
RuleHolds p usable_size = 480 ≤ usable p
RuleHolds p magic_string = p.number ≡ 1 → (i : ℕ) → i < 16 → LikeMagic p.image i
RuleHolds p page_type = is_kind (kind p) ≡ true
RuleHolds p freeblock_chain = Chain p.image (usable p) (header p + 1) (start p) None
-- the pointer array ends by the content start
RuleHolds p cell_count = pointer_at p (cells p) ≤ start p
RuleHolds p content_start = start p ≤ usable p
RuleHolds p fragmented_bytes = fragments p ≤ 60
RuleHolds p cell_pointers = (i : ℕ) → i < cells p → PointsInside p i

-- ── the answer ───────────────────────────────────────────────────────────────
-- how many rules come before the one that the fault breaks
abbrev pub before : Fault → ℕ
before Length = 0
before PageSize = 1
before UsableSize = 2
before (Magic at) = 3
before (PageType at) = 4
before (Freeblocks at) = 5
before (CellCount at) = 6
before (ContentStart at) = 7
before (Fragments at) = 8
before (CellPointer at) = 9

abbrev pub broken : Fault → Rule
broken f = get_or rules (before f) same_length

-- a rule about one field fails, and the place is that field's
pub record Breaks (p : Page) (rule : Rule) (field at : ℕ) : Type 0 where
  pub fails : RuleHolds p rule → ⊥
  pub stands : at ≡ field

-- the first byte of page 1 that differs from the magic string
pub record Unlike (p : Page) (at : ℕ) : Type 0 where
  pub page1 : p.number ≡ 1
  pub first : First (LikeMagic p.image) 16 at

-- the place of the first pointer that points outside
pub record Outside (p : Page) (at : ℕ) : Type 0 where
  pub index : ℕ
  pub first : First (PointsInside p) (cells p) index
  pub stands : at ≡ pointer_at p index

-- the rule fails, and the place is that of its first fault
abbrev pub Fails : Page → Fault → Type 0
Fails p Length = RuleHolds p same_length → ⊥
Fails p PageSize = RuleHolds p page_size → ⊥
Fails p UsableSize = RuleHolds p usable_size → ⊥
Fails p (Magic at) = Unlike p at
Fails p (PageType at) = Breaks p page_type (header p) at
Fails p (Freeblocks at) = Chain p.image (usable p) (header p + 1) (start p) (Some at)
Fails p (CellCount at) = Breaks p cell_count (header p + 3) at
Fails p (ContentStart at) = Breaks p content_start (header p + 5) at
Fails p (Fragments at) = Breaks p fragmented_bytes (header p + 7) at
Fails p (CellPointer at) = Outside p at

abbrev pub Obeys : Page → List Rule → Type 0
Obeys p = All (RuleHolds p)

-- the first rule that fails
pub record Refuses (p : Page) (f : Fault) : Type 0 where
  pub earlier : Obeys p (take (before f) rules)
  pub fails : Fails p f

-- yes, or what is wrong
abbrev pub Says : Page → Result (Unit {0}) Fault → Type 0
Says p (Ok _) = Obeys p rules
Says p (Err f) = Refuses p f

-- ── what is told of a fault ──────────────────────────────────────────────────
-- where in the page the field stands that breaks the rule
abbrev pub offset : Fault → Option ℕ
offset Length = None
offset PageSize = None
offset UsableSize = None
offset (Magic at) = Some at
offset (PageType at) = Some at
offset (Freeblocks at) = Some at
offset (CellCount at) = Some at
offset (ContentStart at) = Some at
offset (Fragments at) = Some at
offset (CellPointer at) = Some at

-- the rule's name, as it is printed
abbrev pub name : Fault → List ℕ
name Length = codes "length"
name PageSize = codes "page size"
name UsableSize = codes "usable size"
name (Magic at) = codes "magic"
name (PageType at) = codes "page type"
name (Freeblocks at) = codes "freeblock chain"
name (CellCount at) = codes "cell count"
name (ContentStart at) = codes "content start"
name (Fragments at) = codes "fragmented bytes"
name (CellPointer at) = codes "cell pointer"
