-- A page, and the fields of a b-tree page's header, from the document's sections 1.3 and 1.6.
use Rattle.std.specs.Prelude.{Bool, cond, ◌||◌, List, [], ◌∷◌, ℕ, ◌+◌, ◌*◌, ◌-◌, eqb, get_or}

-- an image that is lent as a page of a database
pub record Page : Type 0 where
  pub image : List ℕ
  pub number : ℕ
  -- the page size, and how much of it is reserved at the page's end, in bytes
  pub size : ℕ
  pub reserved : ℕ

abbrev pub page : List ℕ → (number size reserved : ℕ) → Page
page b n s r = record { image = b; number = n; size = s; reserved = r }

-- 'the page size .. less the "reserved" space size'
abbrev pub usable : Page → ℕ
usable p = p.size - p.reserved

-- 'The 100-byte database file header is found only on page 1': after it stands the b-tree page header
abbrev pub header_at : (number : ℕ) → ℕ
header_at n = cond (eqb n 1) 100 0

abbrev pub header : Page → ℕ
header p = header_at p.number

-- 'Every valid SQLite database file begins with the following 16 bytes'
abbrev pub magic : List ℕ
magic = 83 ∷ 81 ∷ 76 ∷ 105 ∷ 116 ∷ 101 ∷ 32 ∷ 102 ∷ 111 ∷ 114 ∷ 109 ∷ 97 ∷ 116 ∷ 32 ∷ 51 ∷ 0 ∷ []

-- 'All multibyte values in the page header are big-endian', and so are the links and sizes of freeblocks and the pointers
unfoldable pub half : List ℕ → (at : ℕ) → ℕ
half b at = get_or b at 0 * 256 + get_or b (at + 1) 0

-- ── the fields of the b-tree page header ─────────────────────────────────────
-- 0: the page type
abbrev pub kind : Page → ℕ
kind p = get_or p.image (header p) 0

-- 'interior index', 'interior table'
abbrev pub is_interior : ℕ → Bool
is_interior k = eqb k 2 || eqb k 5

-- these, 'leaf index' and 'leaf table'; 'Any other value for the b-tree page type is an error'
abbrev pub is_kind : ℕ → Bool
is_kind k = (is_interior k || eqb k 10) || eqb k 13

-- 1: 'the start of the first freeblock', a link

-- 3: 'the number of cells on the page'
abbrev pub cells : Page → ℕ
cells p = half p.image (header p + 3)

-- 5: 'the start of the cell content area. A zero value for this integer is interpreted as 65536'
unfoldable pub start_at : List ℕ → (header : ℕ) → ℕ
start_at b h = cond (eqb (half b (h + 5)) 0) 65536 (half b (h + 5))

abbrev pub start : Page → ℕ
start p = start_at p.image (header p)

-- 7: 'the number of fragmented free bytes within the cell content area'
abbrev pub fragments : Page → ℕ
fragments p = get_or p.image (header p + 7) 0

-- 'The b-tree page header is 8 bytes in size for leaf pages and 12 bytes for interior pages'
abbrev pub array_at : (header kind : ℕ) → ℕ
array_at h k = h + cond (is_interior k) 12 8

-- 'The cell pointer array .. immediately follows': 'K 2-byte integer offsets to the cell contents', from 0 on
abbrev pub pointer_at : Page → (i : ℕ) → ℕ
pointer_at p i = array_at (header p) (kind p) + 2 * i

-- ── a freeblock ──────────────────────────────────────────────────────────────
-- its first two bytes are the link to the next one; 'The third and fourth bytes' its size
abbrev pub size_at : (block : ℕ) → ℕ
size_at block = block + 2
