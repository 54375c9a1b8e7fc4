-- The sizes of pages, from the document's section 1.2.
use Rattle.std.specs.Prelude.{Bool, ◌||◌, ℕ, eqb}

-- 'a power of two between 512 and 65536 inclusive'
abbrev pub is_page_size : ℕ → Bool
is_page_size n = (((eqb n 512 || eqb n 1024) || eqb n 2048) || eqb n 4096) || (((eqb n 8192 || eqb n 16384) || eqb n 32768) || eqb n 65536)
