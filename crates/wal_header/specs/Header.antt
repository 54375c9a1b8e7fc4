-- The header of a log, from the document's section 4.1 and item 2.
use Rattle.std.specs.Prelude.{Bool, cond, not, ◌||◌, List, ℕ, eqb, ltb, length, codes, Result, Ok, Err}
use Rattle.page_size.specs.PageSize.{is_page_size}
use Rattle.wal_checksum.specs.Checksum.{big_endian, checksum, sums_at, same_sums}
use Rattle.wal_checksum.specs.declared.sums.Sums.{Sums}
use Rattle.wal_header.specs.declared.header.Header.{Header}
use Rattle.wal_header.specs.declared.header.Fault.{Fault}
use Rattle.wal_header.specs.declared.header.Fault.TheVariants.{Length, Magic, Version, PageSize, Checksum}

-- 'Magic number.  0x377f0682 or 0x377f0683'; the second chooses big-endian words
abbrev pub is_big : ℕ → Bool
is_big n = eqb n 931071619

abbrev pub is_magic : ℕ → Bool
is_magic n = eqb n 931071618 || is_big n

-- 'a checksum on the first 24 bytes of header': three pairs of words
unfoldable pub header_sums : List ℕ → Sums
header_sums b = checksum (is_big (big_endian b 0)) b 0 3 (record { s0 = 0; s1 = 0 })

-- 0 magic, 4 version, 8 page size, 12 checkpoint sequence number, 16 and 20 salts, 24 and 28 sums
unfoldable pub header_of : List ℕ → Header
header_of b = record {
  big = is_big (big_endian b 0);
  page_size = big_endian b 8;
  checkpoint = big_endian b 12;
  salt1 = big_endian b 16;
  salt2 = big_endian b 20;
  sums = header_sums b;
}

-- refused by its first fault: length, magic, version, page size, checksum
unfoldable pub opened : List ℕ → Result Header Fault
opened b =
    cond (ltb (length b) 32) (Err Length)
    (cond (not (is_magic (big_endian b 0))) (Err Magic)
    (cond (not (eqb (big_endian b 4) 3007000)) (Err Version)
    (cond (not (is_page_size (big_endian b 8))) (Err PageSize)
    (cond (not (same_sums (header_sums b) (sums_at b 24))) (Err Checksum) (Ok (header_of b))))))

-- the fault's name, as it is printed
abbrev pub name : Fault → List ℕ
name Length = codes "length"
name Magic = codes "magic"
name Version = codes "version"
name PageSize = codes "page size"
name Checksum = codes "checksum"
