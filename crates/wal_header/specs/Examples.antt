-- A header that sqlite3 wrote, and each fault that a change of it makes.
use Rattle.std.specs.Prelude.{false, List, [], ◌∷◌, ℕ, set, take, Result, Ok, Err}
use Rattle.wal_header.specs.declared.header.Fault.{Fault}
use Rattle.wal_header.specs.declared.header.Fault.TheVariants.{Length, Magic, Version, PageSize, Checksum}
use Rattle.wal_header.specs.declared.header.Header.{Header}

abbrev pub written : List ℕ
written =
    55 ∷ 127 ∷ 6 ∷ 130 ∷ 0 ∷ 45 ∷ 226 ∷ 24 ∷ 0 ∷ 0 ∷ 2 ∷ 0 ∷ 0 ∷ 0 ∷ 0 ∷ 0 ∷ 18 ∷ 143 ∷ 2 ∷ 98 ∷ 121 ∷ 44 ∷ 83 ∷ 218 ∷ 54 ∷ 205 ∷ 146 ∷ 37
    ∷ 200 ∷ 250 ∷ 150 ∷ 67 ∷ []

pub record Example : Type 0 where
  pub bytes : List ℕ
  pub answer : Result Header Fault

abbrev pub example : List ℕ → Result Header Fault → Example
example b a = record { bytes = b; answer = a }

-- as it is; a byte short; magic 0x377f0684; version 3007001; page size 256 and 131,072; a salt's bit, and a sum's, turned
abbrev pub examples : List Example
examples =
    example
    written
    (Ok
    (record {
      big = false;
      page_size = 512;
      checkpoint = 0;
      salt1 = 311362146;
      salt2 = 2032948186;
      sums = record { s0 = 919441957; s1 = 3371865667 };
    }))
    ∷ example (take 31 written) (Err Length)
    ∷ example (set written 3 132) (Err Magic)
    ∷ example (set written 7 25) (Err Version)
    ∷ example (set written 10 1) (Err PageSize)
    ∷ example (set (set written 9 2) 10 0) (Err PageSize)
    ∷ example (set written 16 19) (Err Checksum)
    ∷ example (set written 31 66) (Err Checksum)
    ∷ []
