-- The definition gives what the table of examples says, by computing.
use mathlib.Core.Path.{◌≡◌, refl}
use mathlib.Core.List.{map}
use Rattle.wal_checksum.specs.Checksum.{big_endian, little_endian, paired, checksum}
use Rattle.wal_header.specs.Header.{header_sums, header_of, opened}
use Rattle.wal_header.specs.Examples.{Example, example, examples}

pub examples_right : map (λ (e : Example). example e.bytes (opened e.bytes)) examples ≡ examples
unfolding opened header_of header_sums checksum paired big_endian little_endian
examples_right = refl
