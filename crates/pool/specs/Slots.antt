-- The words of the slots, and the entries that they hold (01, "Memory, pages and numbers"). All 64 bits of each word
-- belong to a field, so four words are one entry and an entry is four words.
use Rattle.std.specs.Prelude.{List, [], ◌∷◌, ℕ, ◌/◌, ◌%◌, ◌^◌}
use Rattle.page.specs.declared.entry.PageCacheEntry.{PageCacheEntry}

-- the entry that four words hold
unfoldable pub decode : ℕ → ℕ → ℕ → ℕ → PageCacheEntry
decode names links counts frame = record {
  key = record { 0 = names % 2 ^ 32 };
  handle = record { 0 = names / 2 ^ 32 };
  page = record {
    flags = counts % 2 ^ 8;
    pins = counts / 2 ^ 32 % 2 ^ 16;
    holders = counts / 2 ^ 48;
    cells = counts / 2 ^ 16 % 2 ^ 8;
    frame = frame;
  };
  uses = counts / 2 ^ 8 % 2 ^ 8;
  spare = counts / 2 ^ 24 % 2 ^ 8;
  next = record { 0 = links % 2 ^ 32 };
  prev = record { 0 = links / 2 ^ 32 };
}

-- a free slot is all zero
unfoldable pub blank : PageCacheEntry
blank = record {
  key = record { 0 = 0 };
  handle = record { 0 = 0 };
  page = record { flags = 0; pins = 0; holders = 0; cells = 0; frame = 0 };
  uses = 0;
  spare = 0;
  next = record { 0 = 0 };
  prev = record { 0 = 0 };
}

-- the entries of the slots, in the order of the slots
unfoldable pub entries : List ℕ → List PageCacheEntry
entries [] = []
entries (a ∷ []) = []
entries (a ∷ b ∷ []) = []
entries (a ∷ b ∷ c ∷ []) = []
entries (a ∷ b ∷ c ∷ d ∷ l) = decode a b c d ∷ entries l
