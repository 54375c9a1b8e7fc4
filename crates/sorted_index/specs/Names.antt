-- The names that an index goes by (01, "Memory, pages and numbers": by ascending key; and the same by handle).
use Rattle.std.specs.Prelude.{List, map, ℕ}
use Rattle.page.specs.declared.entry.PageCacheEntry.{PageCacheEntry}
use Rattle.sorted_index.specs.declared.search.By.{By}
use Rattle.sorted_index.specs.declared.search.By.TheVariants.{Key, Handle}

-- an entry's name: its key, or its handle
abbrev pub name_of : By → PageCacheEntry → ℕ
name_of Key e = e.key.0
name_of Handle e = e.handle.0

-- the column of names: one for each slot
abbrev pub names : By → List PageCacheEntry → List ℕ
names by es = map (name_of by) es
