-- The pages of a file in a list, by number.
use Rattle.std.specs.Prelude.{nat_lt, List, [], length, slice_index_or, Some, None, if◌then◌else◌, ℕ}
use Rattle.pages.specs.PageMap.{PageMap}

-- each page of the list is in use
abbrev pub pages_in : List (List ℕ) → PageMap
pages_in pages n = if nat_lt n (length pages) then Some (slice_index_or pages n []) else None
