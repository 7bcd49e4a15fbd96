-- What the walks of a file that stands have yet to find.
use Rattle.std.specs.Prelude.{◌≡◌, ◌≢◌, ℕ, ◌≤◌, ◌<◌, Bool, List, length, slice_index_or}
use Rattle.pages.specs.Each.{Each}
use Rattle.pages.specs.Owners.{IsOutside}
use Rattle.pages.specs.Marks.{IsUnmarked}
use Rattle.pages.specs.PageList.{pages_in}
use Rattle.page_walks.specs.declared.leaf.Leaf.{Leaf}
use Rattle.page_walks.specs.Spots.{spots_in}
use Rattle.key_index.specs.declared.alt_index.AltIndex.{AltIndex}
use Rattle.key_index.specs.Standing.{AltStands, alt_key}
use Rattle.open_file.specs.Fields.{alternates_of, file_schema}
use Rattle.open_file.specs.InOrder.{alt_entries}
use Rattle.open_file.specs.declared.open_file.OpenFile.{OpenFile}
use Rattle.file_checker.specs.Rows.{rows_in}
use Rattle.file_checker.specs.RowsAhead.{PrimesLead}

-- the alternate index stands in these pages, with the entries of the rows that the prime index leads to
abbrev pub HasAlternate : OpenFile → List (List ℕ) → List Leaf → AltIndex → List ℕ → Type 0
HasAlternate opened list primes index own = AltStands index (pages_in list)
    (alt_entries (file_schema opened) (alt_key index) (rows_in opened list (spots_in primes))) own

-- The entries of the prime index lead to rows. Each alternate index stands in pages of its own, and those
-- of the indexes from this number on were not reached.
pub record AlternatesAhead (opened : OpenFile) (list : List (List ℕ)) (primes : List Leaf) (from : ℕ)
    (reached : List Bool) : Type 0 where
  pub primes_lead : PrimesLead opened list primes
  pub own : ℕ → List ℕ
  pub stand : (j : ℕ) (index : AltIndex) → j < length (alternates_of opened)
      → index ≡ slice_index_or (alternates_of opened) j index
      → HasAlternate opened list primes index (own j)
  pub apart : (i j : ℕ) → i ≢ j → Each (IsOutside (own i)) (own j)
  pub unmarked : (j : ℕ) → from ≤ j → j < length (alternates_of opened) → Each (IsUnmarked reached) (own j)
