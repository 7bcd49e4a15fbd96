-- What the rows of a file that stands have, and a check has yet to find.
use Rattle.std.specs.Prelude.{◌≡◌, ℕ, true, Bool, List, Some, IsSome}
use Rattle.pages.specs.Each.{Each}
use Rattle.record_layout.specs.Schema.{prime_of}
use Rattle.pages.specs.Marks.{marked_in}
use Rattle.pages.specs.PageList.{pages_in}
use Rattle.page_walks.specs.declared.spot.LeafSpot.{LeafSpot}
use Rattle.page_walks.specs.declared.leaf.Leaf.{Leaf}
use Rattle.page_walks.specs.Spots.{IsLeafThere, IsSpotThere, spots_in}
use Rattle.record_heap.specs.Chain.{IsOneOf}
use Rattle.record_heap.specs.Standing.{slot_off}
use Rattle.key_index.specs.declared.alt_index.AltIndex.{AltIndex}
use Rattle.open_file.specs.Fields.{heap_of, prime_index_of, file_schema}
use Rattle.open_file.specs.declared.open_file.OpenFile.{OpenFile}
use Rattle.bplus_tree.specs.Fields.{tree_shape}
use Rattle.page_walks.specs.Spots.{entry_at_spot}
use Rattle.file_checker.specs.Rows.{EntriesRise, RowsStand, place_at, row_at}
use Rattle.file_checker.specs.Leading.{IsEntryOf, IsStoredRow, stored_row}
use Rattle.file_checker.specs.Alternate.{HasEntriesOfRows}
use Rattle.file_checker.specs.Search.{IsPrimeLeaf, value_at}

-- the rows stand, and the entries that lead to them are those of these leaves
pub record RowsAhead (opened : OpenFile) (list : List (List ℕ)) (own : List ℕ)
    (primes : List Leaf) : Type 0 where
  pub there : Each (IsPrimeLeaf opened list) primes
  pub stand : RowsStand opened list own (spots_in primes)

-- the entry is there, and leads to a row that has its value, in one of the marked pages
pub record LeadsAhead (opened : OpenFile) (list : List (List ℕ)) (marks : List Bool)
    (spot : LeafSpot) : Type 0 where
  pub there : IsSpotThere (tree_shape (prime_index_of opened).tree) list spot
  pub stored : List ℕ
  pub used : slot_off (heap_of opened) (pages_in list) (place_at opened list spot) ≡ Some stored
  pub own : marked_in marks (place_at opened list spot).page ≡ true
  pub row : IsStoredRow opened stored
  pub value : value_at opened list spot ≡ prime_of (file_schema opened) (stored_row opened stored).bytes

-- the entry is there, leads to a slot in use, and has the value of the row in it
pub record HasItsRow (opened : OpenFile) (list : List (List ℕ)) (spot : LeafSpot) : Type 0 where
  pub there : IsSpotThere (tree_shape (prime_index_of opened).tree) list spot
  pub used : IsSome (slot_off (heap_of opened) (pages_in list) (place_at opened list spot))
  pub value : value_at opened list spot ≡ prime_of (file_schema opened) (row_at opened list spot).bytes

-- the entries of these leaves of the prime index rise, and each has its row
pub record PrimesLead (opened : OpenFile) (list : List (List ℕ)) (primes : List Leaf) : Type 0 where
  pub there : Each (IsPrimeLeaf opened list) primes
  pub rise : EntriesRise opened list (spots_in primes)
  pub rows : Each (HasItsRow opened list) (spots_in primes)

-- the entry is there, and is the one that the index has of a row that the prime index leads to
pub record HasRowAhead (opened : OpenFile) (list : List (List ℕ)) (primes : List LeafSpot)
    (index : AltIndex) (spot : LeafSpot) : Type 0 where
  pub there : IsSpotThere (tree_shape index.tree) list spot
  pub leader : LeafSpot
  pub one : IsOneOf primes leader
  pub is : IsEntryOf opened list index (entry_at_spot (tree_shape index.tree) list spot) leader

-- the entries of these leaves of the index are those of the rows that the prime index leads to
pub record AlternateAhead (opened : OpenFile) (list : List (List ℕ)) (primes : List Leaf)
    (index : AltIndex) (leaves : List Leaf) : Type 0 where
  pub primes_lead : PrimesLead opened list primes
  pub there : Each (IsLeafThere (tree_shape index.tree) list) leaves
  pub rows : HasEntriesOfRows opened list (spots_in primes) index (spots_in leaves)
