-- The rows that the prime index of a file leads to.
use Rattle.std.specs.Prelude.{◌≡◌, Bool, false, List, [], ◌∷◌, length, map, IsTrue, ⊤, ℕ}
use Rattle.std.specs.Ordering.{is_lt}
use Rattle.pages.specs.Each.{Each}
use Rattle.tree_node.specs.Order.{Ascends}
use Rattle.record_layout.specs.Schema.{Schema, prime_of}
use Rattle.indexed_file.specs.File.{Row}
use Rattle.io_state.specs.Rank.{value_cmp}
use Rattle.indexed_file.specs.Sound.{is_row}
use Rattle.pages.specs.Marks.{marked_in}
use Rattle.pages.specs.PageList.{pages_in}
use Rattle.page_walks.specs.declared.spot.LeafSpot.{LeafSpot}
use Rattle.page_walks.specs.Spots.{entry_at_spot, entries_at}
use Rattle.record_heap.specs.declared.shape.Place.{Place}
use Rattle.record_heap.specs.Standing.{slot_off, slot_shape}
use Rattle.record_heap.specs.Walk.{slots_of}
use Rattle.key_index.specs.Stored.{prime_entry_in, prime_bytes, IsPrimeEntry}
use Rattle.open_file.specs.Fields.{heap_of, next_stamp_of, prime_index_of, file_schema}
use Rattle.open_file.specs.InOrder.{prime_entries}
use Rattle.open_file.specs.ReadOff.{row_off}
use Rattle.open_file.specs.Stands.{IsPlaced, IsShaped}
use Rattle.open_file.specs.declared.open_file.OpenFile.{OpenFile}
use Rattle.bplus_tree.specs.Fields.{tree_shape}

-- the bytes of an entry of the prime index
abbrev pub prime_at : OpenFile → List (List ℕ) → LeafSpot → List ℕ
prime_at opened list spot = entry_at_spot (tree_shape (prime_index_of opened).tree) list spot

-- the place that it leads to
abbrev pub place_at : OpenFile → List (List ℕ) → LeafSpot → Place
place_at opened list spot = (prime_entry_in (prime_index_of opened).width (prime_at opened list spot)).place

-- the row that is there
abbrev pub row_at : OpenFile → List (List ℕ) → LeafSpot → Row
row_at opened list spot = row_off (file_schema opened) (slot_off (heap_of opened) (pages_in list)
    (place_at opened list spot))

abbrev pub places_in : OpenFile → List (List ℕ) → List LeafSpot → List Place
places_in opened list spots = map (place_at opened list) spots

abbrev pub rows_in : OpenFile → List (List ℕ) → List LeafSpot → List Row
rows_in opened list spots = map (row_at opened list) spots

-- the entries of the prime index at these places rise by their values
abbrev pub EntriesRise : OpenFile → List (List ℕ) → List LeafSpot → Type 0
EntriesRise opened list spots = Ascends (prime_index_of opened).width
    (entries_at (tree_shape (prime_index_of opened).tree) list spots)

-- the parts of the file are made for its schema, the entries of its prime index rise, and each page has
-- a mark, which is not set
pub record MayCompareRows (opened : OpenFile) (list : List (List ℕ)) (spots : List LeafSpot)
    (marks : List Bool) : Type 0 where
  pub shaped : IsShaped opened
  pub rises : EntriesRise opened list spots
  pub none : (n : ℕ) → marked_in marks n ≡ false
  pub many : length marks ≡ length list

-- the prime values rise
abbrev pub PrimesRise : Schema → List Row → Type 0
PrimesRise schema [] = ⊤
PrimesRise schema (row ∷ rows) = Each (λ other. IsTrue
    (is_lt (value_cmp (prime_of schema row.bytes) (prime_of schema other.bytes)))) rows
    × PrimesRise schema rows

-- What the entries of the prime index at these places lead to are rows in the order of their prime
-- values, and they are the entries of these rows; no other slot of the heap's own pages is in use.
pub record RowsStand (opened : OpenFile) (list : List (List ℕ)) (own : List ℕ)
    (spots : List LeafSpot) : Type 0 where
  pub rows_are : Each (λ row. IsTrue (is_row (file_schema opened) (next_stamp_of opened) row))
      (rows_in opened list spots)
  pub placed : IsPlaced (file_schema opened) (slots_of (slot_shape (heap_of opened)) (pages_in list) own)
      (places_in opened list spots) (rows_in opened list spots)
  pub entries_are : map prime_bytes (prime_entries (file_schema opened) (places_in opened list spots)
      (rows_in opened list spots)) ≡ entries_at (tree_shape (prime_index_of opened).tree) list spots
  pub each : Each (IsPrimeEntry (prime_index_of opened).width)
      (prime_entries (file_schema opened) (places_in opened list spots) (rows_in opened list spots))
  pub rise : PrimesRise (file_schema opened) (rows_in opened list spots)
