-- What single entries and slots of a file show.
use Rattle.std.specs.Prelude.{◌≡◌, ℕ, ◌+◌, ◌≤◌, ◌<◌, Bool, true, List, drop, length, take, Some, IsSome}
use Rattle.std.specs.Prelude.{IsTrue, find, zip}
use Rattle.std.specs.List.{list_all}
use Rattle.pages.specs.Each.{Each}
use Rattle.record_layout.specs.Schema.{prime_of}
use Rattle.record_layout.specs.declared.schema.KeyPart.{KeyPart}
use Rattle.indexed_file.specs.File.{Row}
use Rattle.indexed_file.specs.Sound.{is_row, is_stamp}
use Rattle.pages.specs.Marks.{marked_in}
use Rattle.pages.specs.PageList.{pages_in}
use Rattle.page_walks.specs.declared.spot.LeafSpot.{LeafSpot}
use Rattle.page_walks.specs.declared.leaf.Leaf.{Leaf}
use Rattle.page_walks.specs.Spots.{entry_at_spot, spots_below}
use Rattle.record_heap.specs.declared.shape.Place.{Place}
use Rattle.record_heap.specs.Slot.{room}
use Rattle.record_heap.specs.Chain.{IsOneOf}
use Rattle.record_heap.specs.Standing.{slot_off, slot_shape}
use Rattle.record_heap.specs.Walk.{slots_of}
use Rattle.key_index.specs.declared.alt_index.AltIndex.{AltIndex}
use Rattle.key_index.specs.Standing.{alt_key}
use Rattle.key_index.specs.Stored.{alt_entry_in}
use Rattle.open_file.specs.Fields.{heap_of, next_stamp_of, prime_index_of, file_schema}
use Rattle.open_file.specs.InOrder.{alt_entry as entry_of}
use Rattle.open_file.specs.Stored.{stamps_length}
use Rattle.open_file.specs.ReadOff.{stamps_off, row_off}
use Rattle.open_file.specs.Stands.{IsShaped, is_same}
use Rattle.open_file.specs.declared.open_file.OpenFile.{OpenFile}
use Rattle.bplus_tree.specs.Fields.{tree_shape}
use Rattle.file_checker.specs.Rows.{prime_at, place_at, places_in, row_at}

-- this is so of each entry of the leaf
abbrev pub OfEachEntry : (LeafSpot → Type 0) → Leaf → Type 0
OfEachEntry fact leaf = Each fact (spots_below leaf.page leaf.count)

-- in a file whose parts are made for the schema: stamps, and a record of a length that the file has
pub record IsStoredRecord (opened : OpenFile) (stored : List ℕ) : Type 0 where
  pub shaped : IsShaped opened
  pub least : stamps_length (drop 1 (file_schema opened).keys) + (file_schema opened).least ≤ length stored
  pub greatest : length stored
      ≤ stamps_length (drop 1 (file_schema opened).keys) + (file_schema opened).greatest
  pub bytes : Each (λ b. b < 256) stored

-- so, and the file has a key k
pub record HasKeyOf (opened : OpenFile) (stored : List ℕ) (k : ℕ) : Type 0 where
  pub fits : IsStoredRecord opened stored
  pub key : k < length (file_schema opened).keys

-- so, and it is an alternate one
pub record HasAlternateOf (opened : OpenFile) (stored : List ℕ) (k : ℕ) : Type 0 where
  pub fits : IsStoredRecord opened stored
  pub some : 1 ≤ k
  pub key : k < length (file_schema opened).keys

-- the bytes of stamps are those of duplicates keys, each from 1 to below the next one
abbrev pub are_stamps_off : List KeyPart → ℕ → List ℕ → Bool
are_stamps_off parts next bytes = list_all (λ p. is_stamp next p.0 p.1) (zip parts (stamps_off parts bytes))

-- the row of stamps and a record
abbrev pub stored_row : OpenFile → List ℕ → Row
stored_row opened stored = row_off (file_schema opened) (Some stored)

-- the row that they are is one of the file
abbrev pub IsStoredRow : OpenFile → List ℕ → Type 0
IsStoredRow opened stored =
    IsTrue (is_row (file_schema opened) (next_stamp_of opened) (stored_row opened stored))

-- the entry leads to a row that has its value, in one of the marked pages
pub record LeadsToRow (opened : OpenFile) (list : List (List ℕ)) (marks : List Bool)
    (spot : LeafSpot) : Type 0 where
  pub long : length (prime_at opened list spot) ≡ (prime_index_of opened).width + 6
  pub bytes : Each (λ b. b < 256) (prime_at opened list spot)
  pub stored : List ℕ
  pub there : slot_off (heap_of opened) (pages_in list) (place_at opened list spot) ≡ Some stored
  pub fits : IsStoredRecord opened stored
  pub own : marked_in marks (place_at opened list spot).page ≡ true
  pub within : (place_at opened list spot).slot < room (slot_shape (heap_of opened))
  pub row : IsStoredRow opened stored
  pub value : take (prime_index_of opened).width (prime_at opened list spot) ≡ prime_of (file_schema opened)
      (stored_row opened stored).bytes

-- where a slot is in use, an entry of the prime index leads to it
abbrev pub HasEntry : OpenFile → List (List ℕ) → List LeafSpot → Place → Type 0
HasEntry opened list primes place = IsSome (slot_off (heap_of opened) (pages_in list) place)
    → IsSome (find (is_same place) (places_in opened list primes))

-- each slot of page n that is in use has its entry
abbrev pub PageHasEntries : OpenFile → List (List ℕ) → List LeafSpot → ℕ → Type 0
PageHasEntries opened list primes n = (p : Place) → p.page ≡ n → p.slot < room (slot_shape (heap_of opened))
    → HasEntry opened list primes p

-- each slot of these pages that is in use has its entry
abbrev pub PagesHaveEntries : OpenFile → List (List ℕ) → List LeafSpot → List ℕ → Type 0
PagesHaveEntries opened list primes own = (p : Place)
    → IsSome (slots_of (slot_shape (heap_of opened)) (pages_in list) own p)
    → IsSome (find (is_same p) (places_in opened list primes))

-- these bytes are the entry that the index has of the row that the leader leads to
abbrev pub IsEntryOf : OpenFile → List (List ℕ) → AltIndex → List ℕ → LeafSpot → Type 0
IsEntryOf opened list index bytes leader = alt_entry_in index.width bytes
    ≡ entry_of (file_schema opened) (alt_key index) (row_at opened list leader)

-- the entry is the one that the index has of a row that the prime index leads to
pub record HasRow (opened : OpenFile) (list : List (List ℕ)) (primes : List LeafSpot) (index : AltIndex)
    (spot : LeafSpot) : Type 0 where
  pub long : length (entry_at_spot (tree_shape index.tree) list spot) ≡ (tree_shape index.tree).entry
  pub bytes : Each (λ b. b < 256) (entry_at_spot (tree_shape index.tree) list spot)
  pub leader : LeafSpot
  pub one : IsOneOf primes leader
  pub is : IsEntryOf opened list index (entry_at_spot (tree_shape index.tree) list spot) leader
