-- What is wrong with the rows of a file, and where.
use Rattle.std.specs.Prelude.{◌≡◌, ◌⊎◌, ℕ, ◌<◌, Bool, true, List, Some, IsSome, find, ⊤}
use Rattle.record_layout.specs.Schema.{prime_of}
use Rattle.pages.specs.PageList.{pages_in}
use Rattle.pages.specs.declared.fault_place.FaultPlace.{FaultPlace}
use Rattle.pages.specs.declared.fault_place.FaultPlace.TheVariants.{Entry}
use Rattle.pages.specs.declared.damage.Damage.TheVariants.{Index}
use Rattle.pages.specs.declared.walk_fault.WalkFault.{WalkFault}
use Rattle.pages.specs.declared.walk_fault.WalkFault.TheVariants.{Memory, At}
use Rattle.page_walks.specs.declared.spot.LeafSpot.{LeafSpot}
use Rattle.page_walks.specs.declared.leaf.Leaf.{Leaf}
use Rattle.page_walks.specs.Spots.{IsSpotThere, spots_in}
use Rattle.record_heap.specs.declared.shape.Place.{Place}
use Rattle.record_heap.specs.Chain.{IsOneOf}
use Rattle.record_heap.specs.Slot.{room}
use Rattle.record_heap.specs.Standing.{slot_off, slot_shape}
use Rattle.record_heap.specs.Walk.{is_in_list}
use Rattle.open_file.specs.Fields.{heap_of, prime_index_of, file_schema}
use Rattle.open_file.specs.Stands.{is_same}
use Rattle.open_file.specs.declared.open_file.OpenFile.{OpenFile}
use Rattle.bplus_tree.specs.Fields.{tree_shape}
use Rattle.key_index.specs.declared.alt_index.AltIndex.{AltIndex}
use Rattle.file_checker.specs.Rows.{place_at, places_in}
use Rattle.file_checker.specs.Leading.{IsStoredRow, stored_row}
use Rattle.file_checker.specs.Search.{value_at}
use Rattle.file_checker.specs.RowsAhead.{HasRowAhead, LeadsAhead}

-- that memory ran out, or that an index and the records do not agree, and where, of which this holds
abbrev pub TellsOfRows : (FaultPlace → Type 0) → WalkFault → Type 0
TellsOfRows Holds Memory = ⊤
TellsOfRows Holds (At damage place) = (damage ≡ Index) × Holds place

-- the entry at one of these places is told, of which this does not hold
pub record IsEntryFault (spots : List LeafSpot) (Holds : LeafSpot → Type 0) (place : FaultPlace) : Type 0 where
  pub spot : LeafSpot
  pub one : IsOneOf spots spot
  pub told : place ≡ Entry spot.page spot.place
  pub wrong : Holds spot → ⊥

-- so, where an entry at one of these places does not lead to a row that has its value, in a marked page
abbrev pub TellsOfLeading : OpenFile → List (List ℕ) → (marks : List Bool) → List LeafSpot → WalkFault → Type 0
TellsOfLeading opened list marks spots = TellsOfRows (IsEntryFault spots (LeadsAhead opened list marks))

-- the entry is there, and leads to a row that has its value, in one of these pages
pub record LeadsToOwn (opened : OpenFile) (list : List (List ℕ)) (own : List ℕ) (spot : LeafSpot) : Type 0 where
  pub there : IsSpotThere (tree_shape (prime_index_of opened).tree) list spot
  pub stored : List ℕ
  pub used : slot_off (heap_of opened) (pages_in list) (place_at opened list spot) ≡ Some stored
  pub page : is_in_list own (place_at opened list spot).page ≡ true
  pub row : IsStoredRow opened stored
  pub value : value_at opened list spot ≡ prime_of (file_schema opened) (stored_row opened stored).bytes

-- a slot of these pages is told that is in use, and to which no entry of the prime index leads
pub record HasNoEntry (opened : OpenFile) (list : List (List ℕ)) (primes : List LeafSpot) (own : List ℕ)
    (place : FaultPlace) : Type 0 where
  pub slot : Place
  pub page : is_in_list own slot.page ≡ true
  pub within : slot.slot < room (slot_shape (heap_of opened))
  pub told : place ≡ Entry slot.page slot.slot
  pub used : IsSome (slot_off (heap_of opened) (pages_in list) slot)
  pub none : IsSome (find (is_same slot) (places_in opened list primes)) → ⊥

-- an entry of the prime index does not lead to a row that has its value, or a slot in use has no entry
abbrev pub IsRowFault : OpenFile → List (List ℕ) → (own : List ℕ) → List Leaf → FaultPlace → Type 0
IsRowFault opened list own primes place =
    IsEntryFault (spots_in primes) (LeadsToOwn opened list own) place
    ⊎ HasNoEntry opened list (spots_in primes) own place

-- an entry of an alternate index is that of no row to which the prime index leads
abbrev pub IsAlternateFault : OpenFile → List (List ℕ) → (primes : List Leaf) → AltIndex
    → (leaves : List Leaf) → FaultPlace → Type 0
IsAlternateFault opened list primes index leaves place =
    IsEntryFault (spots_in leaves) (HasRowAhead opened list (spots_in primes) index) place
