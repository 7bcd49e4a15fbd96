-- Records that are moved into a new heap, in the order of an alternate key.
use Rattle.std.specs.Prelude.{◌≡◌, ◌≤◌, ◌<◌, ◌+◌, ℕ, suc, List, [], ◌∷◌, ◌++◌, length, map, find, Some, IsSome, Result, IsTrue}
use Rattle.std.specs.Prelude.{IfErr}
use Rattle.indexed_file.specs.File.{File}
use Rattle.io_state.specs.declared.fault.Fault.{Fault}
use Rattle.pages.specs.Each.{Each}
use Rattle.pages.specs.PageMap.{PageMap}
use Rattle.pages.specs.Owners.{ChangesPages}
use Rattle.pages.specs.Answer.{IsAnswer}
use Rattle.pages.specs.Cause.{IsCaused}
use Rattle.pages.specs.ShownPages.{ShownPages}
use Rattle.record_heap.specs.declared.shape.SlotShape.{SlotShape}
use Rattle.record_heap.specs.declared.shape.Place.{Place}
use Rattle.record_heap.specs.Slot.{room, FitsSlot}
use Rattle.record_heap.specs.Chain.{Slots, IsOneOf}
use Rattle.record_heap.specs.Filling.{IsFilling, built_shape}
use Rattle.record_heap.specs.Standing.{HeapStands, slot_shape}
use Rattle.key_index.specs.declared.entry.PrimeEntry.{PrimeEntry}
use Rattle.key_index.specs.declared.entry.AltEntry.{AltEntry}
use Rattle.key_index.specs.declared.alt_index.AltIndex.{AltIndex}
use Rattle.key_index.specs.Entries.{has_prime}
use Rattle.key_index.specs.Stored.{alt_bytes, IsAltEntry}
use Rattle.key_index.specs.Standing.{PrimeStands}
use Rattle.open_file.specs.InOrder.{prime_entries, alt_entries}
use Rattle.open_file.specs.Fields.{file_schema, heap_of, prime_index_of}
use Rattle.open_file.specs.Lent.{LendsToChange}
use Rattle.open_file.specs.Stands.{Stands}
use Rattle.open_file.specs.declared.open_file.OpenFile.{OpenFile}
use Rattle.file_building.specs.declared.copy_fault.CopyFault.{CopyFault}
use Rattle.file_building.specs.declared.new_places.NewPlaces.{NewPlaces}
use Rattle.file_building.specs.declared.records_mover.MovedRecords.{MovedRecords}
use Rattle.file_building.specs.declared.records_mover.RecordsMover.{RecordsMover}
use Rattle.file_building.specs.declared.walk.TreeWalk.{TreeWalk}
use Rattle.file_building.specs.Steps.{RanOutOfPages}
use Rattle.file_building.specs.CopyFault.{IsCopyAnswer}
use Rattle.file_building.specs.CopiedRows.{WhereBothHonest, IsWritingCause}
use Rattle.file_building.specs.NewPlaces.{new_place, HasNewPlace}
use Rattle.file_building.specs.Walk.{HasWalked, walk_tree}

-- the heap and the prime index of the file stand for these records and entries
pub record RecordsStand (source : OpenFile) (live : PageMap) (slots : Slots) (primes : List PrimeEntry)
    : Type 0 where
  pub heap_own : List ℕ
  pub heap : HeapStands (heap_of source) live slots heap_own
  pub prime_own : List ℕ
  pub prime : PrimeStands (prime_index_of source) live primes prime_own

-- the first entry of the prime index that has the entry's prime value leads to a record
pub record LeadsToRecord (slots : Slots) (primes : List PrimeEntry) (entry : AltEntry) : Type 0 where
  pub at : PrimeEntry
  pub found : find (has_prime entry.prime.items) primes ≡ Some at
  pub bytes : List ℕ
  pub here : slots at.place ≡ Some bytes

-- it does, and it is known where that record lies now
pub record IsMovedEntry (primes : List PrimeEntry) (places : NewPlaces) (entry : AltEntry) : Type 0 where
  pub at : PrimeEntry
  pub found : find (has_prime entry.prime.items) primes ≡ Some at
  pub known : HasNewPlace places at.place

-- the walk over an index of an alternate key is in front of these entries
pub record EntriesAhead (index : AltIndex) (walk : TreeWalk) (live : PageMap) (rest : List AltEntry)
    : Type 0 where
  pub each : Each (IsAltEntry index.width index.prime) rest
  pub given : List (List ℕ)
  pub own : List ℕ
  pub walked : HasWalked walk live given (map alt_bytes rest) own

-- what was at a place is at its new one
pub record IsMoved (slots now : Slots) (place to : Place) : Type 0 where
  pub bytes : List ℕ
  pub was : slots place ≡ Some bytes
  pub is : now to ≡ Some bytes

-- one of the entries leads to a place whose record is here now
pub record CameFrom (primes : List PrimeEntry) (places : NewPlaces) (to : Place) : Type 0 where
  pub entry : PrimeEntry
  pub one : IsOneOf primes entry
  pub here : new_place places entry.place ≡ to

-- each record whose new place is known is there, and the new heap has no other
pub record AreMoved (slots now : Slots) (primes : List PrimeEntry) (places : NewPlaces) : Type 0 where
  pub moved : (p : Place) → HasNewPlace places p → IsMoved slots now p (new_place places p)
  pub from : (p : Place) → IsSome (now p) → CameFrom primes places p

-- records were moved into a heap that is being built, in pages that were not in use
pub record HasMovedRecords (slots : Slots) (primes : List PrimeEntry) (mover : RecordsMover)
    (start pages : PageMap) : Type 0 where
  pub now : Slots
  pub own : List ℕ
  pub order : List Place
  pub filling : IsFilling mover.heap pages now own order
  pub changes : ChangesPages start pages [] own
  pub moved : AreMoved slots now primes mover.places

-- the records of the first entries were moved, and so many entries are left
pub record HasMovedEntries (index : AltIndex) (walk : TreeWalk) (mover : RecordsMover)
    (live start pages : PageMap) (slots : Slots) (primes : List PrimeEntry) (entries : List AltEntry)
    (left : ℕ) : Type 0 where
  pub done : List AltEntry
  pub rest : List AltEntry
  pub all : done ++ rest ≡ entries
  pub ahead : EntriesAhead index walk live rest
  pub leads : Each (LeadsToRecord slots primes) rest
  pub holds : HasMovedRecords slots primes mover start pages
  pub known : Each (IsMovedEntry primes mover.places) done
  pub many : length rest ≡ left

-- the records of all entries were moved, into a heap that stands
pub record HasMovedAll (shape : SlotShape) (slots : Slots) (primes : List PrimeEntry) (entries : List AltEntry)
    (start pages : PageMap) (records : MovedRecords) : Type 0 where
  pub now : Slots
  pub own : List ℕ
  pub stands : HeapStands records.heap pages now own
  pub shape_is : slot_shape records.heap ≡ shape
  pub changes : ChangesPages start pages [] own
  pub moved : AreMoved slots now primes records.places
  pub known : Each (IsMovedEntry primes records.places) entries

-- the mover is for the records of the source
pub record IsMover (source : OpenFile) (mover : RecordsMover) : Type 0 where
  pub slots_are : built_shape mover.heap ≡ slot_shape (heap_of source)
  pub room_is : mover.places.room ≡ room (slot_shape (heap_of source))

-- and the walk is over the index
pub record IsMoving (source : OpenFile) (index : AltIndex) (walk : TreeWalk) (mover : RecordsMover)
    : Type 0 where
  pub tree_is : walk_tree walk ≡ index.tree
  pub is_mover : IsMover source mover

-- it is for slots of this shape, has no records and no pages, and stands so in all pages
pub record IsNewMover (shape : SlotShape) (mover : RecordsMover) : Type 0 where
  pub slots_are : built_shape mover.heap ≡ shape
  pub room_is : mover.places.room ≡ room shape
  pub begun : (pages : PageMap) (slots : Slots) (primes : List PrimeEntry)
      → HasMovedRecords slots primes mover pages pages

-- what was known stays known
abbrev pub KeepsKnown : NewPlaces → NewPlaces → Type 0
KeepsKnown old new = (p : Place) → HasNewPlace old p → HasNewPlace new p

-- a call that finds the place of the record to which the next entry leads
pub record FindsNextPlace {S : Type 0} (shown : ShownPages S) (source : OpenFile) (index : AltIndex)
    (before after : S) (old new : TreeWalk) (result : Result Place Fault) : Type 0 where
  pub found : IsTrue (shown.state after).is_honest → (slots : Slots) (primes : List PrimeEntry)
      → RecordsStand source (shown.state before).live slots primes → (next : AltEntry) (rest : List AltEntry)
      → EntriesAhead index old (shown.state before).live (next ∷ rest)
      → (leads : LeadsToRecord slots primes next)
      → IsAnswer result (λ place. (place ≡ leads.at.place)
      × EntriesAhead index new (shown.state before).live rest)
  pub tree_is : walk_tree new ≡ walk_tree old
  pub cause : IfErr result (IsCaused (shown.HasFailed before after) ⊥)
  pub reads : shown.Reads before after

-- the records moved so far, and one more
pub record HasMovedTo (slots : Slots) (primes : List PrimeEntry) (old new : RecordsMover)
    (start pages : PageMap) (place : Place) : Type 0 where
  pub holds : HasMovedRecords slots primes new start pages
  pub keeps : KeepsKnown old.places new.places
  pub known : HasNewPlace new.places place

-- pages may be changed, and a slot of the new heap takes these stamps and this record
pub record CanMove {S : Type 0} (shown : ShownPages S) (mover : RecordsMover) (stamps bytes : List ℕ)
    (pages : S) : Type 0 where
  pub target : LendsToChange shown pages
  pub fits : FitsSlot (built_shape mover.heap) stamps bytes

-- the mover is for slots as before
pub record KeepsMover (old new : RecordsMover) : Type 0 where
  pub slots_are : built_shape new.heap ≡ built_shape old.heap
  pub room_is : new.places.room ≡ old.places.room

-- the record of an entry's place, which was not moved yet, has these bytes
pub record IsToMove (slots : Slots) (primes : List PrimeEntry) (mover : RecordsMover) (place : Place)
    (bytes : List ℕ) : Type 0 where
  pub entry : PrimeEntry
  pub one : IsOneOf primes entry
  pub place_is : place ≡ entry.place
  pub within : place.slot < mover.places.room
  pub here : slots place ≡ Some bytes
  pub unknown : (new_place mover.places place).page ≡ 0

-- a call that puts such a record behind the others
pub record MovesRecord {S : Type 0} (shown : ShownPages S) (before after : S) (old new : RecordsMover)
    (place : Place) (bytes : List ℕ) (result : Result Unit Fault) : Type 0 where
  pub moved : IsTrue (shown.state after).is_honest → IsTrue (shown.state before).is_sound
      → (slots : Slots) (primes : List PrimeEntry) (start : PageMap)
      → HasMovedRecords slots primes old start (shown.state before).live → IsToMove slots primes old place bytes
      → IsAnswer result (λ done. HasMovedTo slots primes old new start (shown.state after).live place
      × IsTrue (shown.state after).is_sound)
  pub same : KeepsMover old new

-- a call that ends the heap
pub record FinishesMove {S : Type 0} (shown : ShownPages S) (before after : S) (mover : RecordsMover)
    (result : Result MovedRecords Fault) : Type 0 where
  pub finished : IsTrue (shown.state after).is_honest → IsTrue (shown.state before).is_sound
      → (slots : Slots) (primes : List PrimeEntry) (entries : List AltEntry) (start : PageMap)
      → HasMovedRecords slots primes mover start (shown.state before).live
      → Each (IsMovedEntry primes mover.places) entries
      → IsAnswer result (λ records. HasMovedAll (built_shape mover.heap) slots primes entries start
      (shown.state after).live records × IsTrue (shown.state after).is_sound)

-- the slot has as many bytes as those of the source, and the mover is for them
pub record CanPutRecord {S : Type 0} (shown : ShownPages S) (source : OpenFile) (mover : RecordsMover)
    (slot : List ℕ) (before : S) : Type 0 where
  pub target : LendsToChange shown before
  pub is_mover : IsMover source mover
  pub least : (slot_shape (heap_of source)).stamps + (slot_shape (heap_of source)).least ≤ length slot
  pub greatest : length slot ≤ (slot_shape (heap_of source)).stamps + (slot_shape (heap_of source)).greatest

-- the same call, told as one of a copy
pub record PutsMovedRecord {S : Type 0} (shown : ShownPages S) (before after : S) (old new : RecordsMover)
    (place : Place) (slot : List ℕ) (result : Result Unit CopyFault) : Type 0 where
  pub put : IsTrue (shown.state after).is_honest → IsTrue (shown.state before).is_sound
      → (slots : Slots) (primes : List PrimeEntry) (start : PageMap)
      → HasMovedRecords slots primes old start (shown.state before).live → IsToMove slots primes old place slot
      → IsCopyAnswer result (λ done. HasMovedTo slots primes old new start (shown.state after).live place
      × IsTrue (shown.state after).is_sound)
  pub same : KeepsMover old new
  pub cause : IfErr result (IsWritingCause (shown.HasFailed before after) (RanOutOfPages shown before after))
  pub step : shown.Writes before after

-- pages of the source may be read and those of the copy changed, and the mover is for its records
pub record CanMoveFrom {S T : Type 0} (from : ShownPages S) (to : ShownPages T) (source : OpenFile)
    (mover : RecordsMover) (old : S) (before : T) : Type 0 where
  pub ready : from.IsReady old
  pub target : LendsToChange to before
  pub is_mover : IsMover source mover

-- a call that moves the record of a place, where that was not done before
pub record MovesFrom {S T : Type 0} (from : ShownPages S) (to : ShownPages T) (source : OpenFile)
    (place : Place) (mover mover_now : RecordsMover) (old new : S) (before after : T)
    (result : Result Unit CopyFault) : Type 0 where
  pub moved : WhereBothHonest from to new before after ((slots : Slots) (primes : List PrimeEntry)
      (start : PageMap) → RecordsStand source (from.state old).live slots primes → (entry : AltEntry)
      → (leads : LeadsToRecord slots primes entry) → place ≡ leads.at.place
      → HasMovedRecords slots primes mover start (to.state before).live
      → IsCopyAnswer result (λ done. HasMovedTo slots primes mover mover_now start (to.state after).live place
      × IsTrue (to.state after).is_sound))
  pub is_mover : IsMover source mover_now

-- so, and the walk is over the index
pub record CanMoveNext {S T : Type 0} (from : ShownPages S) (to : ShownPages T) (source : OpenFile)
    (index : AltIndex) (walk : TreeWalk) (mover : RecordsMover) (old : S) (before : T) : Type 0 where
  pub ready : from.IsReady old
  pub target : LendsToChange to before
  pub fits : IsMoving source index walk mover

-- a call that moves the record to which the next entry leads
pub record MovesNext {S T : Type 0} (from : ShownPages S) (to : ShownPages T) (source : OpenFile)
    (index : AltIndex) (walk walk_now : TreeWalk) (mover mover_now : RecordsMover) (old new : S)
    (before after : T) (result : Result Unit CopyFault) : Type 0 where
  pub moved : WhereBothHonest from to new before after ((slots : Slots) (primes : List PrimeEntry)
      (entries : List AltEntry) (start : PageMap) (left : ℕ)
      → RecordsStand source (from.state old).live slots primes
      → HasMovedEntries index walk mover (from.state old).live start (to.state before).live slots primes
      entries (suc left)
      → IsCopyAnswer result (λ done. HasMovedEntries index walk_now mover_now (from.state old).live start
      (to.state after).live slots primes entries left × IsTrue (to.state after).is_sound))
  pub fits : IsMoving source index walk_now mover_now

-- a call that looks that no entry is left, and ends the heap
pub record EndsMoving {S T : Type 0} (from : ShownPages S) (to : ShownPages T) (walk : TreeWalk)
    (mover : RecordsMover) (old new : S) (before after : T) (result : Result MovedRecords CopyFault)
    : Type 0 where
  pub ended : WhereBothHonest from to new before after ((index : AltIndex) (slots : Slots)
      (primes : List PrimeEntry) (entries : List AltEntry) (start : PageMap)
      → HasMovedEntries index walk mover (from.state old).live start (to.state before).live slots primes
      entries 0
      → IsCopyAnswer result (λ records. HasMovedAll (built_shape mover.heap) slots primes entries start
      (to.state after).live records × IsTrue (to.state after).is_sound))

-- a call that moves all records of a file, in the order of alternate key k
pub record MovesRecords {S T : Type 0} (from : ShownPages S) (to : ShownPages T) (source : OpenFile)
    (k : ℕ) (old new : S) (before after : T) (result : Result MovedRecords CopyFault) : Type 0 where
  pub moved : WhereBothHonest from to new before after ((file : File)
      (stands : Stands source (from.state old).live file)
      → IsCopyAnswer result (λ records. HasMovedAll (slot_shape (heap_of source)) stands.slots
      (prime_entries (file_schema source) stands.places file.rows) (alt_entries (file_schema source) k file.rows)
      (to.state before).live (to.state after).live records × IsTrue (to.state after).is_sound))
