-- The record of a prime value, as it is before a change.
use Rattle.std.specs.Prelude.{◌≡◌, ℕ, ◌+◌, ◌≤◌, List, ◌++◌, length, drop, find, slice_range, Option, None}
use Rattle.std.specs.Prelude.{Some, option_map, Result}
use Rattle.io_state.specs.declared.fault.Fault.{Fault}
use Rattle.record_layout.specs.Schema.{Schema}
use Rattle.indexed_file.specs.File.{Row, File}
use Rattle.indexed_file.specs.Change.{row_of, new_row}
use Rattle.key_index.specs.declared.entry.PrimeEntry.{PrimeEntry}
use Rattle.key_index.specs.Entries.{has_prime}
use Rattle.record_heap.specs.declared.shape.Place.{Place}
use Rattle.record_heap.specs.Chain.{Slots}
use Rattle.record_heap.specs.Standing.{slot_shape}
use Rattle.pages.specs.PageMap.{PageMap}
use Rattle.pages.specs.ShownPages.{ShownPages}
use Rattle.open_file.specs.Fields.{alternates_of, heap_of, next_stamp_of, file_schema}
use Rattle.open_file.specs.InOrder.{prime_entries}
use Rattle.open_file.specs.Stands.{Stands, IsShaped}
use Rattle.open_file.specs.Stored.{stored, stamps_length}
use Rattle.open_file.specs.declared.open_file.OpenFile.{OpenFile}
use Rattle.file_changes.specs.Steps.{AnswersFor}
use Rattle.file_changes.specs.declared.old_record.OldRecord.{OldRecord}

-- a row of these bytes and stamps
abbrev pub row_with : List ℕ → List ℕ → Row
row_with bytes stamps = record { bytes = bytes; stamps = stamps }

-- the row of a prime value lies at this place, to which the prime index leads
pub record IsOldAt (schema : Schema) (slots : Slots) (primes : List PrimeEntry) (file : File)
    (prime : List ℕ) (place : Place) (row : Row) : Type 0 where
  pub is_row : row_of schema prime file ≡ Some row
  pub leads : option_map (λ (e : PrimeEntry). e.place) (find (has_prime prime) primes) ≡ Some place
  pub here : slots place ≡ Some (stored schema row)

-- this is that row, whose bytes stand behind its stamps in the slot
pub record IsOld (schema : Schema) (slots : Slots) (primes : List PrimeEntry) (file : File)
    (prime slot : List ℕ) (old : OldRecord) : Type 0 where
  pub row : Row
  pub at : IsOldAt schema slots primes file prime old.place row
  pub bytes : slice_range slot (stamps_length (drop 1 schema.keys)) old.end ≡ row.bytes
  pub stamps : old.stamps.items ≡ row.stamps

-- it was found, where there is one
abbrev pub HasFound : Schema → Slots → List PrimeEntry → File → List ℕ → List ℕ → Option OldRecord → Type 0
HasFound schema slots primes file prime slot None = row_of schema prime file ≡ None
HasFound schema slots primes file prime slot (Some old) = IsOld schema slots primes file prime slot old

-- of a file that the pages stand for
abbrev pub HasFoundIn : {opened : OpenFile} {pages : PageMap} {file : File} → Stands opened pages file
    → List ℕ → List ℕ → Option OldRecord → Type 0
HasFoundIn {opened} {pages} {file} stands prime slot =
    HasFound (file_schema opened) stands.slots (prime_entries (file_schema opened) stands.places file.rows)
    file prime slot

-- and the row of these bytes is the one that was found
abbrev pub IsFoundIn : {opened : OpenFile} {pages : PageMap} {file : File} → Stands opened pages file
    → List ℕ → OldRecord → List ℕ → Type 0
IsFoundIn {opened} {pages} {file} stands prime old bytes =
    IsOldAt (file_schema opened) stands.slots (prime_entries (file_schema opened) stands.places file.rows)
    file prime old.place (row_with bytes old.stamps.items)

-- how many bytes stamps and a record are at most
abbrev pub most_stored : OpenFile → ℕ
most_stored file = (slot_shape (heap_of file)).stamps + (slot_shape (heap_of file)).greatest

-- it is as long as a record, and has a stamp for each alternate key
pub record HasRecordLength (file : OpenFile) (old : OldRecord) : Type 0 where
  pub least : (slot_shape (heap_of file)).stamps + (slot_shape (heap_of file)).least ≤ old.end
  pub greatest : old.end ≤ most_stored file
  pub many : length old.stamps.items ≡ length (alternates_of file)

-- the answer is the record of a prime value in the slot, where there is one
abbrev pub AnswersFinding : {S : Type 0} → ShownPages S → OpenFile → (prime slot : List ℕ)
    → (before after : S) → Result (Option OldRecord) Fault → Type 0
AnswersFinding shown opened prime slot before after result =
    AnswersFor shown opened before after (λ file stands. HasFoundIn stands prime slot) result

-- the stamps of a record stand in the front of a slot
pub record HasStampsIn (file : OpenFile) (slot : List ℕ) : Type 0 where
  pub shaped : IsShaped file
  pub room : (slot_shape (heap_of file)).stamps ≤ length slot

-- the stamps of a new record, in front of it in its slot
pub record AreNewStamps (file : OpenFile) (stamps : List ℕ) : Type 0 where
  pub stored : (bytes : List ℕ) → stamps ++ bytes
      ≡ stored (file_schema file) (new_row (file_schema file) (next_stamp_of file) bytes)
  pub length : length stamps ≡ (slot_shape (heap_of file)).stamps
