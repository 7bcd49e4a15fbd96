-- A file that is being built from records whose prime values rise.
use Rattle.std.specs.Prelude.{◌≡◌, ◌≤◌, ◌+◌, ℕ, List, [], ◌∷◌, ◌++◌, length, None, Result, IfOk, IsTrue, ⊤}
use Rattle.io_state.specs.declared.fault.Fault.{Fault}
use Rattle.record_layout.specs.Schema.{Schema, IsSchema, prime_of}
use Rattle.indexed_file.specs.File.{empty_file}
use Rattle.pages.specs.PageMap.{PageMap}
use Rattle.pages.specs.Answer.{IsAnswer}
use Rattle.pages.specs.ShownPages.{ShownPages}
use Rattle.open_file.specs.Lent.{LendsToChange}
use Rattle.open_file.specs.Stands.{Stands}
use Rattle.file_building.specs.declared.file_builder.FileBuilder.{FileBuilder}
use Rattle.file_building.specs.declared.file_builder.Pushed.{Pushed}
use Rattle.file_building.specs.declared.file_builder.Pushed.TheVariants.{Done, OutOfOrder}
use Rattle.file_building.specs.declared.file_builder.Built.{Built}
use Rattle.file_building.specs.declared.file_builder.Built.TheVariants.{File as AFile, Clash}
use Rattle.file_building.specs.Written.{with_all_added, AreAccepted, RecordsRise, HaveLengths, rows_of}
use Rattle.file_building.specs.Rows.{HasRowsSoFar}
use Rattle.file_building.specs.Entries.{AreKeptFronts}
use Rattle.file_building.specs.Opening.{IsOpenedWith}
use Rattle.file_building.specs.Steps.{WhereBuiltHonestly, KeepsWhileBuilding}

-- the schema that it is built for
abbrev pub builder_schema : FileBuilder → Schema
builder_schema builder = builder.schema

-- the prime value of the last record, and no bytes where there is none
abbrev pub last_prime : Schema → List (List ℕ) → List ℕ
last_prime schema [] = []
last_prime schema (bytes ∷ []) = prime_of schema bytes
last_prime schema (bytes ∷ other ∷ records) = last_prime schema (other ∷ records)

-- these records were put into it, in this order: their rows are in the heap and the prime index
pub record IsBuildingFile (builder : FileBuilder) (pages : PageMap) (records : List (List ℕ)) : Type 0 where
  pub is_schema : IsSchema builder.schema
  pub rising : RecordsRise builder.schema records
  pub lengths : HaveLengths builder.schema records
  pub rows : HasRowsSoFar builder.schema builder.rows pages (rows_of builder.schema records)
  pub fronts : AreKeptFronts builder.schema records builder.fronts
  pub last : builder.last.items ≡ last_prime builder.schema records
  pub count : builder.count ≡ length records

-- it has no records and no pages, and stands so in pages of which none is in use
pub record IsNewBuilder (schema : Schema) (builder : FileBuilder) : Type 0 where
  pub schema_is : builder.schema ≡ schema
  pub begun : (pages : PageMap) → ((n : ℕ) → pages n ≡ None) → IsBuildingFile builder pages []

-- pages may be changed, and the record has from the least to the greatest length
pub record CanPushRecord {S : Type 0} (shown : ShownPages S) (builder : FileBuilder) (bytes : List ℕ)
    (before : S) : Type 0 where
  pub target : LendsToChange shown before
  pub least : builder.schema.least ≤ length bytes
  pub greatest : length bytes ≤ builder.schema.greatest

-- the record stands behind the others; or its prime value does not come after theirs, and nothing was done
abbrev pub EndsPush : FileBuilder → List (List ℕ) → List ℕ → (after : PageMap) → Pushed → Type 0
EndsPush new records bytes after Done = IsBuildingFile new after (records ++ bytes ∷ [])
EndsPush new records bytes after OutOfOrder = IsBuildingFile new after records
    × (RecordsRise new.schema (records ++ bytes ∷ []) → ⊥)

-- a call that puts a record behind the others
pub record TakesRecordBehind {S : Type 0} (shown : ShownPages S) (before after : S) (old new : FileBuilder)
    (bytes : List ℕ) (result : Result Pushed Fault) : Type 0 where
  pub pushed : WhereBuiltHonestly shown before after ((records : List (List ℕ))
      → IsBuildingFile old (shown.state before).live records
      → IsAnswer result (λ pushed. EndsPush new records bytes (shown.state after).live pushed
      × IsTrue (shown.state after).is_sound))
  pub schema_is : new.schema ≡ old.schema
  pub keeps : KeepsWhileBuilding shown before after result

-- a call that puts a record of a greater prime value behind the others
pub record TakesRisingRecord {S : Type 0} (shown : ShownPages S) (before after : S) (old new : FileBuilder)
    (bytes : List ℕ) (result : Result Unit Fault) : Type 0 where
  pub put : WhereBuiltHonestly shown before after ((records : List (List ℕ))
      → IsBuildingFile old (shown.state before).live records
      → RecordsRise old.schema (records ++ bytes ∷ [])
      → IsAnswer result (λ done. IsBuildingFile new (shown.state after).live (records ++ bytes ∷ [])
      × IsTrue (shown.state after).is_sound))
  pub schema_is : new.schema ≡ old.schema
  pub keeps : KeepsWhileBuilding shown before after result

-- The records were all accepted, one after another, and the file that was built is the one that this
-- makes of a file without rows; or one of them would not have been accepted.
abbrev pub EndsBuilding : Schema → List (List ℕ) → (after : PageMap) → (is_sound : Type 0) → Built → Type 0
EndsBuilding schema records after is_sound (AFile opened) = AreAccepted schema records empty_file
    × Stands opened after (with_all_added schema records empty_file) × is_sound
EndsBuilding schema records after is_sound Clash = AreAccepted schema records empty_file → ⊥

-- the file that was built is one of this schema
abbrev pub IsBuiltFor : Schema → ℕ → Built → Type 0
IsBuiltFor schema stamp (AFile opened) = IsOpenedWith schema stamp opened
IsBuiltFor schema stamp Clash = ⊤

-- A call that ends a file, where page 0, the header's, was not given out.
pub record FinishesFile {S : Type 0} (shown : ShownPages S) (before after : S) (builder : FileBuilder)
    (result : Result Built Fault) : Type 0 where
  pub finished : WhereBuiltHonestly shown before after ((records : List (List ℕ))
      → IsBuildingFile builder (shown.state before).live records → (shown.state after).live 0 ≡ None
      → IsAnswer result (EndsBuilding builder.schema records (shown.state after).live
      (IsTrue (shown.state after).is_sound)))
  pub made : IfOk result (IsBuiltFor builder.schema (builder.count + 1))
  pub keeps : KeepsWhileBuilding shown before after result
