-- The file that has parts which were built.
use Rattle.std.specs.Prelude.{◌≡◌, List, Result, IfOk, IfErr}
use Rattle.io_state.specs.declared.fault.Fault.{Fault}
use Rattle.io_state.specs.declared.fault.Fault.TheVariants.{Damage}
use Rattle.indexed_file.specs.File.{File}
use Rattle.pages.specs.PageMap.{PageMap}
use Rattle.pages.specs.Answer.{IsAnswer}
use Rattle.record_heap.specs.declared.heap.Heap.{Heap}
use Rattle.record_heap.specs.Standing.{slot_shape}
use Rattle.key_index.specs.declared.prime_index.PrimeIndex.{PrimeIndex}
use Rattle.key_index.specs.declared.alt_index.AltIndex.{AltIndex}
use Rattle.open_file.specs.Stands.{Stands}
use Rattle.open_file.specs.Fields.{file_schema, next_stamp_of, heap_of, prime_index_of, alternates_of}
use Rattle.open_file.specs.declared.open_file.OpenFile.{OpenFile}
use Rattle.file_building.specs.Opening.{IsOpenedWith, StandBehindHeader}
use Rattle.file_building.specs.Rows.{RowsStandBuilt}
use Rattle.file_building.specs.CopiedEntries.{AreAlikeIndexes}

-- the file has the schema and the next stamp of another; it is not broken, and nothing was read of it
abbrev pub IsOpenedLike : (source opened : OpenFile) → Type 0
IsOpenedLike source opened = IsOpenedWith (file_schema source) (next_stamp_of source) opened

-- the parts are like those of a file
pub record ArePartsLike (source : OpenFile) (heap : Heap) (prime : PrimeIndex)
    (alternates : List AltIndex) : Type 0 where
  pub slots_are : slot_shape heap ≡ slot_shape (heap_of source)
  pub width_is : prime.width ≡ (prime_index_of source).width
  pub alike : AreAlikeIndexes (alternates_of source) alternates

-- a call that opens the file of parts: where they stand for the rows of a file that another stands
-- for, it stands for that file
pub record OpensParts (source : OpenFile) (heap : Heap) (prime : PrimeIndex) (alternates : List AltIndex)
    (result : Result OpenFile Fault) : Type 0 where
  pub stands : (old pages : PageMap) (file : File) → Stands source old file
      → RowsStandBuilt (file_schema source) heap prime alternates pages file.rows
      → ArePartsLike source heap prime alternates → StandBehindHeader pages
      → IsAnswer result (λ opened. Stands opened pages file)
  pub made : IfOk result (IsOpenedLike source)
  pub damage : IfErr result (λ fault. fault ≡ Damage)
