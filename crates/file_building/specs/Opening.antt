-- The file that has parts which were built.
use Rattle.std.specs.Prelude.{◌≡◌, ◌≤◌, ◌+◌, ◌<◌, ◌^◌, ℕ, List, drop, None, IsSome, IsTrue, IsFalse, Result, IfOk, IfErr}
use Rattle.io_state.specs.declared.fault.Fault.{Fault}
use Rattle.io_state.specs.declared.fault.Fault.TheVariants.{Damage}
use Rattle.record_layout.specs.Schema.{Schema, key_at}
use Rattle.indexed_file.specs.File.{Row}
use Rattle.indexed_file.specs.Sound.{is_file}
use Rattle.pages.specs.PageMap.{PageMap}
use Rattle.pages.specs.Answer.{IsAnswer}
use Rattle.record_heap.specs.declared.shape.SlotShape.{SlotShape}
use Rattle.record_heap.specs.declared.heap.Heap.{Heap}
use Rattle.record_heap.specs.Standing.{slot_shape, first_heap_page, first_free_slot}
use Rattle.open_file.specs.declared.first_page.Header.{Header}
use Rattle.bplus_tree.specs.Fields.{tree_count}
use Rattle.key_index.specs.declared.prime_index.PrimeIndex.{PrimeIndex}
use Rattle.key_index.specs.declared.alt_index.AltIndex.{AltIndex}
use Rattle.open_file.specs.Headers.{AreTrees}
use Rattle.open_file.specs.Stands.{Stands, IsShaped}
use Rattle.open_file.specs.Stored.{stamps_length}
use Rattle.open_file.specs.Fields.{file_schema, next_stamp_of, path_of, has_broken}
use Rattle.open_file.specs.declared.open_file.OpenFile.{OpenFile}
use Rattle.file_building.specs.Rows.{RowsStandBuilt}
use Rattle.file_building.specs.Alternates.{AreAllIndexesFor}

-- a slot has room for the stamps and the longest record
pub record IsShapeFor (schema : Schema) (shape : SlotShape) : Type 0 where
  pub stamps : shape.stamps ≡ stamps_length (drop 1 schema.keys)
  pub least : shape.least ≡ schema.least
  pub greatest : shape.greatest ≡ schema.greatest

-- the file is one of this schema with this next stamp; it is not broken, and nothing was read of it
pub record IsOpenedWith (schema : Schema) (stamp : ℕ) (opened : OpenFile) : Type 0 where
  pub schema_is : file_schema opened ≡ schema
  pub stamp_is : next_stamp_of opened ≡ stamp
  pub shaped : IsShaped opened
  pub unbroken : IsFalse (has_broken opened)
  pub no_path : path_of opened ≡ None

-- each page in use has a number that a header can tell, and is not the header's
pub record StandBehindHeader (pages : PageMap) : Type 0 where
  pub within : (n : ℕ) → IsSome (pages n) → n + 1 < 2 ^ 32
  pub no_header : pages 0 ≡ None

-- the parts are made for a schema
pub record ArePartsFor (schema : Schema) (heap : Heap) (prime : PrimeIndex)
    (alternates : List AltIndex) : Type 0 where
  pub slots_are : IsShapeFor schema (slot_shape heap)
  pub width_is : prime.width ≡ (key_at schema 0).length
  pub indexes : AreAllIndexesFor schema alternates

-- a call that opens the file of parts: where they stand for the rows of a file, it stands for that file
pub record OpensBuilt (schema : Schema) (stamp : ℕ) (heap : Heap) (prime : PrimeIndex)
    (alternates : List AltIndex) (result : Result OpenFile Fault) : Type 0 where
  pub stands : (pages : PageMap) (rows : List Row)
      → IsTrue (is_file schema (record { rows = rows; next_stamp = stamp })) → stamp ≤ 2 ^ 63
      → RowsStandBuilt schema heap prime alternates pages rows
      → ArePartsFor schema heap prime alternates → StandBehindHeader pages
      → IsAnswer result (λ opened. Stands opened pages (record { rows = rows; next_stamp = stamp }))
  pub made : IfOk result (IsOpenedWith schema stamp)
  pub damage : IfErr result (λ fault. fault ≡ Damage)

-- the header tells of these parts, of the schema and of the next stamp
pub record IsHeaderOfParts (schema : Schema) (stamp : ℕ) (heap : Heap) (prime : PrimeIndex)
    (alternates : List AltIndex) (header : Header) : Type 0 where
  pub schema_is : header.schema ≡ schema
  pub stamp_is : header.next_stamp ≡ stamp
  pub pages_are : header.pages ≡ 4294967295
  pub first_free_is : header.first_free ≡ 0
  pub free_is : header.free ≡ 0
  pub first_heap_is : header.first_heap ≡ first_heap_page heap
  pub slot_page_is : header.free_slot_page ≡ (first_free_slot heap).page
  pub slot_is : header.free_slot ≡ (first_free_slot heap).slot
  pub records_are : header.records ≡ tree_count prime.tree
  pub trees_are : AreTrees prime alternates header.trees.items
