-- Rows in a heap and a prime index that are being built side by side.
use Rattle.std.specs.Prelude.{◌≡◌, ℕ, ◌+◌, List, [], ◌∷◌, ◌++◌, length, None, Result, IsTrue, true, ⊤}
use Rattle.record_layout.specs.Schema.{Schema, prime_of}
use Rattle.std.specs.Ordering.{is_lt}
use Rattle.indexed_file.specs.File.{Row}
use Rattle.io_state.specs.Rank.{value_cmp}
use Rattle.io_state.specs.declared.fault.Fault.{Fault}
use Rattle.pages.specs.Each.{Each}
use Rattle.pages.specs.PageMap.{PageMap}
use Rattle.pages.specs.Answer.{IsAnswer}
use Rattle.pages.specs.ShownPages.{ShownPages}
use Rattle.pages.specs.Parted.{Parted}
use Rattle.record_heap.specs.declared.shape.SlotShape.{SlotShape}
use Rattle.record_heap.specs.declared.shape.Place.{Place}
use Rattle.record_heap.specs.declared.heap.Heap.{Heap}
use Rattle.record_heap.specs.Slot.{FitsSlot}
use Rattle.record_heap.specs.Chain.{Slots}
use Rattle.record_heap.specs.Filling.{IsFilling, built_shape}
use Rattle.record_heap.specs.Standing.{slot_shape}
use Rattle.key_index.specs.declared.prime_index.PrimeIndex.{PrimeIndex}
use Rattle.key_index.specs.declared.alt_index.AltIndex.{AltIndex}
use Rattle.tree_building.specs.IndexBuilding.{IsBuildingPrime}
use Rattle.open_file.specs.InOrder.{prime_entries, alt_entries}
use Rattle.open_file.specs.Stored.{stored}
use Rattle.open_file.specs.Stands.{IsPlaced}
use Rattle.open_file.specs.Parts.{Parts}
use Rattle.file_building.specs.declared.rows_builder.RowsBuilder.{RowsBuilder}
use Rattle.file_building.specs.declared.rows_builder.RowParts.{RowParts}

-- the shape of the heap's slots
abbrev pub slots_built : RowsBuilder → SlotShape
slots_built builder = built_shape builder.heap

-- the length of a value of the prime key
abbrev pub width_built : RowsBuilder → ℕ
width_built builder = builder.prime.width

-- these rows are in the heap, at places to which the entries of the prime index lead; each page in
-- use is one of the heap's or one of the index's, and none is both
pub record HasRowsSoFar (schema : Schema) (builder : RowsBuilder) (pages : PageMap)
    (rows : List Row) : Type 0 where
  pub places : List Place
  pub slots : Slots
  pub placed : IsPlaced schema slots places rows
  pub heap_own : List ℕ
  pub prime_own : List ℕ
  pub filling : IsFilling builder.heap pages slots heap_own places
  pub building : IsBuildingPrime builder.prime pages (prime_entries schema places rows) prime_own
  pub parted : Parted pages (heap_own ∷ prime_own ∷ [])

-- it has no rows and no pages, and stands so in pages of which none is in use
pub record IsNewRowsBuilder (shape : SlotShape) (width : ℕ) (builder : RowsBuilder) : Type 0 where
  pub slots_are : slots_built builder ≡ shape
  pub width_is : width_built builder ≡ width
  pub begun : (schema : Schema) (pages : PageMap) → ((n : ℕ) → pages n ≡ None)
      → HasRowsSoFar schema builder pages []

-- pages may be changed, the value is as long as those of the index, and a slot takes these stamps
-- and this record
pub record CanPutRowBehind {S : Type 0} (shown : ShownPages S) (builder : RowsBuilder)
    (of before behind : List ℕ) (pages : S) : Type 0 where
  pub ready : shown.IsReady pages
  pub «open» : shown.CanChange pages
  pub long : length of ≡ width_built builder
  pub fits : FitsSlot (slots_built builder) before behind

-- the builder is for slots and values as before
pub record KeepsRowShapes (old new : RowsBuilder) : Type 0 where
  pub slots_are : slots_built new ≡ slots_built old
  pub width_is : width_built new ≡ width_built old

-- a call that puts a row behind the others, by its value, its stamps and its record
pub record TakesRowBehind {S : Type 0} (shown : ShownPages S) (before after : S) (old new : RowsBuilder)
    (of stamps bytes : List ℕ) (result : Result Unit Fault) : Type 0 where
  pub pushed : IsTrue (shown.state after).is_honest → IsTrue (shown.state before).is_sound
      → (schema : Schema) (rows : List Row) (row : Row)
      → HasRowsSoFar schema old (shown.state before).live rows
      → prime_of schema row.bytes ≡ of → stored schema row ≡ stamps ++ bytes
      → IsAnswer result (λ done. HasRowsSoFar schema new (shown.state after).live (rows ++ row ∷ [])
      × IsTrue (shown.state after).is_sound)
  pub same : KeepsRowShapes old new

-- a heap, a prime index and the indexes of the first alternate keys stand for these rows
pub record RowsStandBuilt (schema : Schema) (heap : Heap) (prime : PrimeIndex) (alternates : List AltIndex)
    (pages : PageMap) (rows : List Row) : Type 0 where
  pub places : List Place
  pub slots : Slots
  pub placed : IsPlaced schema slots places rows
  pub parts : Parts heap prime alternates pages slots (prime_entries schema places rows)
      (λ j. alt_entries schema (j + 1) rows)

-- the prime value of each row comes before those of all behind it
abbrev pub RowsRise : Schema → List Row → Type 0
RowsRise schema [] = ⊤
RowsRise schema (row ∷ rows) = Each (λ other. is_lt (value_cmp (prime_of schema row.bytes)
    (prime_of schema other.bytes)) ≡ true) rows × RowsRise schema rows

-- a call that ends the heap and the index: they stand for rows whose prime values rise
pub record EndsRowsBuilt {S : Type 0} (shown : ShownPages S) (before after : S) (old : RowsBuilder)
    (result : Result RowParts Fault) : Type 0 where
  pub finished : IsTrue (shown.state after).is_honest → IsTrue (shown.state before).is_sound
      → (schema : Schema) (rows : List Row) → RowsRise schema rows
      → HasRowsSoFar schema old (shown.state before).live rows
      → IsAnswer result (λ parts.
      RowsStandBuilt schema parts.heap parts.prime [] (shown.state after).live rows
      × (slot_shape parts.heap ≡ slots_built old) × IsTrue (shown.state after).is_sound)
