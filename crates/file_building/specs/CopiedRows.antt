-- Rows that are copied, one after another.
use Rattle.std.specs.Prelude.{◌≡◌, ◌≤◌, ◌+◌, ℕ, suc, List, [], ◌∷◌, ◌++◌, length, take, map, None, Result, IsTrue}
use Rattle.std.specs.Prelude.{IfOk, IfErr}
use Rattle.record_layout.specs.Schema.{prime_of}
use Rattle.indexed_file.specs.File.{Row, File}
use Rattle.indexed_file.specs.Sound.{is_file}
use Rattle.io_state.specs.declared.fault.Fault.{Fault}
use Rattle.pages.specs.Each.{Each}
use Rattle.pages.specs.PageMap.{PageMap}
use Rattle.pages.specs.Answer.{IsAnswer}
use Rattle.pages.specs.ShownPages.{ShownPages}
use Rattle.pages.specs.Cause.{IsCaused}
use Rattle.record_heap.specs.declared.shape.Place.{Place}
use Rattle.record_heap.specs.Chain.{Slots}
use Rattle.record_heap.specs.Standing.{HeapStands, slot_shape}
use Rattle.key_index.specs.Stored.{prime_bytes, IsPrimeEntry}
use Rattle.open_file.specs.InOrder.{prime_entries}
use Rattle.open_file.specs.Stored.{AreAt, stored}
use Rattle.open_file.specs.Lent.{LendsToChange}
use Rattle.open_file.specs.Stands.{Stands}
use Rattle.open_file.specs.Fields.{file_schema, heap_of, prime_index_of}
use Rattle.open_file.specs.declared.open_file.OpenFile.{OpenFile}
use Rattle.file_building.specs.declared.copy_fault.CopyFault.{CopyFault}
use Rattle.file_building.specs.declared.walk.TreeWalk.{TreeWalk}
use Rattle.file_building.specs.declared.rows_builder.RowsBuilder.{RowsBuilder}
use Rattle.file_building.specs.declared.rows_builder.RowParts.{RowParts}
use Rattle.file_building.specs.declared.copy_fault.CopyFault.TheVariants.{Reading, Writing}
use Rattle.tree_building.specs.Fresh.{IsBuildCause}
use Rattle.file_building.specs.Steps.{RanOutOfPages}
use Rattle.file_building.specs.CopyFault.{IsCopyAnswer}
use Rattle.file_building.specs.Walk.{HasWalked, walk_tree}
use Rattle.file_building.specs.Rows.{HasRowsSoFar, RowsStandBuilt, KeepsRowShapes, slots_built, width_built}

-- these rows lie at places of the source's heap to which the walk over its prime index leads next
pub record RowsToCopy (source : OpenFile) (walk : TreeWalk) (live : PageMap) (rest : List Row)
    : Type 0 where
  pub slots : Slots
  pub heap_own : List ℕ
  pub heap : HeapStands (heap_of source) live slots heap_own
  pub places : List Place
  pub rows_at : AreAt (file_schema source) slots places rest
  pub each : Each (IsPrimeEntry (prime_index_of source).width)
      (prime_entries (file_schema source) places rest)
  pub given : List (List ℕ)
  pub own : List ℕ
  pub walked : HasWalked walk live given
      (map prime_bytes (prime_entries (file_schema source) places rest)) own

-- the first rows of a file are copied, and so many are left
pub record HasCopiedRows (source : OpenFile) (walk : TreeWalk) (builder : RowsBuilder)
    (live pages : PageMap) (rows : List Row) (left : ℕ) : Type 0 where
  pub done : List Row
  pub rest : List Row
  pub all : done ++ rest ≡ rows
  pub ahead : RowsToCopy source walk live rest
  pub holds : HasRowsSoFar (file_schema source) builder pages done
  pub many : length rest ≡ left

-- pages may be read, the walk is over the source's prime index, and the builder is for its rows
pub record IsCopying (source : OpenFile) (walk : TreeWalk) (builder : RowsBuilder) : Type 0 where
  pub tree_is : walk_tree walk ≡ (prime_index_of source).tree
  pub slots_are : slots_built builder ≡ slot_shape (heap_of source)
  pub width_is : width_built builder ≡ (prime_index_of source).width

-- the entry leads to the row by its value, and the front of the area is what a slot has of the row
pub record HasReadRow (source : OpenFile) (row : Row) (entry area : List ℕ) (n : ℕ) : Type 0 where
  pub value : prime_of (file_schema source) row.bytes ≡ take (prime_index_of source).width entry
  pub stored_is : stored (file_schema source) row ≡ take n area

-- the entry is as long as those of the prime index, and the front of the area as the slots of the heap
-- have it
pub record FitsArea (source : OpenFile) (entry : List ℕ) (n : ℕ) : Type 0 where
  pub entry_long : length entry ≡ (prime_index_of source).width + 6
  pub least : (slot_shape (heap_of source)).stamps + (slot_shape (heap_of source)).least ≤ n
  pub greatest : n ≤ (slot_shape (heap_of source)).stamps + (slot_shape (heap_of source)).greatest

-- a call that reads the next row: its prime entry, and its stamps and record to the front of the area
pub record ReadsNextRow {S : Type 0} (shown : ShownPages S) (source : OpenFile) (before after : S)
    (old new : TreeWalk) (entry area : List ℕ) (result : Result ℕ Fault) : Type 0 where
  pub read : IsTrue (shown.state after).is_honest → (row : Row) (rest : List Row)
      → RowsToCopy source old (shown.state before).live (row ∷ rest)
      → IsAnswer result (λ n. HasReadRow source row entry area n
      × RowsToCopy source new (shown.state before).live rest)
  pub tree_is : walk_tree new ≡ walk_tree old
  pub fits : IfOk result (FitsArea source entry)
  pub cause : IfErr result (IsCaused (shown.HasFailed before after) ⊥)
  pub reads : shown.Reads before after

-- pages of the source may be read and those of the copy changed, and walk and builder are for it
pub record CanCopyRow {S T : Type 0} (from : ShownPages S) (to : ShownPages T) (source : OpenFile)
    (walk : TreeWalk) (builder : RowsBuilder) (old : S) (before : T) : Type 0 where
  pub ready : from.IsReady old
  pub target : LendsToChange to before
  pub fits : IsCopying source walk builder

-- pages may be changed, the builder is for the source's rows, and these are an entry of its prime index
-- and what a slot of its heap has
pub record CanPutRow {S : Type 0} (shown : ShownPages S) (source : OpenFile) (builder : RowsBuilder)
    (entry slot : List ℕ) (before : S) : Type 0 where
  pub target : LendsToChange shown before
  pub slots_are : slots_built builder ≡ slot_shape (heap_of source)
  pub width_is : width_built builder ≡ (prime_index_of source).width
  pub entry_long : length entry ≡ (prime_index_of source).width + 6
  pub least : (slot_shape (heap_of source)).stamps + (slot_shape (heap_of source)).least ≤ length slot
  pub greatest : length slot ≤ (slot_shape (heap_of source)).stamps + (slot_shape (heap_of source)).greatest

-- why a call that only writes gave up
abbrev pub IsWritingCause : (failed ran_out : Type 0) → CopyFault → Type 0
IsWritingCause failed ran_out (Reading fault) = ⊥
IsWritingCause failed ran_out (Writing fault) = IsBuildCause failed ran_out fault

-- a call that puts a row behind those before it
pub record PutsReadRow {S : Type 0} (shown : ShownPages S) (source : OpenFile) (before after : S)
    (old new : RowsBuilder) (entry slot : List ℕ) (result : Result Unit CopyFault) : Type 0 where
  pub put : IsTrue (shown.state after).is_honest → IsTrue (shown.state before).is_sound
      → (rows : List Row) (row : Row)
      → HasRowsSoFar (file_schema source) old (shown.state before).live rows
      → prime_of (file_schema source) row.bytes ≡ take (prime_index_of source).width entry
      → stored (file_schema source) row ≡ slot
      → IsCopyAnswer result (λ done. HasRowsSoFar (file_schema source) new (shown.state after).live
      (rows ++ row ∷ []) × IsTrue (shown.state after).is_sound)
  pub same : KeepsRowShapes old new
  pub cause : IfErr result (IsWritingCause (shown.HasFailed before after) (RanOutOfPages shown before after))
  pub step : shown.Writes before after

-- what is so where both files told the truth, and the pages of the copy were sound
abbrev pub WhereBothHonest : {S T : Type 0} → ShownPages S → ShownPages T → (new : S) → (before after : T)
    → Type 0 → Type 0
WhereBothHonest from to new before after fact = IsTrue (from.state new).is_honest
    → IsTrue (to.state after).is_honest → IsTrue (to.state before).is_sound → fact

-- a call that copies the next row
pub record CopiesRow {S T : Type 0} (from : ShownPages S) (to : ShownPages T) (source : OpenFile)
    (walk walk_now : TreeWalk) (builder builder_now : RowsBuilder) (old new : S) (before after : T)
    (result : Result Unit CopyFault) : Type 0 where
  pub copied : WhereBothHonest from to new before after ((rows : List Row) (left : ℕ)
      → HasCopiedRows source walk builder (from.state old).live (to.state before).live rows (suc left)
      → IsCopyAnswer result (λ done. HasCopiedRows source walk_now builder_now (from.state old).live
      (to.state after).live rows left × IsTrue (to.state after).is_sound))
  pub fits : IsCopying source walk_now builder_now

-- a call that looks that no row is left, and ends the heap and the index
pub record EndsRows {S T : Type 0} (from : ShownPages S) (to : ShownPages T) (walk : TreeWalk)
    (builder : RowsBuilder) (old new : S) (before after : T) (result : Result RowParts CopyFault)
    : Type 0 where
  pub ended : WhereBothHonest from to new before after ((source : OpenFile) (file : File)
      → IsTrue (is_file (file_schema source) file)
      → HasCopiedRows source walk builder (from.state old).live (to.state before).live file.rows 0
      → IsCopyAnswer result (λ parts. RowsStandBuilt (file_schema source) parts.heap parts.prime []
      (to.state after).live file.rows
      × (slot_shape parts.heap ≡ slots_built builder) × IsTrue (to.state after).is_sound))
  pub width : IfOk result (λ parts. parts.prime.width ≡ width_built builder)

-- a call that copies all rows of a file, into pages of which none is in use
pub record CopiesRows {S T : Type 0} (from : ShownPages S) (to : ShownPages T) (source : OpenFile)
    (old new : S) (before after : T) (result : Result RowParts CopyFault) : Type 0 where
  pub copied : WhereBothHonest from to new before after ((file : File)
      → Stands source (from.state old).live file → ((n : ℕ) → (to.state before).live n ≡ None)
      → IsCopyAnswer result (λ parts. RowsStandBuilt (file_schema source) parts.heap parts.prime []
      (to.state after).live file.rows
      × (slot_shape parts.heap ≡ slot_shape (heap_of source)) × IsTrue (to.state after).is_sound))
  pub width : IfOk result (λ parts. parts.prime.width ≡ (prime_index_of source).width)
