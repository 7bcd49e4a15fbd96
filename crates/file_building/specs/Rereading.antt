-- Rows that were built, read again one after another.
use Rattle.std.specs.Prelude.{◌≡◌, ◌≤◌, ◌+◌, ℕ, Bool, true, false, List, [], ◌∷◌, ◌++◌, length, take, drop, map, Option, None, Some, Result, IfOk, IfErr, IsTrue}
use Rattle.record_layout.specs.Schema.{Schema, key_at}
use Rattle.indexed_file.specs.File.{Row}
use Rattle.indexed_file.specs.Change.{new_row}
use Rattle.std.specs.Option.{IfSome}
use Rattle.io_state.specs.declared.fault.Fault.{Fault}
use Rattle.pages.specs.Each.{Each}
use Rattle.pages.specs.PageMap.{PageMap}
use Rattle.pages.specs.Answer.{IsAnswer}
use Rattle.pages.specs.Cause.{IsCaused}
use Rattle.pages.specs.ShownPages.{ShownPages}
use Rattle.record_heap.specs.declared.shape.Place.{Place}
use Rattle.record_heap.specs.Chain.{Slots}
use Rattle.record_heap.specs.Standing.{HeapStands, slot_shape}
use Rattle.key_index.specs.declared.entry.AltEntry.{AltEntry}
use Rattle.key_index.specs.Stored.{prime_bytes, IsPrimeEntry}
use Rattle.key_index.specs.Standing.{PrimeStands}
use Rattle.tree_building.specs.Fresh.{IsBuildCause}
use Rattle.open_file.specs.InOrder.{prime_entries, alt_entry}
use Rattle.open_file.specs.Stored.{AreAt, stored, stamps_length}
use Rattle.file_building.specs.declared.batch.Batch.{Batch}
use Rattle.file_building.specs.declared.rows_builder.RowParts.{RowParts}
use Rattle.file_building.specs.declared.walk.TreeWalk.{TreeWalk}
use Rattle.file_building.specs.Batches.{HasTakenEntries, KeepsBatch}
use Rattle.file_building.specs.Held.{IsHeldFor}
use Rattle.file_building.specs.Ranks.{is_lower, AreUntied}
use Rattle.file_building.specs.Walk.{HasWalked, walk_tree}
use Rattle.file_building.specs.Written.{rows_of, HaveLengths, rows_with_stamps}

-- these rows lie at places of the heap to which the walk over the prime index leads next
pub record RowsToRead (schema : Schema) (parts : RowParts) (walk : TreeWalk) (live : PageMap)
    (rest : List Row) : Type 0 where
  pub slots : Slots
  pub heap_own : List ℕ
  pub heap : HeapStands parts.heap live slots heap_own
  pub places : List Place
  pub rows_at : AreAt schema slots places rest
  pub each : Each (IsPrimeEntry parts.prime.width) (prime_entries schema places rest)
  pub given : List (List ℕ)
  pub own : List ℕ
  pub walked : HasWalked walk live given (map prime_bytes (prime_entries schema places rest)) own

-- a call that reads the next row: its stamps and its record to the front of the area
pub record ReadsBuiltRow {S : Type 0} (shown : ShownPages S) (parts : RowParts) (before after : S)
    (old new : TreeWalk) (area : List ℕ) (result : Result ℕ Fault) : Type 0 where
  pub read : IsTrue (shown.state after).is_honest → (schema : Schema) (row : Row) (rest : List Row)
      → RowsToRead schema parts old (shown.state before).live (row ∷ rest)
      → IsAnswer result (λ n. (stored schema row ≡ take n area)
      × RowsToRead schema parts new (shown.state before).live rest)
  pub tree_is : walk_tree new ≡ walk_tree old
  pub least : IfOk result (λ n. (slot_shape parts.heap).stamps + (slot_shape parts.heap).least ≤ n)
  pub greatest : IfOk result (λ n. n ≤ (slot_shape parts.heap).stamps + (slot_shape parts.heap).greatest)
  pub cause : IfErr result (IsCaused (shown.HasFailed before after) ⊥)
  pub reads : shown.Reads before after

-- the stamps of the heap are those of new rows
abbrev pub HasStampsOf : Schema → RowParts → Type 0
HasStampsOf schema parts = (slot_shape parts.heap).stamps ≡ stamps_length (drop 1 schema.keys)

-- these new records are ahead, of which the first has this stamp
pub record AreAhead (schema : Schema) (parts : RowParts) (walk : TreeWalk) (live : PageMap) (stamp : ℕ)
    (records : List (List ℕ)) : Type 0 where
  pub long : HaveLengths schema records
  pub stamps : HasStampsOf schema parts
  pub rows : RowsToRead schema parts walk live (rows_with_stamps schema stamp records)

-- the entry that key k has of a new record
abbrev pub entry_with_stamp : Schema → ℕ → ℕ → List ℕ → AltEntry
entry_with_stamp schema k stamp bytes = alt_entry schema k (new_row schema stamp bytes)

-- one entry more was taken, and these are ahead; or two entries have one rank
abbrev pub EndsTaking : Batch → List AltEntry → Type 0 → Bool → Type 0
EndsTaking batch seen ahead true = HasTakenEntries batch seen × ahead
EndsTaking batch seen ahead false = AreUntied is_lower seen → ⊥

-- a call that gives the batch the entry of the next row
pub record TakesNextRow {S : Type 0} (shown : ShownPages S) (schema : Schema) (k stamp : ℕ) (parts : RowParts)
    (before after : S) (walk walk_now : TreeWalk) (old new : Batch) (result : Result Bool Fault) : Type 0 where
  pub taken : IsTrue (shown.state after).is_honest → (bytes : List ℕ) (records : List (List ℕ)) (seen : List AltEntry)
      → AreAhead schema parts walk (shown.state before).live stamp (bytes ∷ records) → HasTakenEntries old seen
      → IsAnswer result (EndsTaking new (seen ++ entry_with_stamp schema k stamp bytes ∷ [])
      (AreAhead schema parts walk_now (shown.state before).live (stamp + 1) records))
  pub tree_is : walk_tree walk_now ≡ walk_tree walk
  pub same : KeepsBatch old new
  pub cause : IfErr result (IsBuildCause (shown.HasFailed before after) ⊥)
  pub reads : shown.Reads before after

-- a batch is for the entries of key k
abbrev pub IsBatchFor : Schema → ℕ → Batch → Type 0
IsBatchFor schema k batch = IsHeldFor (key_at schema k).length (key_at schema 0).length batch.held

-- these rows are in the pages: each is at its place, and the entries of the prime index lead there
pub record RowsStandIn (schema : Schema) (parts : RowParts) (live : PageMap) (rows : List Row) : Type 0 where
  pub slots : Slots
  pub places : List Place
  pub heap_own : List ℕ
  pub prime_own : List ℕ
  pub rows_at : AreAt schema slots places rows
  pub heap : HeapStands parts.heap live slots heap_own
  pub prime : PrimeStands parts.prime live (prime_entries schema places rows) prime_own

-- all entries of key k were taken; or two of them have one rank
abbrev pub EndsReading : Schema → ℕ → List Row → Option Batch → Type 0
EndsReading schema k rows None = AreUntied is_lower (map (alt_entry schema k) rows) → ⊥
EndsReading schema k rows (Some batch) = HasTakenEntries batch (map (alt_entry schema k) rows)

-- a call that gives a batch the entries of all rows
pub record ReadsBatch {S : Type 0} (shown : ShownPages S) (schema : Schema) (k : ℕ) (parts : RowParts) (count : ℕ)
    (above : AltEntry) (before after : S) (result : Result (Option Batch) Fault) : Type 0 where
  pub read : IsTrue (shown.state after).is_honest → (records : List (List ℕ)) → HaveLengths schema records
      → HasStampsOf schema parts → length records ≡ count
      → RowsStandIn schema parts (shown.state before).live (rows_of schema records)
      → IsAnswer result (EndsReading schema k (rows_of schema records))
  pub fits : IfOk result (λ found. IfSome found (IsBatchFor schema k))
  pub above_is : IfOk result (λ found. IfSome found (λ batch. batch.above ≡ above))
  pub cause : IfErr result (IsBuildCause (shown.HasFailed before after) ⊥)
  pub reads : shown.Reads before after
