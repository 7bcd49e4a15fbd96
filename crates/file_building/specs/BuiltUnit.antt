-- A new file of a shelf that is built from records, and what a call leaves that builds it.
use Rattle.std.specs.Prelude.{◌≡◌, ◌≢◌, ◌⊎◌, ◌≤◌, ℕ, List, length, IsTrue, Result, IfOk, IfErr, ⊤}
use Rattle.io_state.specs.declared.fault.Fault.{Fault}
use Rattle.io_state.specs.declared.fault.Fault.TheVariants.{Damage}
use Rattle.record_layout.specs.Schema.{Schema}
use Rattle.indexed_file.specs.File.{File, empty_file}
use Rattle.page_store.specs.DeviceFile.{DeviceFile}
use Rattle.page_store.specs.Gate.{AllRefused, IsRefused, WasOrRefused, SameOrRefused}
use Rattle.page_store.specs.Images.{IsSettled}
use Rattle.page_store.specs.Moments.{Throughout}
use Rattle.page_store.specs.ShelfState.{ShelfState, KeepsOthers, unit_file}
use Rattle.page_alloc.specs.Joining.{FaultsRose}
use Rattle.shelf_library.specs.FileOpening.{CountedShelf, counted_shelf}
use Rattle.tree_building.specs.Fresh.{IsBuildCause}
use Rattle.file_building.specs.declared.built_end.FileBuilt.{FileBuilt}
use Rattle.file_building.specs.declared.built_end.FileBuilt.TheVariants.{Closed, Unclosed, OutOfOrder, Clash}
use Rattle.file_building.specs.Closing.{IsUnclosedFor}
use Rattle.file_building.specs.Filling.{IsFullFile}
use Rattle.file_building.specs.NewFile.{IsClosedFor, IsOldOrWhole, ReadsOldOrWhole}
use Rattle.file_building.specs.Written.{with_all_added, AreAccepted, RecordsRise}

-- the file that these records make, added one after another to one without rows
abbrev pub file_of_records : Schema → List (List ℕ) → File
file_of_records schema records = with_all_added schema records empty_file

-- the file has these records, so many: none of them clashed with those before it, a crash leaves what
-- reads give and nothing else, and that is a closed file which stands for them
pub record IsBuiltWhole (schema : Schema) (records : List (List ℕ)) (count : ℕ) (new : DeviceFile) : Type 0 where
  pub accepted : AreAccepted schema records empty_file
  pub settled : IsSettled new
  pub closed : IsClosedFor schema (file_of_records schema records) new.seen
  pub count_is : count ≡ length records

-- so, where its closing failed: it is that closed file, or a refused one
pub record IsBuiltUnclosed (schema : Schema) (records : List (List ℕ)) (count : ℕ) (new : DeviceFile) : Type 0 where
  pub accepted : AreAccepted schema records empty_file
  pub reads : IsRefused new.seen ⊎ IsClosedFor schema (file_of_records schema records) new.seen
  pub count_is : count ≡ length records

-- the file is there and refused, at each crash from now on too; and at each moment a crash left what
-- it could leave before, or a refused file
pub record IsBuiltRefused (old new : DeviceFile) : Type 0 where
  pub images : Throughout (WasOrRefused old) old new
  pub refused : AllRefused new
  pub reads : IsRefused new.seen

-- it has all records; or the file is refused, since their prime values do not rise, or one of them
-- clashed with those before it
abbrev pub EndsBuilt : Schema → List (List ℕ) → (old new : DeviceFile) → FileBuilt → Type 0
EndsBuilt schema records old new (Closed count) = IsBuiltWhole schema records count new
EndsBuilt schema records old new (Unclosed count fault) = IsBuiltUnclosed schema records count new
EndsBuilt schema records old new OutOfOrder = (RecordsRise schema records → ⊥) × IsBuiltRefused old new
EndsBuilt schema records old new Clash =
    (AreAccepted schema records empty_file → ⊥) × IsBuiltRefused old new

-- where all records were taken, this is so
abbrev pub WhereAllTaken : Type 0 → FileBuilt → Type 0
WhereAllTaken fact (Closed count) = fact
WhereAllTaken fact (Unclosed count fault) = fact
WhereAllTaken fact OutOfOrder = ⊤
WhereAllTaken fact Clash = ⊤

-- A call that builds the file of a unit from records, in the place of what its name stood for. Where no
-- wrong answer of the device was taken as true, it ended so; at each moment, and after a fault too, a
-- crash leaves what it could leave before, a refused file, or the whole one; and so do reads in the end.
-- Always each other file stays, and each fault has its cause, that of a closing which failed too.
pub record BuildsOnShelf (unit limit : ℕ) (schema : Schema) (records : List (List ℕ)) (old new : CountedShelf)
    (result : Result FileBuilt Fault) : Type 0 where
  pub ends : IsTrue new.shelf.is_honest
      → IfOk result (EndsBuilt schema records (unit_file old.shelf unit) (unit_file new.shelf unit))
  pub images : IsTrue new.shelf.is_honest
      → Throughout (IsOldOrWhole (unit_file old.shelf unit) schema (file_of_records schema records))
      (unit_file old.shelf unit) (unit_file new.shelf unit)
  pub reads : IsTrue new.shelf.is_honest → ReadsOldOrWhole (unit_file old.shelf unit)
      (unit_file new.shelf unit) schema (file_of_records schema records)
  pub left : IsTrue new.shelf.is_honest
      → IfErr result (λ fault. SameOrRefused (unit_file old.shelf unit) (unit_file new.shelf unit))
  pub others : KeepsOthers unit old.shelf new.shelf
  pub count : old.faults ≤ new.faults
  pub cause : IfErr result (IsBuildCause (FaultsRose old.faults new.faults) (IsFullFile unit limit new.shelf))
  pub unclosed : IfOk result (IsUnclosedFor (FaultsRose old.faults new.faults))
  pub no_damage : IsTrue new.shelf.is_honest → IfErr result (λ fault. fault ≢ Damage)

-- the same, of shelves that show this state and count their faults so
module _ {H : Type 0} (state : H → ShelfState) (count : H → ℕ) where
  abbrev pub BuildsUnit : (unit limit : ℕ) → Schema → List (List ℕ) → H → H → Result FileBuilt Fault → Type 0
  BuildsUnit unit limit schema records old new result = BuildsOnShelf unit limit schema records
      (counted_shelf (state old) (count old)) (counted_shelf (state new) (count new)) result
