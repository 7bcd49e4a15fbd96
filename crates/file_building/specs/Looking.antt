-- What is found of the two files before anything is written.
use Rattle.std.specs.Prelude.{◌≡◌, ◌⊎◌, ◌≤◌, ◌<◌, ℕ, length, ⊤, IsTrue, Result, Ok, Err, IfOk, IfErr, None, is_some}
use Rattle.io_state.specs.declared.fault.Fault.TheVariants.{Device}
use Rattle.page_store.specs.DeviceFile.{DeviceFile}
use Rattle.page_store.specs.ShelfState.{ShelfState, OnlyAnswers, unit_file}
use Rattle.page_alloc.specs.Joining.{FaultsRose}
use Rattle.open_file.specs.declared.first_page.Header.{Header}
use Rattle.open_file.specs.Bounds.{IsHeader}
use Rattle.shelf_library.specs.declared.look.HeaderLook.TheVariants.{NoFile, Refused, Accepted}
use Rattle.shelf_library.specs.Named.{look_of}
use Rattle.shelf_library.specs.FileOpening.{CountedShelf, counted_shelf}
use Rattle.file_building.specs.declared.fault.CopyingFault.{CopyingFault}
use Rattle.file_building.specs.declared.fault.CopyingFault.TheVariants.{NoneToCopy, NotAccepted, NoKey, IsThere, Reading, Writing}

-- the file has a header that is accepted, whose schema has key k
pub record HasKey (k : ℕ) (file : DeviceFile) : Type 0 where
  pub header : Header
  pub accepted : look_of file.seen ≡ Accepted header
  pub key : k < length header.schema.keys

-- the file has a header that is accepted, whose schema has not
pub record LacksKey (k : ℕ) (file : DeviceFile) : Type 0 where
  pub header : Header
  pub accepted : look_of file.seen ≡ Accepted header
  pub none : length header.schema.keys ≤ k

-- the header, where its schema has key k; else it is told that it has not
abbrev pub IsHeaderWith : ℕ → Header → Result Header CopyingFault → Type 0
IsHeaderWith k header result = ((result ≡ Ok header) × (k < length header.schema.keys))
    ⊎ ((result ≡ Err NoKey) × (length header.schema.keys ≤ k))

-- what an answer tells of the file that is to be copied
abbrev pub IsToldSource : ℕ → DeviceFile → Result Header CopyingFault → Type 0
IsToldSource key file (Ok header) = look_of file.seen ≡ Accepted header
IsToldSource key file (Err NoneToCopy) = look_of file.seen ≡ NoFile
IsToldSource key file (Err NotAccepted) = look_of file.seen ≡ Refused
IsToldSource key file (Err NoKey) = LacksKey key file
IsToldSource key file (Err IsThere) = ⊤
IsToldSource key file (Err (Reading fault)) = ⊤
IsToldSource key file (Err (Writing fault)) = ⊤

-- why no header of it was told
abbrev pub IsNoSource : Type 0 → CopyingFault → Type 0
IsNoSource failed NoneToCopy = ⊤
IsNoSource failed NotAccepted = ⊤
IsNoSource failed NoKey = ⊤
IsNoSource failed IsThere = ⊥
IsNoSource failed (Reading fault) = (fault ≡ Device) × failed
IsNoSource failed (Writing fault) = ⊥

-- a call that looks for the file to copy, and writes nothing
pub record LooksForSource (unit key : ℕ) (old new : CountedShelf) (result : Result Header CopyingFault)
    : Type 0 where
  pub told : IsTrue new.shelf.is_honest → IsToldSource key (unit_file old.shelf unit) result
  pub header : IfOk result IsHeader
  pub has_key : IfOk result (λ header. key < length header.schema.keys)
  pub only : OnlyAnswers old.shelf new.shelf
  pub count : old.faults ≤ new.faults
  pub cause : IfErr result (IsNoSource (FaultsRose old.faults new.faults))

-- what an answer tells of the file that is to be made
abbrev pub IsToldTarget : DeviceFile → Result (Unit {0}) CopyingFault → Type 0
IsToldTarget file (Ok done) = file.seen ≡ None
IsToldTarget file (Err NoneToCopy) = ⊤
IsToldTarget file (Err NotAccepted) = ⊤
IsToldTarget file (Err NoKey) = ⊤
IsToldTarget file (Err IsThere) = IsTrue (is_some file.seen)
IsToldTarget file (Err (Reading fault)) = ⊤
IsToldTarget file (Err (Writing fault)) = ⊤

-- why it was not found to be absent
abbrev pub IsTargetFault : Type 0 → CopyingFault → Type 0
IsTargetFault failed NoneToCopy = ⊥
IsTargetFault failed NotAccepted = ⊥
IsTargetFault failed NoKey = ⊥
IsTargetFault failed IsThere = ⊤
IsTargetFault failed (Reading fault) = ⊥
IsTargetFault failed (Writing fault) = (fault ≡ Device) × failed

-- a call that looks whether it is there, and writes nothing
pub record LooksForTarget (unit : ℕ) (old new : CountedShelf) (result : Result (Unit {0}) CopyingFault)
    : Type 0 where
  pub told : IsTrue new.shelf.is_honest → IsToldTarget (unit_file old.shelf unit) result
  pub only : OnlyAnswers old.shelf new.shelf
  pub count : old.faults ≤ new.faults
  pub cause : IfErr result (IsTargetFault (FaultsRose old.faults new.faults))

-- the same, of shelves that show this state and count their faults so
module _ {H : Type 0} (state : H → ShelfState) (count : H → ℕ) where
  abbrev pub FindsSource : ℕ → ℕ → H → H → Result Header CopyingFault → Type 0
  FindsSource unit key old new result = LooksForSource unit key (counted_shelf (state old) (count old))
      (counted_shelf (state new) (count new)) result

  abbrev pub FindsNoTarget : ℕ → H → H → Result (Unit {0}) CopyingFault → Type 0
  FindsNoTarget unit old new result = LooksForTarget unit (counted_shelf (state old) (count old))
      (counted_shelf (state new) (count new)) result
