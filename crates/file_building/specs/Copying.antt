-- A closed file of one shelf that is copied into a new file of another.
use Rattle.std.specs.Prelude.{◌≡◌, ◌≢◌, ◌≤◌, ◌<◌, ℕ, length, ⊤, None, IsTrue, is_some, Result, Ok, Err, IfErr}
use Rattle.io_state.specs.declared.fault.Fault.TheVariants.{Device}
use Rattle.record_layout.specs.Schema.{Schema}
use Rattle.indexed_file.specs.File.{File}
use Rattle.page_store.specs.DeviceFile.{DeviceFile, content}
use Rattle.page_store.specs.Moments.{Throughout}
use Rattle.page_store.specs.ShelfState.{ShelfState, HasUnit, KeepsOthers, OnlyAnswers, unit_file}
use Rattle.page_alloc.specs.Joining.{FaultsRose}
use Rattle.open_file.specs.declared.first_page.Header.{Header}
use Rattle.open_file.specs.Bounds.{IsHeader}
use Rattle.shelf_library.specs.declared.look.HeaderLook.TheVariants.{NoFile, Refused}
use Rattle.shelf_library.specs.ClosedFile.{AreClosed, StandsIn}
use Rattle.shelf_library.specs.Named.{look_of}
use Rattle.shelf_library.specs.FileOpening.{CountedShelf, counted_shelf}
use Rattle.shelf_library.specs.Shelves.{HasAccepted}
use Rattle.file_building.specs.declared.fault.Copied.{Copied}
use Rattle.file_building.specs.declared.fault.CopyingFault.{CopyingFault}
use Rattle.file_building.specs.declared.fault.CopyingFault.TheVariants.{NoneToCopy, NotAccepted, NoKey, IsThere, Reading, Writing}
use Rattle.file_building.specs.Faults.{IsMovingCause, IsCopyingCause, IsNoSourceDamage}
use Rattle.file_building.specs.Filling.{IsFullFile}
use Rattle.file_building.specs.NewFile.{GoesRefused, IsOldOrWhole}
use Rattle.file_building.specs.Looking.{HasKey, LacksKey}
use Rattle.file_building.specs.Closing.{IsCopyDone}

-- What an answer tells of the two files as they were. So no other answer comes where there is none to
-- copy, where it is refused or has no such key, or where the new one is there, but that a device failed.
abbrev pub IsCopyTold : ℕ → (source target : DeviceFile) → Result Copied CopyingFault → Type 0
IsCopyTold key source target (Ok copied) = HasKey key source × (target.seen ≡ None)
IsCopyTold key source target (Err NoneToCopy) = look_of source.seen ≡ NoFile
IsCopyTold key source target (Err NotAccepted) = look_of source.seen ≡ Refused
IsCopyTold key source target (Err NoKey) = LacksKey key source
IsCopyTold key source target (Err IsThere) = HasKey key source × IsTrue (is_some target.seen)
IsCopyTold key source target (Err (Reading fault)) =
    fault ≢ Device → HasKey key source × (target.seen ≡ None)
IsCopyTold key source target (Err (Writing fault)) =
    HasKey key source × (fault ≢ Device → target.seen ≡ None)

-- nothing was written where there was none to copy, it was refused, or the new one is there
abbrev pub IsCopyUntouched : (old new : ShelfState) → CopyingFault → Type 0
IsCopyUntouched old new NoneToCopy = new.file ≡ old.file
IsCopyUntouched old new NotAccepted = new.file ≡ old.file
IsCopyUntouched old new NoKey = new.file ≡ old.file
IsCopyUntouched old new IsThere = new.file ≡ old.file
IsCopyUntouched old new (Reading fault) = ⊤
IsCopyUntouched old new (Writing fault) = ⊤

-- so where the file that is copied was not read
abbrev pub CopyGivesUp : (old new : DeviceFile) → CopyingFault → Type 0
CopyGivesUp old new (Reading fault) = GoesRefused old new
CopyGivesUp old new NoneToCopy = ⊤
CopyGivesUp old new NotAccepted = ⊤
CopyGivesUp old new NoKey = ⊤
CopyGivesUp old new IsThere = ⊤
CopyGivesUp old new (Writing fault) = ⊤

-- a file became a copy of this one, or it did not
pub record BecomesCopy (schema : Schema) (file : File) (old new : DeviceFile)
    (result : Result Copied CopyingFault) : Type 0 where
  pub images : Throughout (IsOldOrWhole old schema file) old new
  pub done : IsCopyDone schema file new result
  pub no_damage : IfErr result IsNoSourceDamage

-- the two files have units, and the one to be copied has this header, whose schema has the key
pub record CanCopyByHeader (source unit key : ℕ) (header : Header) (from to : ShelfState) : Type 0 where
  pub from_unit : HasUnit from source
  pub to_unit : HasUnit to unit
  pub is_header : IsHeader header
  pub has_key : key < length header.schema.keys
  pub accepted : IsTrue from.is_honest → HasAccepted from source header

-- a call that copies the file of this header
pub record MovesByHeader (source unit limit : ℕ) (header : Header) (from from_now to to_now : CountedShelf)
    (result : Result Copied CopyingFault) : Type 0 where
  pub copies : IsTrue from_now.shelf.is_honest → IsTrue to_now.shelf.is_honest → (file : File)
      → StandsIn header (content (unit_file from.shelf source)) file
      → BecomesCopy header.schema file (unit_file to.shelf unit) (unit_file to_now.shelf unit) result
  pub gives_up : IsTrue to_now.shelf.is_honest
      → IfErr result (CopyGivesUp (unit_file to.shelf unit) (unit_file to_now.shelf unit))
  pub only : OnlyAnswers from.shelf from_now.shelf
  pub others : KeepsOthers unit to.shelf to_now.shelf
  pub read_count : from.faults ≤ from_now.faults
  pub write_count : to.faults ≤ to_now.faults
  pub cause : IfErr result (IsMovingCause (FaultsRose from.faults from_now.faults)
      (FaultsRose to.faults to_now.faults) (IsFullFile unit limit to_now.shelf))

-- A call that copies the closed file of a unit of one shelf into a new file of a unit of another. Where
-- no wrong answer of either device was taken as true, and the bytes of the first are a closed file that
-- stands for rows, the second becomes a copy. Always the first is only read, each other file of either
-- shelf stays, and each fault has its cause.
pub record CopiesBetween (source unit key limit : ℕ) (from from_now to to_now : CountedShelf)
    (result : Result Copied CopyingFault) : Type 0 where
  pub told : IsTrue from_now.shelf.is_honest → IsTrue to_now.shelf.is_honest
      → IsCopyTold key (unit_file from.shelf source) (unit_file to.shelf unit) result
  pub untouched : IfErr result (IsCopyUntouched to.shelf to_now.shelf)
  pub copies : IsTrue from_now.shelf.is_honest → IsTrue to_now.shelf.is_honest
      → (schema : Schema) (file : File) → AreClosed schema file (content (unit_file from.shelf source))
      → BecomesCopy schema file (unit_file to.shelf unit) (unit_file to_now.shelf unit) result
  pub gives_up : IsTrue to_now.shelf.is_honest
      → IfErr result (CopyGivesUp (unit_file to.shelf unit) (unit_file to_now.shelf unit))
  pub only : OnlyAnswers from.shelf from_now.shelf
  pub others : KeepsOthers unit to.shelf to_now.shelf
  pub read_count : from.faults ≤ from_now.faults
  pub write_count : to.faults ≤ to_now.faults
  pub cause : IfErr result (IsCopyingCause (FaultsRose from.faults from_now.faults)
      (FaultsRose to.faults to_now.faults) (IsFullFile unit limit to_now.shelf))

-- the same, of shelves that show these states and count their faults so
module _ {S T : Type 0} (state : S → ShelfState) (count : S → ℕ) (state_to : T → ShelfState)
    (count_to : T → ℕ) where
  abbrev pub CopiesByHeader : (source unit limit : ℕ) → Header → S → S → T → T
      → Result Copied CopyingFault → Type 0
  CopiesByHeader source unit limit header from from_now to to_now result =
      MovesByHeader source unit limit header
      (counted_shelf (state from) (count from)) (counted_shelf (state from_now) (count from_now))
      (counted_shelf (state_to to) (count_to to)) (counted_shelf (state_to to_now) (count_to to_now)) result

  abbrev pub CopiesUnit : (source unit key limit : ℕ) → S → S → T → T → Result Copied CopyingFault → Type 0
  CopiesUnit source unit key limit from from_now to to_now result = CopiesBetween source unit key limit
      (counted_shelf (state from) (count from)) (counted_shelf (state from_now) (count from_now))
      (counted_shelf (state_to to) (count_to to)) (counted_shelf (state_to to_now) (count_to to_now)) result
