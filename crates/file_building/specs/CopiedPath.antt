-- The file of a path, copied into a new file of a folder, by what two systems were asked and answered. All
-- of this is ours.
use Rattle.std.specs.Prelude.{◌≡◌, ◌⊎◌, ℕ, List, [], IsTrue, ⊤, Result, IfErr}
use Rattle.record_layout.specs.Schema.{Schema}
use Rattle.indexed_file.specs.File.{File}
use Rattle.page_store.specs.DeviceFile.{content}
use Rattle.page_store.specs.Pages.{HoldsPages}
use Rattle.page_store.specs.ShelfState.{ShelfState}
use Rattle.page_alloc.specs.Joining.{FaultsRose}
use Rattle.folder_shelf.specs.Answers.{are_answers_of}
use Rattle.folder_shelf.specs.Calls.{Call}
use Rattle.folder_shelf.specs.FailedCalls.{failed_calls}
use Rattle.folder_shelf.specs.Replay.{Unseen, folder_after, folder_state}
use Rattle.folder_shelf.specs.SystemState.{SystemState}
use Rattle.shelf_library.specs.ClosedFile.{AreClosed}
use Rattle.file_building.specs.declared.fault.Copied.{Copied}
use Rattle.file_building.specs.declared.fault.CopyingFault.{CopyingFault}
use Rattle.file_building.specs.Copying.{IsCopyTold, IsCopyUntouched, BecomesCopy, CopyGivesUp}
use Rattle.file_building.specs.Faults.{IsCopyingCause}
use Rattle.file_building.specs.Attached.{LacksNames}

-- what is copied, and whereto: the path of a file, a folder, the name of the new file in it, the key in
-- whose order its records lie, and how many pages it may have
pub record CopyPaths : Type 0 where
  pub source : List ℕ
  pub folder : List ℕ
  pub name : List ℕ
  pub key : ℕ
  pub limit : ℕ

-- the same, by its parts
abbrev pub copy_paths : (source folder name : List ℕ) → (key limit : ℕ) → CopyPaths
copy_paths source folder name key limit =
    record { source = source; folder = folder; name = name; key = key; limit = limit }

-- what the folder held before the first call
abbrev pub folder_before : Unseen → CopyPaths → ShelfState
folder_before disk asked = folder_after disk asked.folder [] []

-- A copy, where one system was asked these reads of the first file, and another one has the folder of the
-- second. Where each answer was that of the files of the disk: what is told holds of the two files as they
-- were; and if the bytes of the first are a closed file that stands for rows, the second becomes a copy, and
-- no crash leaves a false one. Always each other file of the folder stays, and each fault of the second has
-- its cause. That the first is told as not read only where a call on it failed is not said.
pub record CopiesAtPath (disk : Unseen) (asked : CopyPaths) (reads : List Call) (system : SystemState)
    (result : Result Copied CopyingFault) : Type 0 where
  pub told : IsTrue (are_answers_of disk.first reads) → IsTrue (folder_state disk system).is_honest
      → IsCopyTold asked.key (disk.first asked.source) ((folder_before disk asked).file asked.name) result
  pub untouched : IfErr result (IsCopyUntouched (folder_before disk asked) (folder_state disk system))
  pub copies : IsTrue (are_answers_of disk.first reads) → IsTrue (folder_state disk system).is_honest
      → (schema : Schema) (file : File) → AreClosed schema file (content (disk.first asked.source))
      → BecomesCopy schema file ((folder_before disk asked).file asked.name)
      ((folder_state disk system).file asked.name) result
  pub gives_up : IsTrue (folder_state disk system).is_honest
      → IfErr result (CopyGivesUp ((folder_before disk asked).file asked.name)
      ((folder_state disk system).file asked.name))
  pub others : (name : List ℕ) → ¬ (name ≡ asked.name)
      → (folder_state disk system).file name ≡ (folder_before disk asked).file name
  pub cause : IfErr result (IsCopyingCause ⊤ (FaultsRose 0 (failed_calls system.calls))
      (IsTrue (folder_state disk system).is_honest
      → HoldsPages asked.limit ((folder_state disk system).file asked.name)))

-- so; or memory was wanting for the names of the two files, and nothing was changed
abbrev pub CopiesPath : Unseen → CopyPaths → List Call → SystemState → Result Copied CopyingFault → Type 0
CopiesPath disk asked reads system result =
    LacksNames (folder_before disk asked) (folder_state disk system) result
    ⊎ CopiesAtPath disk asked reads system result

-- so, by the record of each of two systems, which are given back
abbrev pub CopiesBySystems : {S : Type 0} → (S → SystemState) → Unseen → CopyPaths
    → (S × S × Result Copied CopyingFault) → Type 0
CopiesBySystems state disk asked given =
    CopiesPath disk asked (state given.0).calls (state given.1) given.2
