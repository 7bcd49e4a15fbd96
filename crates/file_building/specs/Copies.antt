-- A file that is copied.
use Rattle.std.specs.Prelude.{◌≡◌, ℕ, None, Err, Result, IsTrue, IfOk}
use Rattle.io_state.specs.declared.fault.Fault.TheVariants.{Broken}
use Rattle.indexed_file.specs.File.{File}
use Rattle.pages.specs.ShownPages.{ShownPages}
use Rattle.open_file.specs.Stands.{Stands}
use Rattle.open_file.specs.Fields.{has_broken}
use Rattle.open_file.specs.declared.open_file.OpenFile.{OpenFile}
use Rattle.file_building.specs.declared.copy_fault.CopyFault.{CopyFault}
use Rattle.file_building.specs.declared.copy_fault.CopyFault.TheVariants.{Reading}
use Rattle.file_building.specs.CopyFault.{IsCopyAnswer, KeepsCopying}
use Rattle.file_building.specs.CopiedRows.{WhereBothHonest}
use Rattle.file_building.specs.CopiedOpening.{IsOpenedLike}

-- A call that copies a file into pages of which none is in use. Where no wrong answer of either device
-- was taken as true, and page 0, the header's, was not given out: where the source stands for a file,
-- the copy stands for the same file, with the same stamps, in its own pages.
pub record CopiesFile {S T : Type 0} (from : ShownPages S) (to : ShownPages T) (source : OpenFile)
    (old new : S) (before after : T) (result : Result OpenFile CopyFault) : Type 0 where
  pub copied : WhereBothHonest from to new before after ((file : File)
      → Stands source (from.state old).live file → ((n : ℕ) → (to.state before).live n ≡ None)
      → (to.state after).live 0 ≡ None
      → IsCopyAnswer result (λ copy. Stands copy (to.state after).live file
      × IsTrue (to.state after).is_sound))
  pub made : IfOk result (IsOpenedLike source)
  pub broken : IsTrue (has_broken source) → result ≡ Err (Reading Broken)
  pub keeps : KeepsCopying from to (has_broken source) old new before after result
