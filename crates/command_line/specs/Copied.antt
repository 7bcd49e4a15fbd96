-- What is copied of the file of a path into the new file of another. All of this is ours.
use Rattle.std.specs.Prelude.{◌≡◌, ◌⊎◌, ℕ, Bool, true, false, List, [], Result, Ok, Err, ⊤}
use Rattle.clap.specs.Words.{Text}
use Rattle.folder_shelf.specs.Calls.{Call}
use Rattle.folder_shelf.specs.Reading.{AreReading, ByReads}
use Rattle.folder_shelf.specs.Replay.{Unseen}
use Rattle.folder_shelf.specs.SystemState.{SystemState}
use Rattle.folder_shelf.specs.Within.{StaysWithin}
use Rattle.io_state.specs.FileName.{is_file_name}
use Rattle.io_state.specs.declared.fault.Fault.TheVariants.{Damage, Full, Memory as NoMemory}
use Rattle.file_building.specs.declared.fault.Copied.{Copied}
use Rattle.file_building.specs.declared.fault.CopyingFault.{CopyingFault}
use Rattle.file_building.specs.declared.fault.CopyingFault.TheVariants.{NoneToCopy, NotAccepted, NoKey, IsThere}
use Rattle.file_building.specs.declared.fault.CopyingFault.TheVariants.{Reading, Writing}
use Rattle.file_building.specs.NewPlace.{folder_of, last_part}
use Rattle.file_building.specs.CopiedPath.{CopiesPath, copy_paths}
use Rattle.file_building.specs.declared.end.CopyEnd.TheVariants.{Whole, Refused, Damaged}
use Rattle.file_building.specs.declared.end.CopyEnd.TheVariants.{IsThere as NewIsThere, Full as NewIsFull}
use Rattle.file_building.specs.declared.end.CopyEnd.TheVariants.{NoKey as HasNoKey}
use Rattle.command_words.specs.Asks.{AskCopy}
use Rattle.command_words.specs.declared.request.Request.{Request}
use Rattle.command_words.specs.declared.request.Request.TheVariants.{Copy}
use Rattle.command_line.specs.CallsMade.{CallsMade, folder_behind}
use Rattle.command_line.specs.declared.copying.Copying.{Copying}
use Rattle.command_support.specs.Status.{status_of}
use Rattle.command_support.specs.declared.fault.CommandFault.{CommandFault}
use Rattle.command_support.specs.declared.fault.CommandFault.TheVariants.{NoFileName, Input, Output, Memory}
use Rattle.command_support.specs.declared.outcome.Outcome.{Outcome}
use Rattle.command_support.specs.declared.outcome.Outcome.TheVariants.{Copied as CopyEnded}

-- whether a request asks for a copy
abbrev pub is_copy : Request → Bool
is_copy (Copy file new key limits) = true
is_copy request = false

-- the words ask for a copy
pub record AskForCopy (words : List Text) : Type 0 where
  pub file : Text
  pub new : Text
  pub key : ℕ
  pub pages : ℕ
  pub frames : ℕ
  pub asked : AskCopy words file new key pages frames

-- the last part of a path is the name of a file
abbrev pub EndsInName : Text → Type 0
EndsInName path = is_file_name (last_part path) ≡ true

-- it is told that a file was not read, or that memory was lacking for that
abbrev pub IsToldUnread : Result Outcome CommandFault → Type 0
IsToldUnread outcome = (outcome ≡ Err Input) ⊎ (outcome ≡ Err Memory)

-- it is told what became of a copy
abbrev pub IsToldCopy : Result Copied CopyingFault → Result Outcome CommandFault → Type 0
IsToldCopy (Ok copied) outcome = outcome ≡ Ok (CopyEnded (Whole copied))
IsToldCopy (Err NoneToCopy) outcome = IsToldUnread outcome
IsToldCopy (Err NotAccepted) outcome = outcome ≡ Ok (CopyEnded Refused)
IsToldCopy (Err NoKey) outcome = outcome ≡ Ok (CopyEnded HasNoKey)
IsToldCopy (Err IsThere) outcome = outcome ≡ Ok (CopyEnded NewIsThere)
IsToldCopy (Err (Reading Damage)) outcome = outcome ≡ Ok (CopyEnded Damaged)
IsToldCopy (Err (Reading fault)) outcome = IsToldUnread outcome
IsToldCopy (Err (Writing Full)) outcome = outcome ≡ Ok (CopyEnded NewIsFull)
IsToldCopy (Err (Writing NoMemory)) outcome = outcome ≡ Err Memory
IsToldCopy (Err (Writing fault)) outcome = outcome ≡ Err Output

-- A copy was begun, behind what was asked before: it was told that what stands before the last part of the
-- path of the new file is a folder; since then the system was asked of files of that folder alone, and
-- another one was asked to read; the file was copied so, and it is told what became of that.
pub record BeginsCopy (base : List Call) (file new : Text) (key pages : ℕ) (disk : Unseen) (made : CallsMade)
    (outcome : Result Outcome CommandFault) : Type 0 where
  pub is_name : EndsInName new
  pub before : made.before ≡ folder_behind (folder_of new) [] base
  pub reading : AreReading made.beside
  pub within : StaysWithin made.system
  pub result : Result Copied CopyingFault
  pub copies : CopiesPath disk (copy_paths file (folder_of new) (last_part new) key pages) made.beside
      made.system result
  pub told : IsToldCopy result outcome

-- none was: the path of the new file ends in no name of a file, and nothing was asked; or its folder was not
-- told to be one, or memory was lacking
pub record BeginsNoCopy (old : SystemState) (new : Text) (made : CallsMade) (outcome : Result Outcome CommandFault)
    : Type 0 where
  pub none_aside : made.before ≡ []
  pub none_beside : made.beside ≡ []
  pub reads : ByReads (λ _. ⊤) old made.system
  pub fault : CommandFault
  pub told : outcome ≡ Err fault
  pub cause : (status_of fault ≡ 4) ⊎ ((fault ≡ NoFileName) × (EndsInName new → ⊥))

-- one of these
abbrev pub ComesOfCopy : (old : SystemState) → Unseen → CallsMade → Copying → Result Outcome CommandFault → Type 0
ComesOfCopy old disk made asks outcome = BeginsNoCopy old asks.new.now made outcome
    ⊎ BeginsCopy old.calls asks.file.now asks.new.now asks.key asks.limits.pages disk made outcome
