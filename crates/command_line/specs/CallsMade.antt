-- What the system was asked for the words of a command line. All of this is ours.
use Rattle.std.specs.Prelude.{◌≡◌, ◌⊎◌, ℕ, true, false, List, [], ◌∷◌, ◌++◌, Some, Result, Err, ⊤}
use Rattle.folder_shelf.specs.Calls.{Call, asked_of_folder, streams_held}
use Rattle.folder_shelf.specs.Reading.{ByReads}
use Rattle.folder_shelf.specs.SystemState.{SystemState}
use Rattle.command_support.specs.declared.fault.CommandFault.{CommandFault}
use Rattle.command_support.specs.declared.outcome.Outcome.{Outcome}

-- the calls that were set aside when a folder was entered, or before a file was read page after page, the
-- newest in front; the system, with the calls since; and those by which another system read a file that is
-- copied
pub record CallsMade : Type 0 where
  pub before : List Call
  pub system : SystemState
  pub beside : List Call

-- the same, by its parts
abbrev pub calls_beside : List Call → SystemState → List Call → CallsMade
calls_beside before system beside = record { before = before; system = system; beside = beside }

-- so, and the other system was asked nothing
abbrev pub calls_made : List Call → SystemState → CallsMade
calls_made before system = calls_beside before system []

-- all of them that one system was asked, the newest in front
abbrev pub all_calls : CallsMade → List Call
all_calls made = made.system.calls ++ made.before

-- it was told that a path is that of a folder, after these reads and what was asked before them
abbrev pub folder_behind : (folder : List ℕ) → (reads base : List Call) → List Call
folder_behind folder reads base = asked_of_folder folder (Some true) ∷ (reads ++ base)

-- what is asked first: that the numbers of those standard streams that are closed are taken
abbrev pub streams_first : List Call
streams_first = streams_held true ∷ []

-- behind that these calls were made; or none was, since it failed, or the words are refused
abbrev pub BeginsWithStreams : (calls reads : List Call) → Type 0
BeginsWithStreams calls reads = (calls ≡ reads ++ streams_first)
    ⊎ ((reads ≡ []) × ((calls ≡ streams_held false ∷ []) ⊎ (calls ≡ [])))

-- a fault came before a folder was entered: only reads were made, and nothing was written
pub record BeginsNothing {W : Type 0} (old : SystemState) (made : CallsMade) (out out_after : W)
    (outcome : Result Outcome CommandFault) : Type 0 where
  pub none_aside : made.before ≡ []
  pub reads : ByReads (λ _. ⊤) old made.system
  pub unwritten : out_after ≡ out
  pub fault : CommandFault
  pub told : outcome ≡ Err fault
