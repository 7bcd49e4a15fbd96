-- The library of a session over a folder. All of this is ours.
use Rattle.std.specs.Prelude.{◌≡◌, ◌≢◌, ℕ, Bool, List, [], ◌∷◌, Option, Result, Ok, Err}
use Rattle.std.specs.NonZero.{non_zero_usize_get}
use Rattle.page_store.specs.declared.shelf.Shelf.{Ghosts}
use Rattle.folder_shelf.specs.Calls.{entered}
use Rattle.folder_shelf.specs.SystemState.{SystemState}
use Rattle.folder_shelf.specs.Replay.{Unseen, folder_state}
use Rattle.io_state.specs.declared.status.Status.{Status}
use Rattle.indexed_file.specs.Shown.{Shown}
use Rattle.shelf_library.specs.Library.{shown_by}
use Rattle.shelf_library.specs.State.{LibraryState}
use Rattle.shelf_library.specs.declared.library.ShelfLibrary.{ShelfLibrary}
use Rattle.shelf_run.specs.ShelfRun.{over_shelf}
use Rattle.streams.specs.Source.{source_of}
use Rattle.streams.specs.declared.standard_input.StandardInput.{StandardInput}
use Rattle.shelf_run.specs.SessionOnShelf.{IsExactSessionOn}
use Rattle.serve.specs.Serving.{Exchange, Streams, streams, IsServedToEnd}
use Rattle.serve.specs.declared.end.SessionEnd.{SessionEnd}
use Rattle.serve.specs.declared.fault.ServeFault.{ServeFault}
use Rattle.serve.specs.declared.fault.ServeFault.TheVariants.{Input as NotRead, Output as NotWritten}
use Rattle.serve.specs.declared.fault.ServeFault.TheVariants.{Memory as NoMemory}
use Rattle.command_words.specs.declared.limits.Limits.{Limits}
use Rattle.command_line.specs.Devices.{Devices}
use Rattle.command_line.specs.Folder.{folder_at_first, OverFolder}
use Rattle.command_line.specs.declared.session.ServedEnd.{ServedEnd}
use Rattle.command_support.specs.declared.fault.CommandFault.{CommandFault}
use Rattle.command_support.specs.declared.fault.CommandFault.TheVariants.{Input, Output, Memory}

-- a library, by what its shelf shows
abbrev pub library_state : {X : Type 0} → (shelf : Ghosts X) → ShelfLibrary X shelf → LibraryState
library_state shelf library = over_shelf library.limit (non_zero_usize_get library.frames)
    (shelf.state library.shelf) library.units.items (shelf.fault_count library.shelf)

-- what libraries over such shelves show
abbrev pub shown_over : {X : Type 0} → (shelf : Ghosts X) → Shown (ShelfLibrary X shelf)
shown_over shelf = shown_by (library_state shelf)

-- a library over the folder of this path that was asked nothing yet
abbrev pub IsNewOver : {X : Type 0} → (shelf : Ghosts X) → Unseen → (path : List ℕ)
    → (limit frames : ℕ) → ShelfLibrary X shelf → Type 0
IsNewOver shelf disk path limit frames library =
    library_state shelf library ≡ over_shelf limit frames (folder_at_first disk path) [] 0

-- what the input of a session gave and what its output took, by what they have left and have
abbrev pub streams_of : {I W : Type 0} → (I → Option (List ℕ)) → (W → Option (List ℕ))
    → (input input_after : StandardInput I) → (out out_after : W) → Streams
streams_of left contents input input_after out out_after =
    streams (source_of left input) (source_of left input_after) (contents out) (contents out_after)

-- how the program tells why a session ended
abbrev pub session_told_as : ServeFault → CommandFault
session_told_as NotRead = Input
session_told_as NotWritten = Output
session_told_as NoMemory = Memory

abbrev pub session_end_as : Result Unit ServeFault → Result Unit CommandFault
session_end_as (Ok _) = Ok tt
session_end_as (Err fault) = Err (session_told_as fault)

-- the library lets go of files as its shelf does
abbrev pub keeps_over : {X : Type 0} → (shelf : Ghosts X) → (X → ℕ → Bool) → ShelfLibrary X shelf → ℕ → Bool
keeps_over shelf keeps_open library = keeps_open library.shelf

-- the shelf of this library shows what the folder of the system holds after its calls
abbrev pub IsLeftIn : {X : Type 0} → (shelf : Ghosts X) → Unseen → SystemState → ShelfLibrary X shelf → Type 0
IsLeftIn shelf disk system library = shelf.state library.shelf ≡ folder_state disk system

-- requests were answered over this library, one for the whole session, which left this; and how that
-- ended is told
pub record ServedOver {S : Type 0} (shown : Shown S) (keeps_open : S → ℕ → Bool) (start : S) (s : Streams)
    (IsLeft : S → Type 0) (session : ServedEnd) : Type 0 where
  pub end : SessionEnd S
  pub ends : IsServedToEnd shown keeps_open start s end
  pub left : IsLeft end.library
  pub unclosed : session.unclosed ≡ end.unclosed
  pub told : session.requests ≡ session_end_as end.requests

-- these requests, and the closes behind them, are exact where none of them was answered with a fault:
-- between what the folder of this path held before the first call, and what it holds after the calls
abbrev pub IsExactOver : Unseen → (path : List ℕ) → SystemState → List Exchange → List Status → Type 0
IsExactOver disk path system exchanges closes =
    OverFolder disk path system (λ first last. IsExactSessionOn first last exchanges closes)

-- unless memory was wanted before the first request: requests were answered over a library that is
-- new at first, over the folder of this path, and how that ended is told; the library left what the
-- folder of the system holds, and the session is exact over the folder
abbrev pub ServedAt : {X I W : Type 0} → (shelf : Ghosts X) → (X → ℕ → Bool) → Unseen → (path : List ℕ) → Limits
    → (I → Option (List ℕ)) → (W → Option (List ℕ)) → (input input_after : StandardInput I)
    → (out out_after : W) → SystemState → ServedEnd → Type 0
ServedAt {X} shelf keeps_open disk path limits left contents input input_after out out_after system session =
    session.requests ≢ Err Memory → (start : ShelfLibrary X shelf)
    × IsNewOver shelf disk path limits.pages (non_zero_usize_get limits.frames) start
    × (served : ServedOver (shown_over shelf) (keeps_over shelf keeps_open) start
    (streams_of left contents input input_after out out_after) (IsLeftIn shelf disk system) session)
    × IsExactOver disk path system served.ends.session.served.exchanges served.ends.session.closes

-- so over devices
abbrev pub ServedAtOver : {S X I W : Type 0} → Devices S X I W → (path : List ℕ) → Limits
    → (input input_after : StandardInput I) → (out out_after : W) → S × ServedEnd → Type 0
ServedAtOver over path limits input input_after out out_after result = ServedAt over.shelf over.keeps_open over.disk
    path limits over.left over.contents input input_after out out_after (over.state result.0) result.1

-- where memory was wanted before the first request, nothing was read or written, and nothing was asked in the
-- folder but to enter it
abbrev pub EndsWithoutMemory : {I W : Type 0} → (folder : List ℕ) → (input input_after : StandardInput I)
    → (out out_after : W) → SystemState → ServedEnd → Type 0
EndsWithoutMemory folder input input_after out out_after system session = session.requests ≡ Err Memory
    → (input_after ≡ input) × (out_after ≡ out) × (system.calls ≡ entered folder ∷ [])
