-- What became of words that ask for a session. All of this is ours.
use Rattle.std.specs.Prelude.{◌≡◌, ◌⊎◌, ℕ, Bool, List, [], ◌∷◌, Option, Result, Ok, Err}
use Rattle.clap.specs.Words.{Text}
use Rattle.page_store.specs.declared.shelf.Shelf.{Ghosts}
use Rattle.folder_shelf.specs.Calls.{Call, entered}
use Rattle.folder_shelf.specs.SystemState.{SystemState}
use Rattle.folder_shelf.specs.Replay.{Unseen}
use Rattle.folder_shelf.specs.Within.{StaysWithin}
use Rattle.io_state.specs.declared.status.Status.{Status}
use Rattle.indexed_file.specs.Shown.{Shown}
use Rattle.streams.specs.declared.standard_input.StandardInput.{StandardInput}
use Rattle.command_words.specs.Asks.{AskServe}
use Rattle.command_words.specs.declared.limits.Limits.{Limits}
use Rattle.serve.specs.Serving.{Exchange, Streams}
use Rattle.command_line.specs.CallsMade.{CallsMade, BeginsNothing, calls_made, folder_behind, streams_first}
use Rattle.command_line.specs.Devices.{Devices}
use Rattle.command_line.specs.Session.{shown_over, keeps_over, IsNewOver, IsLeftIn, IsExactOver, streams_of}
use Rattle.command_line.specs.Session.{ServedOver}
use Rattle.command_line.specs.declared.done.Done.{Done}
use Rattle.command_line.specs.declared.session.ServedEnd.{ServedEnd}
use Rattle.command_support.specs.declared.fault.CommandFault.{CommandFault}
use Rattle.command_support.specs.declared.fault.CommandFault.TheVariants.{Memory}
use Rattle.command_support.specs.declared.outcome.Outcome.{Outcome}
use Rattle.command_support.specs.declared.outcome.Outcome.TheVariants.{Served}

-- how a session ended, as what was done
abbrev pub outcome_of_end : Result Unit CommandFault → Result Outcome CommandFault
outcome_of_end (Ok _) = Ok Served
outcome_of_end (Err fault) = Err fault

-- memory was wanted before the first request: nothing was read, nothing written, and nothing asked in the
-- folder
pub record EndsUnread (s : Streams) (folder : List ℕ) (system : SystemState) (session : ServedEnd) : Type 0 where
  pub memory : session.requests ≡ Err Memory
  pub unread : s.input_after ≡ s.input
  pub unwritten : s.output_after ≡ s.output
  pub unasked : system.calls ≡ entered folder ∷ []

-- the requests were answered over one library that was new at first, and they and the closes behind
-- them are exact
pub record EndsRequests {S : Type 0} (shown : Shown S) (keeps_open : S → ℕ → Bool) (IsNew IsLeft : S → Type 0)
    (IsExact : List Exchange → List Status → Type 0) (s : Streams) (session : ServedEnd) : Type 0 where
  pub start : S
  pub is_new : IsNew start
  pub served : ServedOver shown keeps_open start s IsLeft session
  pub exact : IsExact served.ends.session.served.exchanges served.ends.session.closes

-- a session was begun, behind what was asked before: it was told that the folder is one, and the session
-- came to this, which is what was done
pub record BeginsSession {X : Type 0} (base : List Call) (shelf : Ghosts X) (keeps_open : X → ℕ → Bool)
    (disk : Unseen) (made : CallsMade) (folder : List ℕ) (pages frames : ℕ) (s : Streams) (unclosed : ℕ)
    (outcome : Result Outcome CommandFault) : Type 0 where
  pub before : made.before ≡ folder_behind folder [] base
  pub within : StaysWithin made.system
  pub session : ServedEnd
  pub came : EndsUnread s folder made.system session
      ⊎ EndsRequests (shown_over shelf) (keeps_over shelf keeps_open) (IsNewOver shelf disk folder pages frames)
      (IsLeftIn shelf disk made.system) (IsExactOver disk folder made.system) s session
  pub unclosed_are : unclosed ≡ session.unclosed
  pub told : outcome ≡ outcome_of_end session.requests

-- a session was begun so; or none was, and nothing was read of the input
abbrev pub ComesOfSession : {X I W : Type 0} → (old : SystemState) → (shelf : Ghosts X) → (X → ℕ → Bool)
    → Unseen → CallsMade → (folder : List ℕ) → Limits → (I → Option (List ℕ)) → (W → Option (List ℕ))
    → (input input_after : StandardInput I) → (out out_after : W) → (unclosed : ℕ)
    → Result Outcome CommandFault → Type 0
ComesOfSession old shelf keeps_open disk made folder limits left contents input input_after out out_after
    unclosed outcome =
    (BeginsNothing old made out out_after outcome × (input_after ≡ input))
    ⊎ BeginsSession old.calls shelf keeps_open disk made folder limits.pages limits.frames.value
    (streams_of left contents input input_after out out_after) unclosed outcome

-- the words ask for a session, and this one was begun, over the folder that they name, with their limit of
-- pages and number of frames
pub record ServedAsAsked {X : Type 0} (shelf : Ghosts X) (keeps_open : X → ℕ → Bool) (words : List Text)
    (disk : Unseen) (made : CallsMade) (s : Streams) (unclosed : ℕ) (outcome : Result Outcome CommandFault) : Type 0 where
  pub folder : Text
  pub pages : ℕ
  pub frames : ℕ
  pub asks : AskServe words folder pages frames
  pub session : BeginsSession streams_first shelf keeps_open disk made folder pages frames s unclosed outcome

-- so over devices
abbrev pub ComesOfSessionOver : {S X I W : Type 0} → Devices S X I W → (system : S) → (aside : List Call) → S × Done
    → (folder : List ℕ) → Limits → (input input_after : StandardInput I) → (out out_after : W) → Type 0
ComesOfSessionOver over system aside result folder limits input input_after out out_after =
    ComesOfSession (over.state system) over.shelf over.keeps_open over.disk
    (calls_made aside (over.state result.0)) folder limits over.left over.contents input input_after out out_after
    result.1.unclosed result.1.outcome
