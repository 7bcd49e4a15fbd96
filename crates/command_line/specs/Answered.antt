-- What the program answers to the words of its command line. All of this is ours.
use Rattle.std.specs.Prelude.{◌≡◌, ◌⊎◌, ℕ, nat_lt, Bool, true, false, ◌&&◌, if◌then◌else◌, List, []}
use Rattle.std.specs.Prelude.{Option, Some, None, Result, Ok}
use Rattle.clap.specs.Words.{Text}
use Rattle.page_store.specs.declared.shelf.Shelf.{Ghosts}
use Rattle.folder_shelf.specs.Calls.{Call}
use Rattle.folder_shelf.specs.Replay.{Unseen}
use Rattle.streams.specs.declared.standard_input.StandardInput.{StandardInput}
use Rattle.streams.specs.LineEnds.{has_failed_line}
use Rattle.streams.specs.Writes.{taken_by}
use Rattle.streams.specs.declared.standard_output.StandardOutput.{StandardOutput}
use Rattle.command_line.specs.AskedSession.{ServedAsAsked}
use Rattle.command_words.specs.Asks.{Ask}
use Rattle.command_words.specs.declared.request.Request.{Request}
use Rattle.command_line.specs.CallsMade.{CallsMade, calls_beside, calls_made, streams_first}
use Rattle.command_line.specs.Copied.{AskForCopy, BeginsCopy}
use Rattle.command_line.specs.Devices.{Devices}
use Rattle.command_line.specs.Loaded.{BeginsLoadOfDeck, options_of}
use Rattle.command_line.specs.Performed.{wrote, Did, RanAsAsked, AskForLoad}
use Rattle.command_line.specs.Right.{ReadsAlone}
use Rattle.command_line.specs.Session.{streams_of}
use Rattle.command_line.specs.declared.done.Done.{Done}
use Rattle.command_line.specs.declared.done.Ran.{Ran}
use Rattle.command_support.specs.Status.{exit_status}
use Rattle.command_support.specs.declared.fault.CommandFault.{CommandFault}
use Rattle.command_support.specs.declared.outcome.Outcome.{Outcome}
use Rattle.command_support.specs.declared.outcome.Outcome.TheVariants.{Ended, Served}

-- whether a run ended
abbrev pub is_ended : Result Outcome CommandFault → Bool
is_ended (Ok (Ended end)) = true
is_ended outcome = false

-- whether the requests of a session ended with its input
abbrev pub is_served : Result Outcome CommandFault → Bool
is_served (Ok Served) = true
is_served outcome = false

-- the exit status of an outcome; but of a strict run that ended, 1 where the bytes that were written
-- have a line that ends in 24, 30, 90, 91 or 92, and of a session that ended with its input, 4 where a
-- close at its end failed
abbrev pub status_heeding : (strict : Bool) → (unclosed : ℕ) → List ℕ → Result Outcome CommandFault → ℕ
status_heeding strict unclosed bytes outcome =
    if strict && is_ended outcome && has_failed_line bytes then 1
    else (if is_served outcome && nat_lt 0 unclosed then 4 else exit_status outcome)

-- what standard output took, as its writes were answered
abbrev pub taken : {W : Type 0} → StandardOutput W → Option (List ℕ)
taken out = Some (taken_by out.calls.writes)

-- whether a run that was begun is strict
abbrev pub is_strict : Option Ran → Bool
is_strict (Some ran) = ran.strict
is_strict None = false

-- the words ask for a load, and this one was begun
abbrev pub LoadedAsAsked : (words : List Text) → (input : Option (List ℕ)) → Unseen → CallsMade
    → (before behind : Option (List ℕ)) → Result Outcome CommandFault → Type 0
LoadedAsAsked words input disk made before behind outcome = (load : AskForLoad words)
    × BeginsLoadOfDeck streams_first input load.deck load.folder load.file load.text load.form
    load.encoding load.into (options_of load.lines) disk made before behind outcome

-- the words ask for a copy, and this one was begun
abbrev pub CopiedAsAsked : (words : List Text) → Unseen → CallsMade → Result Outcome CommandFault → Type 0
CopiedAsAsked words disk made outcome = (copy : AskForCopy words)
    × BeginsCopy streams_first copy.file copy.new copy.key copy.pages disk made outcome

-- for the words the program came to this, by these calls of one system: no folder was entered, and only reads
-- were made; or the run, the session or the load was begun that the words ask for
abbrev pub CameAlone : {X I W : Type 0} → (shelf : Ghosts X) → (X → ℕ → Bool) → Unseen
    → (words : List Text) → CallsMade → (I → Option (List ℕ)) → (W → Option (List ℕ))
    → (input input_after : StandardInput I) → (out out_after : W) → Done → Type 0
CameAlone shelf keeps_open disk words made left contents input input_after out out_after done =
    ReadsAlone disk words (left input.reader) made contents out out_after done.outcome
    ⊎ ((ran : Ran) × (done.ran ≡ Some ran) × RanAsAsked words (left input.reader)
    disk made (wrote contents out out_after) ran.strict done.outcome)
    ⊎ ServedAsAsked shelf keeps_open words disk made
    (streams_of left contents input input_after out out_after) done.unclosed done.outcome
    ⊎ LoadedAsAsked words (left input.reader) disk made (contents out)
    (contents out_after) done.outcome

-- so, and no other system was asked anything; or the copy was begun that the words ask for, and nothing was
-- written to the output
abbrev pub CameFor : {X I W : Type 0} → (shelf : Ghosts X) → (X → ℕ → Bool) → Unseen
    → (words : List Text) → CallsMade → (I → Option (List ℕ)) → (W → Option (List ℕ))
    → (input input_after : StandardInput I) → (out out_after : W) → Done → Type 0
CameFor shelf keeps_open disk words made left contents input input_after out out_after done =
    ((made.beside ≡ [])
    × CameAlone shelf keeps_open disk words made left contents input input_after out out_after done)
    ⊎ ((out_after ≡ out) × CopiedAsAsked words disk made done.outcome)

-- the exit status is that of an outcome, by the lines that were written where the run is strict, and by the
-- closes at the end of a session; for the words it came to that outcome, by these calls
pub record AnswersWords
    {X I W : Type 0} (shelf : Ghosts X) (keeps_open : X → ℕ → Bool) (disk : Unseen)
    (words : List Text) (made : CallsMade) (left : I → Option (List ℕ))
    (input input_after : StandardInput I) (out out_after : StandardOutput W) (status : ℕ) : Type 0 where
  pub done : Done
  pub status_is : status
      ≡ status_heeding (is_strict done.ran) done.unclosed (taken_by out_after.calls.writes) done.outcome
  pub did : Did words done.outcome
  pub came : CameFor shelf keeps_open disk words made left taken input input_after out out_after done

-- the program came to this over devices, for words that ask for a request that is no copy
abbrev pub CameAloneOver : {S X I W : Type 0} → Devices S X I W → Request → (aside : List Call) → S × Done
    → (input input_after : StandardInput I) → (out out_after : W) → Type 0
CameAloneOver over request aside result input input_after out out_after = (words : List Text) → Ask words request
    → CameAlone over.shelf over.keeps_open over.disk words (calls_made aside (over.state result.0)) over.left
    over.contents input input_after out out_after result.1

-- so for words, with what the other system was asked
abbrev pub CameForOver : {S X I W : Type 0} → Devices S X I W → (words : List Text) → (aside : List Call)
    → S × S × Done → (input input_after : StandardInput I) → (out out_after : W) → Type 0
CameForOver over words aside result input input_after out out_after = CameFor over.shelf over.keeps_open over.disk
    words (calls_beside aside (over.state result.0) (over.state result.1).calls) over.left over.contents
    input input_after out out_after result.2

-- so for words that ask for a request
abbrev pub CameForRequestOver : {S X I W : Type 0} → Devices S X I W → Request → (aside : List Call) → S × S × Done
    → (input input_after : StandardInput I) → (out out_after : W) → Type 0
CameForRequestOver over request aside result input input_after out out_after =
    (words : List Text) → Ask words request → CameForOver over words aside result input input_after out out_after

-- the exit status and the outcome for words, by the calls of both systems
abbrev pub AnswersWordsOver : {S X I V W : Type 0} → Devices S X I V → (words : List Text) → (aside : List Call)
    → ℕ × S × S → (input input_after : StandardInput I) → (out out_after : StandardOutput W) → Type 0
AnswersWordsOver over words aside result input input_after out out_after = AnswersWords over.shelf over.keeps_open
    over.disk words (calls_beside aside (over.state result.1) (over.state result.2).calls) over.left
    input input_after out out_after result.0
