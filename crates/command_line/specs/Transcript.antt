-- What a run of a deck over a folder writes and leaves, by what the folder was asked and answered.
use Rattle.std.specs.Prelude.{◌≡◌, ◌≢◌, ℕ, List, Option, ⊤}
use Rattle.folder_shelf.specs.SystemState.{SystemState}
use Rattle.std.specs.NonZero.{non_zero_usize_get}
use Rattle.folder_shelf.specs.FailedCalls.{failed_calls}
use Rattle.folder_shelf.specs.Replay.{Unseen}
use Rattle.deck_parser.specs.declared.fault.DeckFault.{DeckFault}
use Rattle.deck_runner.specs.DeckRun.{IsNoDeck}
use Rattle.deck_runner.specs.RunEnd.{TellsLines, ToldInPart}
use Rattle.deck_runner.specs.declared.run_end.RunEnd.{RunEnd}
use Rattle.shelf_run.specs.ShelfRun.{OnShelf, Runs, BreaksOff, LeavesFiles}
use Rattle.command_words.specs.declared.limits.Limits.{Limits}
use Rattle.command_line.specs.Folder.{OverFolder}
use Rattle.command_support.specs.declared.fault.CommandFault.{CommandFault}
use Rattle.command_support.specs.declared.fault.CommandFault.TheVariants.{Deck, Output, Memory}

-- the transcript of the deck was written, up to this end
abbrev pub TellsRun : {W : Type 0} → Unseen → (path : List ℕ) → SystemState → (bytes : List ℕ)
    → Limits → (W → Option (List ℕ)) → (old new : W) → RunEnd → Type 0
TellsRun disk path system bytes limits contents old new end = OverFolder disk path system (λ first last.
    OnShelf bytes first last (λ deck. TellsLines (contents old) (contents new) end (Runs limits.pages
    (non_zero_usize_get limits.frames) first last 0 (failed_calls system.calls) deck)))

-- where the writer refused a line, lines of it were written, up to that one
abbrev pub TellsPart : {W : Type 0} → Unseen → (path : List ℕ) → SystemState → (bytes : List ℕ)
    → Limits → (W → Option (List ℕ)) → (old new : W) → CommandFault → Type 0
TellsPart disk path system bytes limits contents old new fault =
    fault ≡ Output → OverFolder disk path system (λ first last.
    OnShelf bytes first last (λ deck. ToldInPart (contents old) (contents new) (BreaksOff limits.pages
    (non_zero_usize_get limits.frames) first last 0 (failed_calls system.calls) deck)))

-- at any other fault nothing was written, and no file was changed
abbrev pub LeavesAll : {W : Type 0} → Unseen → (path : List ℕ) → SystemState → (old new : W)
    → CommandFault → Type 0
LeavesAll disk path system old new fault =
    fault ≢ Output → (new ≡ old) × OverFolder disk path system LeavesFiles

-- a deck that is refused is none, for this fault
abbrev pub TellsNoDeck : (bytes : List ℕ) → CommandFault → Type 0
TellsNoDeck bytes fault = (told : DeckFault) → fault ≡ Deck told → IsNoDeck bytes told

-- why a run came to no end
abbrev pub IsRunFault : CommandFault → Type 0
IsRunFault (Deck fault) = ⊤
IsRunFault Output = ⊤
IsRunFault Memory = ⊤
IsRunFault fault = ⊥
