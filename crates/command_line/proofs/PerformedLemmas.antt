-- What a run of a deck came to, by what is told of it.
use Rattle.std.proofs.Common.{◌≡◌, ◌≢◌, ℕ, true, List, Option, Result, Ok, Err, IfOk, IfErr, sym, ap, subst}
use Rattle.folder_shelf.specs.SystemState.{SystemState}
use Rattle.folder_shelf.specs.FailedCalls.{failed_calls}
use Rattle.folder_shelf.specs.Replay.{Unseen}
use Rattle.deck_parser.specs.declared.fault.DeckFault.{DeckFault}
use Rattle.deck_runner.specs.DeckRun.{IsNoDeck}
use Rattle.deck_runner.specs.RunEnd.{TellsLines, ToldInPart}
use Rattle.deck_runner.specs.declared.fault.RunFault.{RunFault}
use Rattle.deck_runner.specs.declared.fault.RunFault.TheVariants.{Deck as DeckRefused, Output as LineRefused, Memory as NoMemory}
use Rattle.deck_runner.specs.declared.run_end.RunEnd.{RunEnd}
use Rattle.shelf_run.specs.ShelfRun.{OnShelf, Runs, BreaksOff, LeavesFiles, StaysSound}
use Rattle.shelf_run.specs.ExactRun.{IsExactRun}
use Rattle.command_line.specs.Folder.{OverFolder}
use Rattle.command_line.specs.Performed.{Begun, Written, CameTo, begun, outcome_of, IsRunOutcome}
use Rattle.command_line.specs.Transcript.{IsRunFault}
use Rattle.command_support.specs.Status.{status_of}
use Rattle.command_support.specs.Told.{told_as}
use Rattle.command_support.specs.declared.fault.CommandFault.{CommandFault}
use Rattle.command_support.specs.declared.fault.CommandFault.TheVariants.{Deck, Output}
use Rattle.command_support.specs.declared.outcome.Outcome.{Outcome}

-- what a run is told as
pub run_fault : (fault : RunFault) → IsRunFault (told_as fault)
run_fault (DeckRefused fault) = tt
run_fault LineRefused = tt
run_fault NoMemory = tt

pub run_outcome : (end : Result RunEnd CommandFault) → IfErr end IsRunFault → IsRunOutcome (outcome_of end)
run_outcome (Ok e) fault = tt
run_outcome (Err f) fault = fault

module _ (folder : List ℕ) (limit frames : ℕ) (disk : Unseen) (system : SystemState) (bytes : List ℕ) (before behind : Option (List ℕ)) where
  abbrev run : Begun
  run = begun disk bytes system

  abbrev out : Written
  out = record { before = before; behind = behind }

  pub came_to : (end : Result RunEnd CommandFault)
      → IfOk end (λ e. e.clean ≡ true → OverFolder disk folder system (λ first last. IsExactRun bytes first last before behind e))
      → IfOk end (λ e. OverFolder disk folder system (λ first last. OnShelf bytes first last (λ deck. TellsLines before behind e (Runs limit frames first last 0 (failed_calls system.calls) deck))))
      → IfErr end (λ fault. fault ≡ Output → OverFolder disk folder system (λ first last. OnShelf bytes first last (λ deck. ToldInPart before behind (BreaksOff limit frames first last 0 (failed_calls system.calls) deck))))
      → IfErr end (λ fault. fault ≢ Output → (behind ≡ before) × OverFolder disk folder system LeavesFiles)
      → IfErr end (λ fault. (told : DeckFault) → fault ≡ Deck told → IsNoDeck bytes told)
      → OverFolder disk folder system StaysSound
      → CameTo folder limit frames run out (outcome_of end)
  came_to (Ok e) exact whole part nothing refused sound = record {
    exact = λ end is clean. let same : e ≡ end = cc in subst (λ (x : RunEnd). x.clean ≡ true → OverFolder disk folder system (λ first last. IsExactRun bytes first last before behind x)) same exact clean;
    whole = λ end is. let same : e ≡ end = cc in
        subst (λ (x : RunEnd). OverFolder disk folder system (λ first last. OnShelf bytes first last (λ deck. TellsLines before behind x (Runs limit frames first last 0 (failed_calls system.calls) deck)))) same whole;
    part = λ is. absurd (cc);
    nothing = λ fault is other. absurd (cc);
    refused = λ told is. absurd (cc);
    sound = sound;
  }
  came_to (Err f) exact whole part nothing refused sound = record {
    exact = λ end is clean. absurd (cc);
    whole = λ end is. absurd (cc);
    part = λ is. let same : f ≡ Output = cc in part same;
    nothing = λ fault is other. let same : f ≡ fault = cc in nothing (subst (λ (x : CommandFault). x ≢ Output) (sym same) other);
    refused = λ told is. let same : f ≡ Deck told = cc in refused told same;
    sound = sound;
  }

-- what is so of a run that failed otherwise than by its output is so where the status is not 4
pub unwritten : (A : Type 0) (end : Result RunEnd CommandFault) (outcome : Result Outcome CommandFault) → outcome ≡ outcome_of end → IfErr end (λ fault. fault ≢ Output → A)
    → IfErr outcome (λ fault. status_of fault ≢ 4 → A)
unwritten A (Ok e) outcome is known = subst (λ (o : Result Outcome CommandFault). IfErr o (λ fault. status_of fault ≢ 4 → A)) (sym is) tt
unwritten A (Err f) outcome is known =
    subst (λ (o : Result Outcome CommandFault). IfErr o (λ fault. status_of fault ≢ 4 → A)) (sym is) (λ other. known (λ same. other (ap status_of same)))
