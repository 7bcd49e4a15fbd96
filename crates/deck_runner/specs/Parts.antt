-- The parts of a run: what each asks for, and what it leaves. All of this is ours.
use Rattle.std.specs.Prelude.{◌≤◌, ◌<◌, ℕ, List, [], ◌∷◌, All, length, Option, Result, IfOk, OnErr}
use Rattle.streams.specs.declared.output.Refused.{Refused}
use Rattle.indexed_file.specs.Shown.{Shown}
use Rattle.io_state.specs.declared.statement.FileStatement.{FileStatement}
use Rattle.deck_reader.specs.declared.statement.Statement.{Statement}
use Rattle.deck_reader.specs.declared.statement.Statement.TheVariants.{Perform}
use Rattle.deck_runner.specs.declared.run_end.RunEnd.{RunEnd}
use Rattle.deck_runner.specs.declared.running_deck.RunningDeck.{RunningDeck}
use Rattle.deck_runner.specs.Line.{Line}
use Rattle.deck_runner.specs.Steps.{until_stop}
use Rattle.deck_runner.specs.Stretches.{Point, IsStretch, AreStretches, AreStretchesInPart, ClosesAt}
use Rattle.deck_runner.specs.Stretches.{ClosesAtInPart, ClosesFiles, ClosesInPart, IsRunOver, IsBrokenOff}
use Rattle.deck_runner.specs.Conditions.{CanPerform, IsStatementIn}
use Rattle.deck_runner.specs.State.{State, state, IsSafeIn, GoesOn, Leads}
use Rattle.deck_runner.specs.RunEnd.{TellsLines, ToldInPart}
use Rattle.deck_runner.specs.HeldLines.{so_far, Come, ComeInPart}

-- a statement on the file of a place; any statement; the statements up to STOP RUN; the close of the
-- file of a place, if it is still open; and the closes of all files that are still open
pub data RunPart : Type 0 where
  VerbOn : (u : ℕ) → (statement : FileStatement) → RunPart
  Single : (statement : Statement) → RunPart
  UpToStop : (statements : List Statement) → RunPart
  CloseOf : (u : ℕ) → RunPart
  AllCloses : RunPart

-- ---- what it asks for

-- the deck has the files and items of its statements, and its file has the place that is closed
abbrev pub IsPartIn : RunningDeck → RunPart → Type 0
IsPartIn deck (VerbOn u statement) = CanPerform deck u statement
IsPartIn deck (Single statement) = IsStatementIn deck statement
IsPartIn deck (UpToStop statements) = All (IsStatementIn deck) statements
IsPartIn deck (CloseOf u) = u < length deck.files.items
IsPartIn deck AllCloses = Unit {0}

-- what a run needs of a library that is not to be believed, and of the deck
pub record CanRun {S : Type 0} (library : Shown S) (part : RunPart) (s : State S) : Type 0 where
  pub safe : IsSafeIn library s
  pub part_is : IsPartIn s.deck part

-- ---- what it leaves

-- its steps, where it came to its end
abbrev pub StepsOf : {S : Type 0} → Shown S → RunPart → Point S → List Line → Point S → Type 0
StepsOf library (VerbOn u statement) = IsStretch library (Perform u statement)
StepsOf library (Single statement) = IsStretch library statement
StepsOf library (UpToStop statements) = AreStretches library (until_stop statements)
StepsOf library (CloseOf u) = ClosesAt library u
StepsOf library AllCloses = ClosesFiles library

-- and where it was broken off
abbrev pub StepsBefore : {S : Type 0} → Shown S → RunPart → Point S → List Line → Point S → Type 0
StepsBefore library (VerbOn u statement) = AreStretchesInPart library (Perform u statement ∷ [])
StepsBefore library (Single statement) = AreStretchesInPart library (statement ∷ [])
StepsBefore library (UpToStop statements) = AreStretchesInPart library (until_stop statements)
StepsBefore library (CloseOf u) = ClosesAtInPart library u
StepsBefore library AllCloses = ClosesInPart library

-- the most lines that it has
abbrev pub most_lines : RunningDeck → RunPart → ℕ
most_lines deck (VerbOn u statement) = 1
most_lines deck (Single statement) = 1
most_lines deck (UpToStop statements) = length statements
most_lines deck (CloseOf u) = 1
most_lines deck AllCloses = length deck.files.items

-- a stage of a run: its library and its deck in memory, the text that is held, and the writer
abbrev pub Stage : Type 0 → Type 0 → Type 0
Stage S W = S × RunningDeck × List ℕ × W

-- of writers that have these contents, if they are known, and of a library that shows this
module _ {S W : Type 0} (shown : Shown S) (contents : W → Option (List ℕ)) where
  abbrev pub state_at : Stage S W → State S
  state_at at = state at.0 at.1

  -- the text that is held
  abbrev pub held_at : Stage S W → List ℕ
  held_at at = at.2

  -- what the writer has
  abbrev pub written_at : Stage S W → Option (List ℕ)
  written_at at = contents at.3

  -- a part of a run, from a stage to the one that it leaves. It keeps what every part keeps. Where it
  -- came to its end, lines came that are those of its steps. Where the writer refused one, they are
  -- those of some of its steps
  pub record RunsPart (part : RunPart) (before after : Stage S W) (result : Result RunEnd Refused) : Type 0 where
    pub goes : GoesOn shown (state_at before) (state_at after)
    pub few : IfOk result (λ end. end.lines ≤ most_lines before.1 part)
    pub done : IfOk result (λ end. Come (so_far (written_at before) (held_at before))
        (so_far (written_at after) (held_at after))
        end (Leads shown (state_at before) (state_at after) (StepsOf shown part)))
    pub refused : OnErr result (ComeInPart (so_far (written_at before) (held_at before)) (written_at after)
        (Leads shown (state_at before) (state_at after) (StepsBefore shown part)))

  -- a whole run, which begins with no text held: the text of its lines was written, or of some of
  -- them, and then a proper front of one
  pub record RunsAll (statements : List Statement) (before after : Stage S W)
      (result : Result RunEnd Refused) : Type 0 where
    pub goes : GoesOn shown (state_at before) (state_at after)
    pub done : IfOk result (λ end. TellsLines (written_at before) (written_at after) end
        (Leads shown (state_at before) (state_at after) (IsRunOver shown statements)))
    pub refused : OnErr result (ToldInPart (written_at before) (written_at after)
        (Leads shown (state_at before) (state_at after) (IsBrokenOff shown statements)))
