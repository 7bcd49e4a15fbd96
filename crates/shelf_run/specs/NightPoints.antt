-- A run that goes through a point, where its shelf was so. All of this is ours.
use Rattle.std.specs.Prelude.{◌≡◌, ◌⊎◌, List, [], ◌++◌, flat_map, All, IsTrue}
use Rattle.std.specs.Io.KnownBytes.{Appends}
use Rattle.page_store.specs.ShelfState.{ShelfState}
use Rattle.file_control.specs.Description.{file_names}
use Rattle.deck_reader.specs.declared.statement.Statement.{Statement}
use Rattle.deck_reader.specs.declared.deck.Deck.{Deck}
use Rattle.deck_reader.specs.Deck.{IsDeck}
use Rattle.deck_runner.specs.Line.{Line, transcript_line}
use Rattle.deck_runner.specs.NoFalseFile.{Judged, IsSafeStretch, DeckRuns}
use Rattle.deck_runner.specs.RunEnd.{TellsLines, end_of}
use Rattle.deck_runner.specs.declared.run_end.RunEnd.{RunEnd}
use Rattle.deck_runner.specs.Steps.{AreStepsOf, until_stop, closes_from}
use Rattle.shelf_library.specs.State.{LibraryState}
use Rattle.shelf_run.specs.AnyNights.{AnyNight}
use Rattle.shelf_library.specs.Crashes.{IsSoundImage}
use Rattle.shelf_run.specs.Files.{reads_of}
use Rattle.shelf_run.specs.ShelfRun.{OnShelf, RunsBy, Runs, shown_of_state}

-- steps lead to a point, with these lines, and on from there, with those
abbrev pub GoThrough : {X : Type 0} → (Statement → X → List Line → X → Type 0) → List Statement → X
    → List Line → X → List Line → X → Type 0
GoThrough IsOne statements run seen point later next =
    (done : List Statement) × (rest : List Statement) × (statements ≡ done ++ rest)
    × AreStepsOf IsOne done run seen point × AreStepsOf IsOne rest point later next

-- so does a whole run: the point stands before STOP RUN, or among the closes
abbrev pub RunGoesThrough : {X : Type 0} → (Statement → X → List Line → X → Type 0) → (X → List Statement)
    → List Statement → X → List Line → X → List Line → X → Type 0
RunGoesThrough {X} IsOne closes statements run seen point later next =
    ((stopped : X) × (first : List Line) × (others : List Line)
    × GoThrough IsOne (until_stop statements) run seen point first stopped
    × AreStepsOf IsOne (closes stopped) stopped others next × (later ≡ first ++ others))
    ⊎ ((stopped : X) × (first : List Line) × (others : List Line)
    × AreStepsOf IsOne (until_stop statements) run first stopped
    × GoThrough IsOne (closes stopped) stopped others point later next × (seen ≡ first ++ others))

-- a whole run of the deck, as the promise of a run has it, that has had these lines where the shelf was so
abbrev pub RunsThrough : List Line → ShelfState → LibraryState → LibraryState → Deck → List Line → Type 0
RunsThrough seen shelf old new deck = DeckRuns shown_of_state old new deck (λ before lines after.
    (point : Judged LibraryState) × (later : List Line) × (point.point.library.shelf ≡ shelf)
    × (lines ≡ seen ++ later)
    × RunGoesThrough (IsSafeStretch shown_of_state old) (λ judged.
    closes_from 0 judged.point.run.files) deck.statements before seen point later after)

-- the run of a night came to its end, or would have come there, and went through this point
abbrev pub HasEndedThrough : AnyNight → List Line → ShelfState → Type 0
HasEndedThrough night seen shelf = (end : RunEnd)
    × OnShelf night.bytes night.old night.new (λ deck. TellsLines night.written night.written_after end
    (RunsBy (RunsThrough seen shelf) night.limit night.frames night.old night.new night.faults
    night.faults_after deck))

-- ---- the law

-- the run of a night came to its end with these lines
abbrev pub HasEndedWith : AnyNight → List Line → Type 0
HasEndedWith night lines = (end : RunEnd) × OnShelf night.bytes night.old night.new (λ deck.
    Appends night.written night.written_after (flat_map transcript_line lines) × (end ≡ end_of lines)
    × Runs night.limit night.frames night.old night.new night.faults night.faults_after deck lines)

-- the law: a run that came to its end has gone through a point behind each front of its lines,
-- where what reads gave of its files was sound
abbrev pub NightsGoThrough : Type 0
NightsGoThrough =
    (night : AnyNight) (seen later : List Line) → HasEndedWith night (seen ++ later)
    → IsTrue night.new.is_honest → night.old.names ≡ []
    → ((deck : Deck) → IsDeck night.bytes deck → All (λ name. IsSoundImage (reads_of night.old name))
    (file_names deck.files))
    → (shelf : ShelfState) × HasEndedThrough night seen shelf
