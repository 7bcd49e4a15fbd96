-- A run over a library, by the states of the library.
use Rattle.std.proofs.Common.{ℕ, List, [], ◌∷◌, slice_get, Option, Some, None, inl, inr, ap}
use Rattle.indexed_file.specs.Images.{Trace, Stays, LibraryMayLeave, LeavesOnly, ImagesGo}
use Rattle.indexed_file.specs.Calls.{Keeps}
use Rattle.indexed_file.specs.World.{Named}
use Rattle.io_state.specs.declared.statement.FileStatement.{FileStatement}
use Rattle.deck_reader.specs.declared.statement.Statement.{Statement}
use Rattle.deck_reader.specs.declared.statement.Statement.TheVariants.{Perform, Move, MoveLength, StopRun}
use Rattle.deck_reader.specs.declared.deck.Deck.{Deck}
use Rattle.deck_runner.specs.ExactRun.{run_before}
use Rattle.deck_runner.specs.Line.{Line}
use Rattle.deck_runner.specs.NoFalseFile.{Judged, first_ledger, IsSafeStretch, IsSafeRun, IsSafeBrokenOff, DeckRuns, RunsWhole, RunsInPart}
use Rattle.deck_runner.specs.Run.{RunFile, Run}
use Rattle.deck_runner.specs.Steps.{AreStepsOf, until_stop, closes_from, AreStepsInPart}
use Rattle.deck_runner.specs.Stretches.{Point, IsStretch, HasCauses, IsCausedOn, ShowsRun, name_by, trace_by}
use Rattle.shelf_library.specs.Library.{shown_by}
use Rattle.shelf_library.specs.State.{LibraryState}
use Rattle.shelf_run.specs.ShelfRun.{shown_of_state}

module _ {S : Type 0} (state : S → LibraryState) where
  abbrev point : Point S → Point LibraryState
  point at = record { run = at.run; library = state at.library }

  abbrev judged : Judged S → Judged LibraryState
  judged at = record { point = point at.point; ledger = at.ledger }

  keeps : (old new : S) → Keeps (shown_by state) old new → Keeps shown_of_state (state old) (state new)
  keeps old new is = record { honest = is.honest; truth = is.truth; count = is.count; limit = is.limit; frames = is.frames }

  shows : (at : Point S) → ShowsRun (shown_by state) at → ShowsRun shown_of_state (point at)
  shows at shown u file e = let is = shown u file e in record { named = is.named; file = is.file }

  pub stays : (old new : S) (name : List ℕ) → Stays (shown_by state).moments old new name → Stays shown_of_state.moments (state old) (state new) name
  stays old new name is = record { within = is.within; back = is.back }

  may_leave : (these : List Named) (old new : S) (name : List ℕ) → LibraryMayLeave (shown_by state).moments these old new name → LibraryMayLeave shown_of_state.moments these (state old) (state new) name
  may_leave [] old new name may = stays old new name may
  may_leave (one ∷ these) old new name may = may

  leaves_only : (only : Option Named) (new : S) (name : List ℕ) → LeavesOnly (shown_by state).moments only new name → LeavesOnly shown_of_state.moments only (state new) name
  leaves_only None new name leaves = tt
  leaves_only (Some only) new name leaves = leaves

  images_go : (name : List ℕ) (trace : Trace) (old new : S) → ImagesGo (shown_by state).moments name trace old new → ImagesGo shown_of_state.moments name trace (state old) (state new)
  images_go name trace old new go = record {
    may = may_leave trace.may old new name go.may;
    only = leaves_only trace.only new name go.only;
    others = λ other apart. stays old new other (go.others other apart);
  }

  caused_on : (u : ℕ) (statement : FileStatement) (file : Option RunFile) (run : Run) (lines : List Line) (before after : S)
      → IsCausedOn (shown_by state) u statement file run lines before after → IsCausedOn shown_of_state u statement file run lines (state before) (state after)
  caused_on u statement None run lines before after caused = tt
  caused_on u statement (Some file) run [] before after caused = tt
  caused_on u statement (Some file) run (line ∷ lines) before after caused = record { cause = caused.cause; room = caused.room; damage = caused.damage }

  causes : (statement : Statement) (run : Run) (lines : List Line) (before after : S)
      → HasCauses (shown_by state) statement run lines before after → HasCauses shown_of_state statement run lines (state before) (state after)
  causes (Perform u statement) run lines before after has = caused_on u statement (slice_get run.files u) run lines before after has
  causes (Move u field source) run lines before after has = tt
  causes (MoveLength i source) run lines before after has = tt
  causes StopRun run lines before after has = tt

  stretch : (statement : Statement) (before : Point S) (lines : List Line) (after : Point S)
      → IsStretch (shown_by state) statement before lines after → IsStretch shown_of_state statement (point before) lines (point after)
  stretch statement before lines after is = record {
    step = is.step;
    shows = shows before is.shows;
    shows_after = shows after is.shows_after;
    keeps = keeps before.library after.library is.keeps;
    causes = causes statement before.run lines before.library after.library is.causes;
    names = is.names;
    images = images_go (name_by ((shown_by state).world before.library) statement) (trace_by statement before.run lines) before.library after.library is.images;
  }

  safe_stretch : (start : S) (statement : Statement) (before : Judged S) (lines : List Line) (after : Judged S)
      → IsSafeStretch (shown_by state) start statement before lines after → IsSafeStretch shown_of_state (state start) statement (judged before) lines (judged after)
  safe_stretch start statement before lines after is = record {
    stretch = stretch statement before.point lines after.point is.stretch;
    stands = is.stands;
    ledger = is.ledger;
  }

  safe_steps : (start : S) (statements : List Statement) (before : Judged S) (lines : List Line) (after : Judged S)
      → AreStepsOf (IsSafeStretch (shown_by state) start) statements before lines after → AreStepsOf (IsSafeStretch shown_of_state (state start)) statements (judged before) lines (judged after)
  safe_steps start [] before lines after are = (are.0, ap judged are.1)
  safe_steps start (statement ∷ rest) before lines after are = (
    are.0,
    judged are.1,
    are.2,
    safe_stretch start statement before are.0 are.1 are.3,
    safe_steps start rest are.1 are.2 after are.4,
    are.5,
  )

  safe_run : (start : S) (statements : List Statement) (before : Judged S) (lines : List Line) (after : Judged S)
      → IsSafeRun (shown_by state) start statements before lines after → IsSafeRun shown_of_state (state start) statements (judged before) lines (judged after)
  safe_run start statements before lines after is = (
    judged is.0,
    is.1,
    is.2,
    safe_steps start (until_stop statements) before is.1 is.0 is.3,
    safe_steps start (closes_from 0 is.0.point.run.files) is.0 is.2 after is.4,
    is.5,
  )

  safe_part : (start : S) (statements : List Statement) (before : Judged S) (lines : List Line) (after : Judged S)
      → AreStepsInPart (IsSafeStretch (shown_by state) start) statements before lines after → AreStepsInPart (IsSafeStretch shown_of_state (state start)) statements (judged before) lines (judged after)
  safe_part start statements before lines after is = (is.0, is.1, is.2, safe_steps start is.0 before lines after is.3)

  safe_broken_off : (start : S) (statements : List Statement) (before : Judged S) (lines : List Line) (after : Judged S)
      → IsSafeBrokenOff (shown_by state) start statements before lines after → IsSafeBrokenOff shown_of_state (state start) statements (judged before) lines (judged after)
  safe_broken_off start statements before lines after (inl part) = inl (safe_part start (until_stop statements) before lines after part)
  safe_broken_off start statements before lines after (inr is) = inr (
    judged is.0,
    is.1,
    is.2,
    safe_steps start (until_stop statements) before is.1 is.0 is.3,
    safe_part start (closes_from 0 is.0.point.run.files) is.0 is.2 after is.4,
    is.5,
  )

  deck_runs : (old new : S) (deck : Deck) (AreSuch : Judged S → List Line → Judged S → Type 0) (AreThese : Judged LibraryState → List Line → Judged LibraryState → Type 0) (lines : List Line)
      → ((before after : Judged S) → AreSuch before lines after → AreThese (judged before) lines (judged after))
      → DeckRuns (shown_by state) old new deck AreSuch lines → DeckRuns shown_of_state (state old) (state new) deck AreThese lines
  deck_runs old new deck AreSuch AreThese lines these runs = record {
    stretches = λ honest truly.
        let is = runs.stretches honest truly in
        let first : Judged S = record { point = record { run = run_before ((shown_by state).world old) deck; library = is.0 }; ledger = λ name. first_ledger } in
        (state is.0, judged is.1, record { keeps = keeps old is.0 is.2.keeps; names = is.2.names; images = λ name. stays old is.0 name (is.2.images name) }, these first is.1 is.3, ap state is.4, is.5, is.6);
    lines_are = runs.lines_are;
  }

  pub runs_whole : (old new : S) (deck : Deck) (lines : List Line) → RunsWhole (shown_by state) old new deck lines → RunsWhole shown_of_state (state old) (state new) deck lines
  runs_whole old new deck lines =
      deck_runs old new deck (IsSafeRun (shown_by state) old deck.statements) (IsSafeRun shown_of_state (state old) deck.statements) lines
      (λ before after is. safe_run old deck.statements before lines after is)

  pub runs_in_part : (old new : S) (deck : Deck) (lines : List Line) → RunsInPart (shown_by state) old new deck lines → RunsInPart shown_of_state (state old) (state new) deck lines
  runs_in_part old new deck lines =
      deck_runs old new deck (IsSafeBrokenOff (shown_by state) old deck.statements) (IsSafeBrokenOff shown_of_state (state old) deck.statements) lines
      (λ before after is. safe_broken_off old deck.statements before lines after is)
