-- A deck before its first statement, and what its run leaves in a library. All of this is ours.
use Rattle.std.specs.Prelude.{◌≡◌, ℕ, Bool, false, List, length, map, bytes_eq, All, IsTrue}
use Rattle.std.specs.List.{list_any}
use Rattle.record_layout.specs.Area.{blank_area}
use Rattle.record_layout.specs.Layout.{length_of}
use Rattle.indexed_file.specs.World.{World, named_in}
use Rattle.indexed_file.specs.Images.{Stays}
use Rattle.indexed_file.specs.Calls.{Keeps}
use Rattle.indexed_file.specs.Shown.{Shown}
use Rattle.verbs.specs.Held.{held_at_start}
use Rattle.file_control.specs.Description.{FileDesc, file_names}
use Rattle.deck_reader.specs.declared.deck.Deck.{Deck}
use Rattle.deck_runner.specs.Line.{Line}
use Rattle.deck_runner.specs.declared.running_deck.RunningDeck.{RunningDeck}
use Rattle.deck_runner.specs.Run.{Run}
use Rattle.deck_runner.specs.Running.{Running, unit_names}
use Rattle.deck_runner.specs.Stretches.{Point}
use Rattle.deck_runner.specs.State.{state, run_in, file_names_in, IsSafeIn, IsTrustedIn, AreLinesOf}
use Rattle.deck_runner.specs.Conditions.{IsStatementIn}
use Rattle.deck_runner.specs.ExactRun.{run_before}

-- ---- before the first statement

-- the same file as it stands in memory
abbrev pub running_before : FileDesc → Running
running_before file = record {
  name = file.name;
  depends_on = file.depends_on;
  held = held_at_start file.access file.optional file.schema;
  area = blank_area (length_of file.layout) file.layout;
}

-- ---- what is left

-- each file name of the deck stands for what the run leaves
abbrev pub WorldIsLeft : World → Deck → Run → Type 0
WorldIsLeft world deck run = map (named_in world) (file_names deck.files) ≡ map
    (λ file. file.state.named) run.files

-- the name of no file of the deck
abbrev pub is_elsewhere : Deck → List ℕ → Bool
is_elsewhere deck name = list_any (λ other. bytes_eq other name) (file_names deck.files)

-- all other names stand for what they stood for
abbrev pub SameElsewhere : Deck → World → World → Type 0
SameElsewhere deck old new = (name : List ℕ) → is_elsewhere deck name ≡ false
    → named_in new name ≡ named_in old name

-- every name does
abbrev pub SameNames : World → World → Type 0
SameNames old new = (name : List ℕ) → named_in new name ≡ named_in old name

-- nothing has come of a call: every name stands for what it stood for, and no image changes
pub record IsUntouched {S : Type 0} (library : Shown S) (old new : S) : Type 0 where
  pub named : SameNames (library.world old) (library.world new)
  pub images : IsTrue (library.is_honest new) → (name : List ℕ) → Stays library.moments old new name

-- where the library has not lied by then, and what it showed of the deck's files was true before
abbrev pub WhereFilesAreTrue : {S : Type 0} → Shown S → (old new : S) → Deck → Type 0 → Type 0
WhereFilesAreTrue library old new deck claim =
    IsTrue (library.is_honest new) → All (library.IsShownTruly old) (file_names deck.files) → claim

-- the stretch before the first step: the library keeps what every call of it does, the units have
-- the names of the deck's files, and no image changes
pub record IsAttached {S : Type 0} (library : Shown S) (old begun : S) (deck : Deck) : Type 0 where
  pub keeps : Keeps library old begun
  pub names : unit_names (library.world begun) ≡ file_names deck.files
  pub images : (name : List ℕ) → Stays library.moments old begun name

-- the names of the files in the deck
abbrev pub program_names : Deck → List (List ℕ)
program_names deck = map (λ file. file.name) deck.files

-- such steps lead with these lines from the deck before its first statement to what the library
-- shows then, where the files are true; and in any library the lines are those of the deck's files
pub record DeckLeads {S : Type 0} (library : Shown S) (old new : S) (deck : Deck) (AreSuch : Point S
    → List Line → Point S → Type 0) (lines : List Line) : Type 0 where
  pub steps : WhereFilesAreTrue library old new deck
      ((begun : S) × (next : Run) × IsAttached library old begun deck
      × AreSuch (record { run = run_before (library.world old) deck; library = begun }) lines
      (record { run = next; library = new })
      × WorldIsLeft (library.world new) deck next)
  pub lines_are : AreLinesOf library (program_names deck) old new lines

-- ---- the deck in memory

-- the files and items of a deck in memory, and its file names attached to a library: together they
-- show the deck before its first statement, and what a run needs is so
pub record IsBegun {S : Type 0} (library : Shown S) (old new : S) (deck : Deck)
    (begun : RunningDeck) : Type 0 where
  pub keeps : Keeps library old new
  pub run : run_in library (state new begun) ≡ run_before (library.world old) deck
  pub many : length begun.files.items ≡ length deck.files
  pub names : file_names_in begun ≡ program_names deck
  pub units : unit_names (library.world new) ≡ file_names deck.files
  pub safe : IsSafeIn library (state new begun)
  pub statements : All (IsStatementIn begun) deck.statements
  pub trusted : WhereFilesAreTrue library old new deck (IsTrustedIn library (state new begun))
