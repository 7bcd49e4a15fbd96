-- What a run has in its library and in memory, before and after a part of it.
use Rattle.std.specs.Prelude.{◌≡◌, ◌⊎◌, ℕ, Bool, true, false, List, All, length, map, IsTrue}
use Rattle.std.specs.List.{Contains}
use Rattle.io_state.specs.declared.statement.FileStatement.{FileStatement}
use Rattle.io_state.specs.declared.statement.FileStatement.TheVariants.{Open, Close, ReadNext, Read, Start}
use Rattle.io_state.specs.declared.statement.FileStatement.TheVariants.{Write, Rewrite, Delete}
use Rattle.io_state.specs.declared.status.Status.TheVariants.{PermanentError}
use Rattle.indexed_file.specs.Calls.{Keeps, HasRisen}
use Rattle.indexed_file.specs.Shown.{Shown}
use Rattle.verbs.specs.Faults.{OutOfMemoryIsCaused}
use Rattle.deck_runner.specs.declared.running_deck.RunningDeck.{RunningDeck}
use Rattle.deck_runner.specs.Line.{Line}
use Rattle.deck_runner.specs.Run.{Run}
use Rattle.deck_runner.specs.Running.{schema_of, unit_names, run_of, IsSafe, IsTrusted}
use Rattle.deck_runner.specs.Stretches.{Point}

pub record State (S : Type 0) : Type 0 where
  pub library : S
  pub deck : RunningDeck

abbrev pub state : {S : Type 0} → S → RunningDeck → State S
state library deck = record { library = library; deck = deck }

-- the run that it shows
abbrev pub run_in : {S : Type 0} → Shown S → State S → Run
run_in library s = run_of (library.world s.library) s.deck.files.items s.deck.items.items

-- that run, and the library
abbrev pub point_in : {S : Type 0} → Shown S → State S → Point S
point_in library s = record { run = run_in library s; library = s.library }

-- the names of the files in the deck
abbrev pub file_names_in : RunningDeck → List (List ℕ)
file_names_in deck = map (λ file. file.name) deck.files.items

-- what a run needs of a library that is not to be believed
abbrev pub IsSafeIn : {S : Type 0} → Shown S → State S → Type 0
IsSafeIn library s = IsSafe (library.world s.library) s.deck.files.items (length s.deck.items.items)

-- what is so of one that is
abbrev pub IsTrustedIn : {S : Type 0} → Shown S → State S → Type 0
IsTrustedIn library s = IsTrusted (library.IsShownTruly s.library)
    (library.world s.library) s.deck.files.items

-- ---- a part of a run

-- every part of a run: what needs no trust is kept, the names, the schemas and the number of the
-- items stay, what was true stays true, the library keeps what every call of it does, its units
-- keep their names, and no other name is touched
pub record GoesOn {S : Type 0} (library : Shown S) (old new : State S) : Type 0 where
  pub keeps : Keeps library old.library new.library
  pub safe : IsSafeIn library new
  pub names : file_names_in new.deck ≡ file_names_in old.deck
  pub schemas : map schema_of new.deck.files.items ≡ map schema_of old.deck.files.items
  pub items : length new.deck.items.items ≡ length old.deck.items.items
  pub units : unit_names (library.world new.library) ≡ unit_names (library.world old.library)
  pub elsewhere : (library.world new.library).elsewhere ≡ (library.world old.library).elsewhere
  pub trusted : IsTrue (library.is_honest new.library) → IsTrustedIn library old → IsTrustedIn library new

-- ---- its lines

abbrev pub is_close : FileStatement → Bool
is_close (Open mode) = false
is_close (Close lock) = true
is_close ReadNext = false
is_close (Read key) = false
is_close (Start key length relation) = false
is_close Write = false
is_close Rewrite = false
is_close Delete = false

-- what is so of a line in a library that need not be believed: its name is that of a file of the
-- deck; 30 is answered by a CLOSE alone where the device has met no fault; and 90 by an OPEN alone
-- where no call on an open unit may want memory
pub record IsLineOf (names : List (List ℕ)) (may_want_memory : Bool) (old new : ℕ) (line : Line) : Type 0 where
  pub name : Contains names line.name
  pub cause : line.status ≡ PermanentError → HasRisen old new ⊎ IsTrue (is_close line.statement)
  pub memory : OutOfMemoryIsCaused line.statement may_want_memory line.status

abbrev pub AreLinesOf : {S : Type 0} → Shown S → List (List ℕ) → (old new : S) → List Line → Type 0
AreLinesOf library names old new lines = All (IsLineOf names library.may_want_memory
    (library.fault_count old) (library.fault_count new)) lines

-- such steps lead from the one state to the other with these lines, where the library has not lied
-- by then and what it showed was true before
pub record Leads {S : Type 0} (library : Shown S) (old new : State S) (AreSuch : Point S → List Line
    → Point S → Type 0) (lines : List Line) : Type 0 where
  pub steps : IsTrue (library.is_honest new.library) → IsTrustedIn library old
      → AreSuch (point_in library old) lines (point_in library new)
  pub lines_are : AreLinesOf library (file_names_in old.deck) old.library new.library lines
