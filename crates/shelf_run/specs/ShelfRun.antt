-- What a run of a deck leaves of a shelf. All of this is ours.
use Rattle.std.specs.Prelude.{◌≡◌, ◌≢◌, ◌≤◌, ℕ, true, List, [], Option, IsTrue}
use Rattle.indexed_file.specs.Images.{Stays}
use Rattle.indexed_file.specs.Shown.{Shown}
use Rattle.page_store.specs.ShelfState.{ShelfState}
use Rattle.deck_reader.specs.declared.deck.Deck.{Deck}
use Rattle.deck_reader.specs.Deck.{IsDeck}
use Rattle.deck_runner.specs.Beginning.{SameElsewhere, SameNames}
use Rattle.deck_runner.specs.declared.run_end.RunEnd.{RunEnd}
use Rattle.deck_runner.specs.declared.fault.RunFault.{RunFault}
use Rattle.deck_runner.specs.declared.fault.RunFault.TheVariants.{Output}
use Rattle.deck_runner.specs.RunEnd.{TellsLines, ToldInPart}
use Rattle.deck_runner.specs.DeckRun.{IsRefusedDeck}
use Rattle.deck_runner.specs.Line.{Line}
use Rattle.deck_runner.specs.NoFalseFile.{RunsWhole, RunsInPart}
use Rattle.shelf_library.specs.Crashes.{IsSoundImage, moments_on}
use Rattle.shelf_library.specs.Library.{shown_by}
use Rattle.shelf_library.specs.State.{LibraryState, AreLimited}
use Rattle.shelf_library.specs.declared.held.Held.{Held}
use Rattle.shelf_run.specs.Soundness.{files_of, AreImagesSound, AreSoundThroughout}
use Rattle.shelf_run.specs.ExactRun.{IsExactRun}

-- the bytes are a deck, this is so of it, and no name but those of its files is touched
abbrev pub OnShelf : List ℕ → (old new : ShelfState) → (Deck → Type 0) → Type 0
OnShelf bytes old new P = (deck : Deck) × IsDeck bytes deck
    × SameElsewhere deck (files_of old) (files_of new) × P deck

-- what a library over a shelf shows, by its state
abbrev pub shown_of_state : Shown LibraryState
shown_of_state = shown_by (λ state. state)

-- a library over this shelf, with a limit of pages and so many frames for each file, that holds these
abbrev pub over_shelf : (limit frames : ℕ) → ShelfState → List Held → (faults : ℕ) → LibraryState
over_shelf limit frames shelf held faults = record {
  shelf = shelf;
  held = held;
  faults = faults;
  limit = limit;
  frames = frames;
}

-- a run, by the states of the library over the shelf, which holds nothing at the start, and within
-- its limits at the end; in so many words, where whatever a crash may leave of the deck's files was
-- sound at the start, what it may leave of a file was so at each moment, if it was so at first
pub record RunsBy (IsSuch : LibraryState → LibraryState → Deck → List Line → Type 0) (limit frames : ℕ)
    (old new : ShelfState) (faults faults_after : ℕ) (deck : Deck) (lines : List Line) : Type 0 where
  pub held : List Held
  pub limits : AreLimited limit frames held
  pub run : IsSuch (over_shelf limit frames old [] faults) (over_shelf limit frames new held faults_after)
      deck lines
  pub no_false_file : IsTrue new.is_honest → AreImagesSound old deck → AreSoundThroughout old new

-- a whole run, and one that was broken off
abbrev pub Runs : (limit frames : ℕ) → (old new : ShelfState) → (faults faults_after : ℕ) → Deck
    → List Line → Type 0
Runs = RunsBy (RunsWhole shown_of_state)

abbrev pub BreaksOff : (limit frames : ℕ) → (old new : ShelfState) → (faults faults_after : ℕ) → Deck
    → List Line → Type 0
BreaksOff = RunsBy (RunsInPart shown_of_state)

-- nothing has come of a call: every name stands for what it stood for, and what a crash may leave
-- is as it was
pub record LeavesFiles (old new : ShelfState) : Type 0 where
  pub named : SameNames (files_of old) (files_of new)
  pub images : IsTrue new.is_honest → (name : List ℕ) → Stays moments_on old new name

-- what is sound stays so: the promise at the end of a run is the premise of the next
abbrev pub StaysSound : (old new : ShelfState) → Type 0
StaysSound old new = IsTrue new.is_honest → (name : List ℕ) → IsSoundImage (old.file name).seen
    → IsSoundImage (new.file name).seen

-- ---- what a run over a shelf asks for, and what it leaves

-- no name is attached to the shelf, and the files may have pages for a header and marks at least
pub record CanRunOn (limit : ℕ) (shelf : ShelfState) : Type 0 where
  pub names : shelf.names ≡ []
  pub limit_is : 16 ≤ limit

-- a run whose end is clean was exact
abbrev pub IsExactOn : {D W : Type 0} → (state : D → ShelfState) → (contents : W → Option (List ℕ)) → List ℕ
    → (old new : D) → (out out_after : W) → RunEnd → Type 0
IsExactOn state contents bytes old new out out_after end =
    end.clean ≡ true → IsExactRun bytes (state old) (state new) (contents out) (contents out_after) end

-- a run that came to its end: the writer has the lines of a whole run over the shelf
abbrev pub HasRunOn : {D W : Type 0} → (state : D → ShelfState) → (fault_count : D → ℕ)
    → (contents : W → Option (List ℕ)) → List ℕ → (limit frames : ℕ) → (old new : D) → (out out_after : W)
    → RunEnd → Type 0
HasRunOn state fault_count contents bytes limit frames old new out out_after end =
    OnShelf bytes (state old) (state new) (λ deck. TellsLines (contents out) (contents out_after) end
    (Runs limit frames (state old) (state new) (fault_count old) (fault_count new) deck))

-- one whose writer refused a line: it has the lines before it, and a proper front of that one
abbrev pub HasBrokenOffOn : {D W : Type 0} → (state : D → ShelfState) → (fault_count : D → ℕ)
    → (contents : W → Option (List ℕ)) → List ℕ → (limit frames : ℕ) → (old new : D) → (out out_after : W)
    → RunFault → Type 0
HasBrokenOffOn state fault_count contents bytes limit frames old new out out_after fault =
    fault ≡ Output → OnShelf bytes (state old) (state new) (λ deck. ToldInPart (contents out)
    (contents out_after)
    (BreaksOff limit frames (state old) (state new) (fault_count old) (fault_count new) deck))

-- a run that was refused: unless the writer refused a line, nothing was written, and nothing has come
-- of it; and what the fault says of the bytes is true
pub record IsRefusedOn {D W : Type 0} (state : D → ShelfState) (bytes : List ℕ) (old new : D)
    (out out_after : W) (fault : RunFault) : Type 0 where
  pub nothing : fault ≢ Output → (out_after ≡ out) × LeavesFiles (state old) (state new)
  pub bytes_are : IsRefusedDeck bytes fault
