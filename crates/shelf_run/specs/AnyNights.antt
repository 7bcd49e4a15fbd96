-- Runs one after another that end in any way, or are stopped by a crash. All of this is ours.
use Rattle.std.specs.Prelude.{◌⊎◌, ℕ, List, [], ◌∷◌, Option, All, IsTrue}
use Rattle.indexed_file.specs.World.{Named}
use Rattle.page_store.specs.Images.{Leaves}
use Rattle.page_store.specs.ShelfState.{ShelfState}
use Rattle.deck_reader.specs.declared.deck.Deck.{Deck}
use Rattle.deck_reader.specs.Deck.{IsDeck}
use Rattle.deck_runner.specs.RunEnd.{TellsLines, ToldInPart}
use Rattle.deck_runner.specs.declared.run_end.RunEnd.{RunEnd}
use Rattle.shelf_library.specs.Crashes.{MayBeFound}
use Rattle.shelf_run.specs.Files.{reads_of, Represents}
use Rattle.shelf_run.specs.Soundness.{AllSound, AreImagesSound}
use Rattle.shelf_run.specs.ShelfRun.{OnShelf, Runs, BreaksOff, LeavesFiles}

-- a run of some bytes, with its limits: the shelf before it and after it, how often that had
-- failed, and what its writer had
pub record AnyNight : Type 0 where
  pub bytes : List ℕ
  pub limit : ℕ
  pub frames : ℕ
  pub old : ShelfState
  pub new : ShelfState
  pub faults : ℕ
  pub faults_after : ℕ
  pub written : Option (List ℕ)
  pub written_after : Option (List ℕ)

-- it came to its end; or its writer refused a line; or nothing came of it
abbrev pub NightHasEnded : AnyNight → Type 0
NightHasEnded night = (end : RunEnd) × OnShelf night.bytes night.old night.new
    (λ deck. TellsLines night.written night.written_after end
    (Runs night.limit night.frames night.old night.new night.faults night.faults_after deck))

abbrev pub WasBrokenOff : AnyNight → Type 0
WasBrokenOff night = OnShelf night.bytes night.old night.new
    (λ deck. ToldInPart night.written night.written_after
    (BreaksOff night.limit night.frames night.old night.new night.faults night.faults_after deck))

abbrev pub CameToNothing : AnyNight → Type 0
CameToNothing night = LeavesFiles night.old night.new

-- its shelf has not lied, and a run promises one of these
pub record IsNight (night : AnyNight) : Type 0 where
  pub honest : IsTrue night.new.is_honest
  pub ends : NightHasEnded night ⊎ (WasBrokenOff night ⊎ CameToNothing night)

-- at a start a read gives, of each name, what a crash now may leave; and that is what a crash may
-- have left of it at some moment of the time before, the last one among them
pub record StartsAfter (old new start : ShelfState) : Type 0 where
  pub reads : (name : List ℕ) → Leaves (start.file name) (reads_of start name)
  pub found : (name : List ℕ) (c : Option (List ℕ)) → Leaves (start.file name) c
      → MayBeFound (old.file name) (new.file name) c

-- the nights follow one another, the first one after this stretch of time: each has come to its
-- end, or a crash has cut it at some moment
abbrev pub FollowAnyhow : (old new : ShelfState) → List AnyNight → Type 0
FollowAnyhow old new [] = Unit {0}
FollowAnyhow old new (night ∷ nights) = StartsAfter old new night.old × IsNight night
    × FollowAnyhow night.old night.new nights

-- at the start of the night, each file of which this shelf had nothing but what is sound represents
-- something: it is absent, refused, or closed with its rows
abbrev pub StartsSound : ShelfState → AnyNight → Type 0
StartsSound first night = (name : List ℕ) → AllSound (first.file name) → (named : Named)
    × Represents (reads_of night.old name) named

-- the law: in nights that end in any way, or are cut by a crash at any moment, each file represents
-- something at each start, where whatever a crash may leave of the files of all their decks was
-- sound at first
abbrev pub AnyNights : Type 0
AnyNights =
    (first : ShelfState) (nights : List AnyNight) → FollowAnyhow first first nights
    → All (λ night. (deck : Deck) → IsDeck night.bytes deck → AreImagesSound first deck) nights
    → All (StartsSound first) nights
