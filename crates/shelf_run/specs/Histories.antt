-- Decks that are run one after another, each over the files that the run before it left. All of this is ours.
use Rattle.std.specs.Prelude.{◌≡◌, ℕ, true, List, [], ◌∷◌, map, flat_map, Option, None, All, IsTrue}
use Rattle.std.specs.Io.KnownBytes.{Appends}
use Rattle.indexed_file.specs.World.{World, Absent, named_in}
use Rattle.page_store.specs.ShelfState.{ShelfState}
use Rattle.file_control.specs.Description.{file_names}
use Rattle.deck_reader.specs.declared.deck.Deck.{Deck}
use Rattle.deck_reader.specs.Deck.{IsDeck}
use Rattle.deck_runner.specs.ExactRun.{run_before}
use Rattle.deck_runner.specs.Line.{transcript_line}
use Rattle.deck_runner.specs.Run.{lines_of_run}
use Rattle.deck_runner.specs.declared.run_end.RunEnd.{RunEnd}
use Rattle.shelf_run.specs.Files.{FileReads, reads_of, Represents, AreIn}
use Rattle.shelf_run.specs.ExactRun.{IsExactRun, world_after}

-- ---- what the definitions give

-- a world without files
abbrev pub no_files : World
no_files = record { units = []; elsewhere = λ name. Absent }

-- the transcripts of decks, each run in the world that the one before it left
abbrev pub transcripts : World → List Deck → List (List ℕ)
transcripts world [] = []
transcripts world (deck ∷ decks) =
    flat_map transcript_line (lines_of_run deck.statements (run_before world deck))
    ∷ transcripts (world_after world deck) decks

-- the world that the last of them leaves
abbrev pub world_after_all : World → List Deck → World
world_after_all world [] = world
world_after_all world (deck ∷ decks) = world_after_all (world_after world deck) decks

-- ---- nights

-- a run of the bytes of a deck: the shelf before it and after it, what its writer had before and
-- after, and what was told of its end
pub record Night : Type 0 where
  pub bytes : List ℕ
  pub deck : Deck
  pub old : ShelfState
  pub new : ShelfState
  pub written : Option (List ℕ)
  pub written_after : Option (List ℕ)
  pub end : RunEnd

-- its end was clean and its shelf has not lied, and a run promises this
pub record IsCleanNight (night : Night) : Type 0 where
  pub deck_is : IsDeck night.bytes night.deck
  pub clean : night.end.clean ≡ true
  pub honest : IsTrue night.new.is_honest
  pub exact : night.end.clean ≡ true → IsExactRun night.bytes night.old night.new night.written
      night.written_after night.end

-- the nights are clean, and each begins with the files as the night before it left them, the first
-- one with these
abbrev pub FollowOn : FileReads → List Night → Type 0
FollowOn reads [] = Unit {0}
FollowOn reads (night ∷ nights) =
    ((name : List ℕ) → reads_of night.old name ≡ reads name) × IsCleanNight night
    × FollowOn (reads_of night.new) nights

-- what a read gives after the last of them
abbrev pub reads_after : FileReads → List Night → FileReads
reads_after reads [] = reads
reads_after reads (night ∷ nights) = reads_after (reads_of night.new) nights

abbrev pub decks_of : List Night → List Deck
decks_of nights = map (λ night. night.deck) nights

-- each night has written its text
abbrev pub HaveWritten : List Night → List (List ℕ) → Type 0
HaveWritten [] [] = Unit {0}
HaveWritten (night ∷ nights) (text ∷ texts) = Appends night.written night.written_after text
    × HaveWritten nights texts
HaveWritten _ _ = ⊥

-- ---- the law

-- the nights have written the transcripts of their decks in this world, one after another, and each
-- file that represented what its name stands for in this world represents what it stands for in the
-- world that they leave
pub record IsHistory (world : World) (reads : FileReads) (nights : List Night) : Type 0 where
  pub transcripts_are : HaveWritten nights (transcripts world (decks_of nights))
  pub files_are : (name : List ℕ) → Represents (reads name) (named_in world name)
      → Represents (reads_after reads nights name) (named_in (world_after_all world (decks_of nights)) name)

-- clean nights that follow one another are such a history, from each world that the files of all
-- their decks represented at first
abbrev pub CleanNights : Type 0
CleanNights =
    (world : World) (reads : FileReads) (nights : List Night) → FollowOn reads nights
    → All (AreIn world reads) (decks_of nights)
    → IsHistory world reads nights

-- where no file of all their decks was there at first, they are the history of a world without files
abbrev pub NightsFromNothing : Type 0
NightsFromNothing =
    (reads : FileReads) (nights : List Night) → FollowOn reads nights
    → All (λ deck. All (λ name. reads name ≡ None) (file_names deck.files)) (decks_of nights)
    → IsHistory no_files reads nights
