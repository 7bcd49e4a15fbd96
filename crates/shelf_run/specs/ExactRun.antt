-- An exact run: it writes what the definitions say, and leaves the files that they leave. All of this
-- is ours.
use Rattle.std.specs.Prelude.{ℕ, List, [], ◌∷◌, bytes_eq, if◌then◌else◌, All, Option, IsTrue}
use Rattle.indexed_file.specs.World.{World, Named, named_in}
use Rattle.file_control.specs.Description.{file_names}
use Rattle.deck_reader.specs.declared.deck.Deck.{Deck}
use Rattle.deck_runner.specs.ExactRun.{run_before, RunsExactly}
use Rattle.deck_runner.specs.Run.{RunFile, after_run}
use Rattle.page_store.specs.ShelfState.{ShelfState}
use Rattle.deck_reader.specs.Deck.{IsDeck}
use Rattle.deck_runner.specs.declared.run_end.RunEnd.{RunEnd}
use Rattle.shelf_run.specs.Files.{Represents}

-- what a name stands for, where files with these names were left so: what the file of that name was
-- left as, or else what it stood for before
abbrev pub left_of : List (List ℕ) → List RunFile → (List ℕ → Named) → List ℕ → Named
left_of [] files before name = before name
left_of (first ∷ names) [] before name = before name
left_of (first ∷ names) (file ∷ files) before name =
    if bytes_eq first name then file.state.named else left_of names files before name

-- the world after the run of a deck, when all its files are closed at its end: each of its file
-- names stands for what the run leaves, and each other name for what it stood for
abbrev pub world_after : World → Deck → World
world_after world deck = record {
  units = [];
  elsewhere =
      let left = after_run deck.statements (run_before world deck) in
      left_of (file_names deck.files) left.files (named_in world);
}

-- the deck that the bytes are was run as the definitions say, from each world that its files
-- represented, where the shelf has not lied by then: the transcript, and what is told of it; and each
-- file that represented what its name stands for in that world represents what it stands for after it
abbrev pub IsExactRun : List ℕ → (old new : ShelfState) → (written written_after : Option (List ℕ))
    → RunEnd → Type 0
IsExactRun bytes old new written written_after end =
    (deck : Deck) × IsDeck bytes deck × (IsTrue new.is_honest → (world : World)
    → All (λ name. Represents (old.file name).seen (named_in world name)) (file_names deck.files)
    → RunsExactly written written_after world (world_after world deck) end deck
    × ((name : List ℕ) → Represents (old.file name).seen (named_in world name)
    → Represents (new.file name).seen (named_in (world_after world deck) name)))
