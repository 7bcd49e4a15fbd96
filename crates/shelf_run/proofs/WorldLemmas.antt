-- A run of the definitions over the files of a shelf, in a world that these represent.
use Rattle.std.proofs.Common.{◌≡◌, ℕ, ◌<◌, true, List, [], ◌∷◌, length, map, All, Option, None, bytes_eq, flat_map, refl, sym, ap, subst, ◌∙◌}
use Rattle.std.specs.Prelude.{if◌then◌else◌, slice_index_or}
use Rattle.std.specs.List.{list_any}
use Rattle.std.specs.Io.KnownBytes.{Appends}
use Rattle.std.proofs.lemmas.List.Elements.{All-head, All-tail, All-weaker}
use Rattle.std.proofs.lemmas.List.Folds.{list_any_at}
use Rattle.std.proofs.lemmas.Slice.Eq.{bytes_eq-Decides}
use Rattle.record_layout.specs.Area.{blank_area}
use Rattle.record_layout.specs.Layout.{length_of}
use Rattle.indexed_file.proofs.TestLemmas.{either}
use Rattle.indexed_file.specs.World.{World, Named, named_in}
use Rattle.page_store.specs.ShelfState.{ShelfState}
use Rattle.file_control.specs.Description.{FileDesc, file_names}
use Rattle.verbs.specs.Connector.{closed_connector}
use Rattle.deck_reader.specs.declared.deck.Deck.{Deck}
use Rattle.deck_runner.specs.declared.run_end.RunEnd.{RunEnd}
use Rattle.deck_runner.specs.ExactRun.{run_before, file_before, RunsExactly}
use Rattle.deck_runner.specs.Beginning.{SameElsewhere, is_elsewhere}
use Rattle.deck_runner.specs.Line.{transcript_line}
use Rattle.deck_runner.specs.Run.{RunFile, Run, lines_of_run, after_run}
use Rattle.deck_runner.specs.RunEnd.{end_of}
use Rattle.shelf_library.specs.Crashes.{IsSoundImage}
use Rattle.shelf_run.specs.Soundness.{files_of}
use Rattle.shelf_run.specs.Files.{reads_of, Represents, AreIn}
use Rattle.shelf_run.specs.ExactRun.{left_of, world_after}
use Rattle.shelf_run.proofs.FilesLemmas.{named_is, sound_of, represents_sound}

-- ---- the start of a run

-- a file of a deck whose name stands for this
named_file : FileDesc → Named → RunFile
named_file file named = record {
  name = file.name;
  depends_on = file.depends_on;
  state = record { connector = closed_connector file.access file.optional file.schema; named = named; file = None; area = blank_area (length_of file.layout) file.layout };
}

same_files : (a b : World) (files : List FileDesc) → All (λ name. named_in a name ≡ named_in b name) (file_names files) → map (file_before a) files ≡ map (file_before b) files
unfolding named_file
same_files a b [] same = refl
same_files a b (file ∷ files) same =
    ap (λ (named : Named). named_file file named ∷ map (file_before a) files) (All-head (λ name. named_in a name ≡ named_in b name) file.file (file_names files) same)
    ∙ ap (λ (others : List RunFile). file_before b file ∷ others) (same_files a b files (All-tail (λ name. named_in a name ≡ named_in b name) file.file (file_names files) same))

run_with : Deck → List RunFile → Run
run_with deck files = record { files = files; items = map (λ item. record { digits = item.digits; value = 0 }) deck.items }

-- a deck begins alike in worlds in which its names stand for the same
same_start : (a b : World) (deck : Deck) → All (λ name. named_in a name ≡ named_in b name) (file_names deck.files) → run_before a deck ≡ run_before b deck
unfolding run_with
same_start a b deck same = ap (run_with deck) (same_files a b deck.files same)

-- ---- the world after it

-- where the names of a run stand for what it leaves, each of them stands for that in the world after it, and all others for what they stood for before
left_is : (f before : List ℕ → Named) (names : List (List ℕ)) (files : List RunFile) → map f names ≡ map (λ file. file.state.named) files → (name : List ℕ)
    → left_of names files before name ≡ (if list_any (λ other. bytes_eq other name) names then f name else before name)
left_is f before [] files same name = refl
left_is f before (first ∷ names) [] same name = absurd (cc)
left_is f before (first ∷ names) (file ∷ files) same name =
    let head : f first ≡ file.state.named = cc in
    let tail : map f names ≡ map (λ file. file.state.named) files = cc in
    either (bytes_eq first name)
    (left_of (first ∷ names) (file ∷ files) before name ≡ (if list_any (λ other. bytes_eq other name) (first ∷ names) then f name else before name))
    (λ hit. rw hit (sym head ∙ ap f ((bytes_eq-Decides first name).0 hit)))
    (λ miss. rw miss (left_is f before names files tail name))

among : (names : List (List ℕ)) (k : ℕ) (d : List ℕ) → k < length names → list_any (λ other. bytes_eq other (slice_index_or names k d)) names ≡ true
among names k d within = list_any_at (λ other. bytes_eq other (slice_index_or names k d)) names k d within ((bytes_eq-Decides (slice_index_or names k d) (slice_index_or names k d)).1 refl)

same_map : (f g : List ℕ → Named) (names : List (List ℕ)) → All (λ name. g name ≡ f name) names → map g names ≡ map f names
same_map f g [] same = refl
same_map f g (name ∷ names) same =
    ap (λ (named : Named). named ∷ map g names) (All-head (λ name. g name ≡ f name) name names same)
    ∙ ap (λ (others : List Named). f name ∷ others) (same_map f g names (All-tail (λ name. g name ≡ f name) name names same))

-- ---- the run

-- the run of a deck in this world
abbrev run_from : World → Deck → Run
run_from world deck = after_run deck.statements (run_before world deck)

-- what an exact run promises in a world that the files of its deck represented
abbrev pub RunsFrom : World → (old new : ShelfState) → (written written_after : Option (List ℕ)) → RunEnd → Deck → Type 0
RunsFrom world old new written written_after end deck =
    RunsExactly written written_after world (world_after world deck) end deck
    × ((name : List ℕ) → Represents (reads_of old name) (named_in world name) → Represents (reads_of new name) (named_in (world_after world deck) name))

-- the files of a shelf represent a world, and a run goes from what they read as to what they read as after it
module _
    (world : World) (old new : ShelfState) (written written_after : Option (List ℕ)) (end : RunEnd) (deck : Deck) (are : AreIn world (reads_of old) deck)
    (runs : RunsExactly written written_after (files_of old) (files_of new) end deck) (same : SameElsewhere deck (files_of old) (files_of new))
    (sound : (name : List ℕ) → IsSoundImage (old.file name).seen → IsSoundImage (new.file name).seen) where
  start : run_before (files_of old) deck ≡ run_before world deck
  start = same_start (files_of old) world deck
      (All-weaker (λ name. Represents (reads_of old name) (named_in world name)) (λ name. named_in (files_of old) name ≡ named_in world name)
      (λ name. named_is (reads_of old name) (named_in world name)) (file_names deck.files) are)

  leaves : map (named_in (files_of new)) (file_names deck.files) ≡ map (λ file. file.state.named) (run_from world deck).files
  leaves = runs.leaves ∙ ap (λ (run : Run). map (λ file. file.state.named) (after_run deck.statements run).files) start

  left : (name : List ℕ) → named_in (world_after world deck) name ≡ (if is_elsewhere deck name then named_in (files_of new) name else named_in world name)
  left = left_is (named_in (files_of new)) (named_in world) (file_names deck.files) (run_from world deck).files leaves

  stands : (name : List ℕ) → Represents (reads_of old name) (named_in world name) → Represents (reads_of new name) (named_in (world_after world deck) name)
  stands name is =
      let now : Represents (reads_of new name) (named_in (files_of new) name) = represents_sound (reads_of new name) (sound name (sound_of (reads_of old name) (named_in world name) is)) in
      let reads : named_in (world_after world deck) name ≡ named_in (files_of new) name =
      either (is_elsewhere deck name) (named_in (world_after world deck) name ≡ named_in (files_of new) name)
      (λ hit. left name ∙ rw hit refl)
      (λ miss. left name ∙ rw miss (sym (named_is (reads_of old name) (named_in world name) is) ∙ sym (same name miss))) in
      subst (λ (named : Named). Represents (reads_of new name) named) (sym reads) now

  pub runs_from : RunsFrom world old new written written_after end deck
  runs_from = (
    record {
      transcript_is = subst (λ (run : Run). Appends written written_after (flat_map transcript_line (lines_of_run deck.statements run))) start runs.transcript_is;
      end_is = runs.end_is ∙ ap (λ (run : Run). end_of (lines_of_run deck.statements run)) start;
      leaves =
          same_map (named_in (files_of new)) (named_in (world_after world deck)) (file_names deck.files)
          (λ k d within. left (slice_index_or (file_names deck.files) k d) ∙ rw (among (file_names deck.files) k d within) refl)
          ∙ leaves;
    },
    stands,
  )
