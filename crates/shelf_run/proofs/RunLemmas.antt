-- What the run over a library over a shelf says of the files of the shelf.
use Rattle.std.proofs.Common.{◌≡◌, ℕ, List, [], ◌∷◌, length, All, Option, Result, Ok, Err, IfErr, IsTrue, refl, sym, ap, subst, ◌∙◌, ◌++◌}
use Rattle.std.proofs.lemmas.List.Elements.{All-weaker}
use Rattle.indexed_file.specs.Calls.{Keeps}
use Rattle.indexed_file.specs.World.{World, named_in}
use Rattle.page_store.specs.Images.{Leaves}
use Rattle.page_store.proofs.MomentLemmas.{throughout_none}
use Rattle.file_control.specs.Description.{file_names}
use Rattle.deck_reader.specs.declared.deck.Deck.{Deck}
use Rattle.deck_runner.specs.declared.run_end.RunEnd.{RunEnd}
use Rattle.deck_runner.specs.Beginning.{SameElsewhere, WhereFilesAreTrue, IsUntouched}
use Rattle.deck_runner.specs.ExactRun.{run_before, RunsExactly}
use Rattle.deck_runner.specs.DeckRun.{OfDeck}
use Rattle.deck_runner.specs.Line.{Line}
use Rattle.deck_runner.specs.NoFalseFile.{Judged, DeckRuns, RunsWhole, RunsInPart, IsSafeRun, IsSafeBrokenOff}
use Rattle.deck_runner.specs.RunEnd.{TellsLines, ToldInPart}
use Rattle.shelf_library.specs.Library.{shown_by}
use Rattle.shelf_library.specs.State.{LibraryState, AreLimited}
use Rattle.shelf_library.specs.Truth.{IsShownTruly}
use Rattle.shelf_library.specs.Units.{world_of}
use Rattle.shelf_library.specs.WorldLaws.{named_anywhere}
use Rattle.shelf_library.specs.declared.held.Held.{Held}
use Rattle.shelf_library.specs.Crashes.{IsSoundImage}
use Rattle.shelf_run.specs.Soundness.{files_of, AllSound, AreImagesSound, AreSoundThroughout}
use Rattle.shelf_run.specs.Files.{reads_of, Represents}
use Rattle.shelf_run.specs.ShelfRun.{OnShelf, RunsBy, Runs, BreaksOff, LeavesFiles, StaysSound, shown_of_state, over_shelf}
use Rattle.shelf_run.specs.ExactRun.{IsExactRun}
use Rattle.shelf_run.proofs.FilesLemmas.{AreSound, world_at_first, named_same, sound_of, sound_if_closed, shown_truly}
use Rattle.shelf_run.proofs.WorldLemmas.{runs_from}
use Rattle.shelf_run.proofs.StatesLemmas.{stays, runs_whole, runs_in_part}
use Rattle.shelf_run.proofs.MomentsLemmas.{AreReal, over_run, over_broken_off}

-- two facts of a fault make a third
pub refused_with : {T E : Type 0} (r : Result T E) (P Q R : E → Type 0) → ((fault : E) → P fault → Q fault → R fault) → IfErr r P → IfErr r Q → IfErr r R
refused_with (Ok end) P Q R both p q = tt
refused_with (Err fault) P Q R both p q = both fault p q

-- a library has the limits that were given
pub record HasGiven (limit frames : ℕ) (state : LibraryState) : Type 0 where
  pub limit_is : state.limit ≡ limit
  pub frames_is : state.frames ≡ frames

given : (limit frames : ℕ) (state : LibraryState) → HasGiven limit frames state → state ≡ over_shelf limit frames state.shelf state.held state.faults
given limit frames state has = let l = has.limit_is in let f = has.frames_is in λ i. record { shelf = state.shelf; held = state.held; faults = state.faults; limit = l i; frames = f i }

-- a library over a shelf before a run, which holds nothing, and after it
module _ (old new : LibraryState) (none : old.shelf.names ≡ []) (empty : old.held ≡ []) (many : length new.held ≡ length new.shelf.names)
    (keeps : Keeps shown_of_state old new) (an_image : (name : List ℕ) → IsTrue old.shelf.is_honest → Leaves (old.shelf.file name) (old.shelf.file name).seen) where
  first_world : world_of old.shelf old.held ≡ files_of old.shelf
  first_world = rw empty (world_at_first old.shelf none)

  truly : (name : List ℕ) → IsSoundImage (old.shelf.file name).seen → IsShownTruly old.shelf old.held name
  truly name sound = rw empty (shown_truly old.shelf name none sound)

  elsewhere : (deck : Deck) → SameElsewhere deck (world_of old.shelf old.held) (world_of new.shelf new.held) → SameElsewhere deck (files_of old.shelf) (files_of new.shelf)
  elsewhere deck same = λ name is.
      sym (named_anywhere new.shelf new.held name many) ∙ same name is ∙ ap (λ (world : World). named_in world name) first_world

  pub stays_sound : StaysSound old.shelf new.shelf
  stays_sound = λ honest name sound. sound_if_closed (new.shelf.file name) (keeps.truth honest name (truly name sound)).closed

  pub leaves_files : IsUntouched shown_of_state old new → LeavesFiles old.shelf new.shelf
  leaves_files is = record {
    named = λ name. sym (named_anywhere new.shelf new.held name many) ∙ is.named name ∙ ap (λ (world : World). named_in world name) first_world;
    images = λ honest name. record { within = (is.images honest name).within; back = (is.images honest name).back };
  }

  -- ---- where the files were sound

  all_truly : (deck : Deck) → AreSound old.shelf deck → All (shown_of_state.IsShownTruly old) (file_names deck.files)
  all_truly deck = All-weaker (λ name. IsSoundImage (old.shelf.file name).seen) (shown_of_state.IsShownTruly old) truly (file_names deck.files)

  pub exact_run : (bytes : List ℕ) (written written_after : Option (List ℕ)) (end : RunEnd)
      → OfDeck shown_of_state bytes old new (λ deck. WhereFilesAreTrue shown_of_state old new deck
      (RunsExactly written written_after (world_of old.shelf old.held) (world_of new.shelf new.held) end deck))
      → IsExactRun bytes old.shelf new.shelf written written_after end
  exact_run bytes written written_after end of =
      let deck : Deck = of.0 in (
        deck,
        of.1,
        λ honest world are.
            let sound = All-weaker (λ name. Represents (reads_of old.shelf name) (named_in world name)) (λ name. IsSoundImage (old.shelf.file name).seen)
            (λ name. sound_of (reads_of old.shelf name) (named_in world name)) (file_names deck.files) are in
            let runs = subst (λ (first : World). RunsExactly written written_after first (world_of new.shelf new.held) end deck) first_world (of.3 honest (all_truly deck sound)) in
            runs_from world old.shelf new.shelf written written_after end deck are
            (record { transcript_is = runs.transcript_is; end_is = runs.end_is; leaves = named_same new.shelf new.held (file_names deck.files) many ∙ runs.leaves })
            (elsewhere deck of.2) (stays_sound honest),
      )

  -- ---- what a crash may leave

  real_at_first : (name : List ℕ) → ((c : Option (List ℕ)) → Leaves (old.shelf.file name) c → IsSoundImage c) → AreReal old old name
  real_at_first name sound = throughout_none IsSoundImage (old.shelf.file name) (old.shelf.file name) refl sound

  no_false_file : (deck : Deck) (AreSuch : Judged LibraryState → List Line → Judged LibraryState → Type 0) (lines : List Line)
      → ((name : List ℕ) (before after : Judged LibraryState) → AreReal old old name → AreSuch before lines after → AreReal old before.point.library name → AreReal old after.point.library name)
      → DeckRuns shown_of_state old new deck AreSuch lines → IsTrue new.shelf.is_honest → AreImagesSound old.shelf deck → AreSoundThroughout old.shelf new.shelf
  no_false_file deck AreSuch lines goes runs honest sound name all =
      let was = keeps.honest honest in
      let now = All-weaker (λ name. AllSound (old.shelf.file name)) (λ name. IsSoundImage (old.shelf.file name).seen)
      (λ name all. all (old.shelf.file name).seen (an_image name was)) (file_names deck.files) sound in
      let is = runs.stretches honest (all_truly deck now) in
      let real = real_at_first name all in
      let begun : AreReal old is.0 name = ((is.2.images name).within real).0 in
      let ended : AreReal old is.1.point.library name = goes name (record { point = record { run = run_before (shown_of_state.world old) deck; library = is.0 }; ledger = _ }) is.1 real is.3 begun in
      subst (λ (state : LibraryState). AreReal old state name) is.4 ended

  -- ---- a run, by the states of the library

  by_states : (IsSuch : LibraryState → LibraryState → Deck → List Line → Type 0) (limit frames : ℕ) (deck : Deck) (lines : List Line) → HasGiven limit frames old → HasGiven limit frames new
      → AreLimited limit frames new.held
      → IsSuch old new deck lines → (IsTrue new.shelf.is_honest → AreImagesSound old.shelf deck → AreSoundThroughout old.shelf new.shelf)
      → RunsBy IsSuch limit frames old.shelf new.shelf old.faults new.faults deck lines
  by_states IsSuch limit frames deck lines first last limits run safe = record {
    held = new.held;
    limits = limits;
    run =
        subst (λ (state : LibraryState). IsSuch state (over_shelf limit frames new.shelf new.held new.faults) deck lines)
        (given limit frames old first ∙ ap (λ (held : List Held). over_shelf limit frames old.shelf held old.faults) empty)
        (subst (λ (state : LibraryState). IsSuch old state deck lines) (given limit frames new last) run);
    no_false_file = safe;
  }

  module _
      (limit frames : ℕ) (first : HasGiven limit frames old) (last : HasGiven limit frames new) (limits : AreLimited limit frames new.held)
      (bytes : List ℕ) (written written_after : Option (List ℕ)) where
    pub runs_on : (end : RunEnd) → OfDeck shown_of_state bytes old new (λ deck. TellsLines written written_after end (RunsWhole shown_of_state old new deck))
        → OnShelf bytes old.shelf new.shelf (λ deck. TellsLines written written_after end (Runs limit frames old.shelf new.shelf old.faults new.faults deck))
    runs_on end of =
        let deck : Deck = of.0 in
        let told = of.3 in
        let safe = no_false_file deck (IsSafeRun shown_of_state old deck.statements) told.0
        (λ name before after real run begun. over_run old name real deck.statements before told.0 after run begun) told.3 in
        (deck, of.1, elsewhere deck of.2, (told.0, told.1, told.2, by_states (RunsWhole shown_of_state) limit frames deck told.0 first last limits told.3 safe))

    pub breaks_off : OfDeck shown_of_state bytes old new (λ deck. ToldInPart written written_after (RunsInPart shown_of_state old new deck))
        → OnShelf bytes old.shelf new.shelf (λ deck. ToldInPart written written_after (BreaksOff limit frames old.shelf new.shelf old.faults new.faults deck))
    breaks_off of =
        let deck : Deck = of.0 in
        let told = of.3 in
        let lines = told.0 ++ told.1 ∷ told.2 in
        let safe = no_false_file deck (IsSafeBrokenOff shown_of_state old deck.statements) lines
        (λ name before after real run begun. over_broken_off old name real deck.statements before lines after run begun) told.9 in
        (deck, of.1, elsewhere deck of.2, (told.0, told.1, told.2, told.3, told.4, told.5, told.6, told.7, told.8, by_states (RunsInPart shown_of_state) limit frames deck lines first last limits told.9 safe))

-- ---- over any library whose states these are

module _ {S : Type 0} (state : S → LibraryState) where
  pub keeps_in : (old new : S) → Keeps (shown_by state) old new → Keeps shown_of_state (state old) (state new)
  keeps_in old new keeps = record { honest = keeps.honest; truth = keeps.truth; count = keeps.count; limit = keeps.limit; frames = keeps.frames }

  pub untouched_in : (old new : S) → IsUntouched (shown_by state) old new → IsUntouched shown_of_state (state old) (state new)
  untouched_in old new is = record {
    named = is.named;
    images = λ honest name. stays state old new name (is.images honest name);
  }

  pub whole_in : (bytes : List ℕ) (old new : S) (written written_after : Option (List ℕ)) (end : RunEnd)
      → OfDeck (shown_by state) bytes old new (λ deck. TellsLines written written_after end (RunsWhole (shown_by state) old new deck))
      → OfDeck shown_of_state bytes (state old) (state new) (λ deck. TellsLines written written_after end (RunsWhole shown_of_state (state old) (state new) deck))
  whole_in bytes old new written written_after end of =
      let told = of.3 in
      (of.0, of.1, of.2, (told.0, told.1, told.2, runs_whole state old new of.0 told.0 told.3))

  pub part_in : (bytes : List ℕ) (old new : S) (written written_after : Option (List ℕ))
      → OfDeck (shown_by state) bytes old new (λ deck. ToldInPart written written_after (RunsInPart (shown_by state) old new deck))
      → OfDeck shown_of_state bytes (state old) (state new) (λ deck. ToldInPart written written_after (RunsInPart shown_of_state (state old) (state new) deck))
  part_in bytes old new written written_after of =
      let told = of.3 in
      (of.0, of.1, of.2, (told.0, told.1, told.2, told.3, told.4, told.5, told.6, told.7, told.8, runs_in_part state old new of.0 (told.0 ++ told.1 ∷ told.2) told.9))
