-- Nights that end in any way, or that a crash stops.
use Rattle.std.proofs.Common.{◌⊎◌, ℕ, List, [], ◌∷◌, All, IsTrue, inl, inr, refl}
use Rattle.std.proofs.lemmas.List.Elements.{All-nil, All-cons, All-head, All-tail, All-weaker}
use Rattle.page_store.specs.Moments.{Throughout}
use Rattle.page_store.specs.ShelfState.{ShelfState}
use Rattle.page_store.proofs.MomentLemmas.{throughout_none}
use Rattle.file_control.specs.Description.{file_names}
use Rattle.deck_reader.specs.declared.deck.Deck.{Deck}
use Rattle.deck_reader.specs.Deck.{IsDeck}
use Rattle.shelf_library.specs.Named.{named_of}
use Rattle.shelf_library.specs.MomentLaws.{found_such}
use Rattle.shelf_library.specs.Crashes.{IsSoundImage}
use Rattle.shelf_run.specs.Files.{reads_of}
use Rattle.shelf_run.specs.Soundness.{AllSound, AreImagesSound, AreSoundThroughout}
use Rattle.shelf_run.specs.ShelfRun.{LeavesFiles}
use Rattle.shelf_run.specs.AnyNights.{AnyNight, NightHasEnded, WasBrokenOff, IsNight, FollowAnyhow, StartsSound, AnyNights}
use Rattle.shelf_run.proofs.FilesLemmas.{represents_sound}

-- ---- one night

-- a run of which nothing came leaves what is sound
nothing_came : (old new : ShelfState) → IsTrue new.is_honest → LeavesFiles old new → AreSoundThroughout old new
nothing_came old new honest leaves name all =
    ((leaves.images honest name).within (throughout_none IsSoundImage (old.file name) (old.file name) refl all)).0

-- a night keeps what is sound, where whatever a crash may leave of the files of its deck was sound
kept : (night : AnyNight) → IsNight night → ((deck : Deck) → IsDeck night.bytes deck → AreImagesSound night.old deck) → AreSoundThroughout night.old night.new
kept night is sound = go is.ends
  where
    go : NightHasEnded night ⊎ (WasBrokenOff night ⊎ LeavesFiles night.old night.new) → AreSoundThroughout night.old night.new
    go (inl ended) = let run = ended.1 in run.3.3.no_false_file is.honest (sound run.0 run.1)
    go (inr (inl broken)) = broken.3.9.no_false_file is.honest (sound broken.0 broken.1)
    go (inr (inr none)) = nothing_came night.old night.new is.honest none

-- ---- all nights

all_nights : (first old new : ShelfState) (nights : List AnyNight) → ((name : List ℕ) → AllSound (first.file name) → Throughout IsSoundImage (old.file name) (new.file name))
    → FollowAnyhow old new nights → All (λ night. (deck : Deck) → IsDeck night.bytes deck → AreImagesSound first deck) nights → All (StartsSound first) nights
all_nights first old new [] good follow decks = All-nil (StartsSound first)
all_nights first old new (night ∷ nights) good follow decks =
    let starts = follow.0 in
    let is = follow.1 in
    let OfDecks : AnyNight → Type 0 = λ other. (deck : Deck) → IsDeck other.bytes deck → AreImagesSound first deck in
    let begun : (name : List ℕ) → AllSound (first.file name) → AllSound (night.old.file name) =
    λ name all c leaves. found_such IsSoundImage (old.file name) (new.file name) (good name all) c (starts.found name c leaves) in
    let here : StartsSound first night =
    λ name all. let c = reads_of night.old name in (named_of c, represents_sound c (begun name all c (starts.reads name))) in
    let own : (deck : Deck) → IsDeck night.bytes deck → AreImagesSound first deck = All-head OfDecks night nights decks in
    let went : AreSoundThroughout night.old night.new = kept night is
    (λ deck it. All-weaker (λ name. AllSound (first.file name)) (λ name. AllSound (night.old.file name)) begun (file_names deck.files) (own deck it)) in
    let rest = all_nights first night.old night.new nights (λ name all. went name (begun name all)) follow.2 (All-tail OfDecks night nights decks) in
    All-cons (StartsSound first) night nights here rest

pub any_nights : AnyNights
any_nights first nights = all_nights first first first nights (λ name all. throughout_none IsSoundImage (first.file name) (first.file name) refl all)
