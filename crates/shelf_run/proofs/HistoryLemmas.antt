-- Nights that follow one another.
use Rattle.std.proofs.Common.{◌≡◌, ℕ, List, [], ◌∷◌, Option, sym, subst}
use Rattle.std.proofs.lemmas.List.Elements.{All-head, All-tail, All-weaker}
use Rattle.indexed_file.specs.World.{World, named_in}
use Rattle.file_control.specs.Description.{file_names}
use Rattle.deck_reader.specs.declared.deck.Deck.{Deck}
use Rattle.deck_reader.specs.Deck.{IsDeck}
use Rattle.shelf_run.specs.Files.{reads_of, Represents, AreIn}
use Rattle.shelf_run.specs.Histories.{Night, IsCleanNight, decks_of, CleanNights, NightsFromNothing, no_files}
use Rattle.shelf_run.specs.ExactRun.{world_after}
use Rattle.shelf_run.proofs.WorldLemmas.{RunsFrom}

-- no bytes are two decks
module _ (one_deck : (bytes : List ℕ) (a b : Deck) → IsDeck bytes a → IsDeck bytes b → a ≡ b) where
  -- a clean night is exact in each world that its files represented
  exact_night : (world : World) (night : Night) → IsCleanNight night → AreIn world (reads_of night.old) night.deck
      → RunsFrom world night.old night.new night.written night.written_after night.end night.deck
  exact_night world night is are =
      let exact = is.exact is.clean in
      let same : night.deck ≡ exact.0 = one_deck night.bytes night.deck exact.0 is.deck_is exact.1 in
      subst (λ (deck : Deck). RunsFrom world night.old night.new night.written night.written_after night.end deck) (sym same)
      (exact.2 is.honest world (subst (λ (deck : Deck). AreIn world (reads_of night.old) deck) same are))

  pub clean_nights : CleanNights
  clean_nights world reads [] follow are = record { transcripts_are = tt; files_are = λ name is. is }
  clean_nights world reads (night ∷ nights) follow are =
      let begins = follow.0 in
      let first : AreIn world reads night.deck = All-head (AreIn world reads) night.deck (decks_of nights) are in
      let as_found : AreIn world (reads_of night.old) night.deck =
      All-weaker (λ name. Represents (reads name) (named_in world name)) (λ name. Represents (reads_of night.old name) (named_in world name))
      (λ name. subst (λ (c : Option (List ℕ)). Represents c (named_in world name)) (sym (begins name))) (file_names night.deck.files) first in
      let exact = exact_night world night follow.1 as_found in
      let next : (name : List ℕ) → Represents (reads name) (named_in world name) → Represents (reads_of night.new name) (named_in (world_after world night.deck) name) =
      λ name is. exact.1 name (subst (λ (c : Option (List ℕ)). Represents c (named_in world name)) (sym (begins name)) is) in
      let later = All-weaker (AreIn world reads) (AreIn (world_after world night.deck) (reads_of night.new))
      (λ deck. All-weaker (λ name. Represents (reads name) (named_in world name)) (λ name. Represents (reads_of night.new name) (named_in (world_after world night.deck) name)) next (file_names deck.files))
      (decks_of nights) (All-tail (AreIn world reads) night.deck (decks_of nights) are) in
      let rest = clean_nights (world_after world night.deck) (reads_of night.new) nights follow.2 later in
      record { transcripts_are = (exact.0.transcript_is, rest.transcripts_are); files_are = λ name is. rest.files_are name (next name is) }

  pub from_nothing : NightsFromNothing
  from_nothing reads nights follow none = clean_nights no_files reads nights follow none
