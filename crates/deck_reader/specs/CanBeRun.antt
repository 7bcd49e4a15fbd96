-- What a run of a deck may rely on.
use Rattle.std.specs.Prelude.{All}
use Rattle.file_control.specs.Described.{AreDescribed}
use Rattle.deck_reader.specs.Names.{names_of}
use Rattle.deck_reader.specs.Allowed.{IsAllowed}
use Rattle.deck_reader.specs.declared.deck.Deck.{Deck}

-- what a run can rely on: the files and items are described, and each statement is allowed
pub record CanBeRun (deck : Deck) : Type 0 where
  pub described : AreDescribed deck.files deck.items
  pub allowed : All (IsAllowed (names_of deck.files deck.items)) deck.statements
