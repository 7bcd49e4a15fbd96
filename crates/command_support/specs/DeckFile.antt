-- A file of a deck, by its name. All of this is ours.
use Rattle.std.specs.Prelude.{◌≡◌, ℕ, Bool, List, map, find, bytes_eq, Option, Some, None, IsSome, ⊤}
use Rattle.std.specs.Prelude.{Result, IfOk, IfErr}
use Rattle.std.specs.Char.{to_ascii_lowercase}
use Rattle.clap.specs.Words.{Text as Word}
use Rattle.file_control.specs.Description.{FileDesc}
use Rattle.deck_reader.specs.declared.deck.Deck.{Deck}
use Rattle.deck_reader.specs.Deck.{IsDeck}
use Rattle.deck_runner.specs.DeckRun.{IsNoDeck}
use Rattle.deck_parser.specs.declared.fault.DeckFault.{DeckFault}
use Rattle.folder_shelf.specs.Calls.{Call}
use Rattle.command_support.specs.Front.{OfNamedDeck}
use Rattle.command_support.specs.declared.fault.CommandFault.{CommandFault}
use Rattle.command_support.specs.declared.fault.CommandFault.TheVariants.{Deck as DeckRefused, NoSuchFile, Input}
use Rattle.command_support.specs.declared.fault.CommandFault.TheVariants.{Output, Memory}

-- the name is that of the file in its deck, in capitals or small letters
abbrev pub is_named_in_deck : (name : List ℕ) → FileDesc → Bool
is_named_in_deck name file = bytes_eq (map to_ascii_lowercase name) (map to_ascii_lowercase file.name)

-- the file is the one of these that has the name
abbrev pub IsFileOf : List FileDesc → (name : List ℕ) → FileDesc → Type 0
IsFileOf files name file = find (is_named_in_deck name) files ≡ Some file

-- bytes of which this is so are a deck, and the file is that of this name in it
pub record IsOfDeck (IsRead : List ℕ → Type 0) (name : Word) (file : FileDesc) : Type 0 where
  pub bytes : List ℕ
  pub is_read : IsRead bytes
  pub deck : Deck
  pub is_deck : IsDeck bytes deck
  pub named : IsFileOf deck.files name file

-- one of the two is given, and the other is not
abbrev pub IsHalf : (deck name : Option Word) → Type 0
IsHalf None None = ⊥
IsHalf None (Some name) = ⊤
IsHalf (Some deck) None = ⊤
IsHalf (Some deck) (Some name) = ⊥

-- a file of a deck is asked for
abbrev pub IsDeckAsked : (deck name : Option Word) → Type 0
IsDeckAsked deck name = IsSome deck × IsSome name

-- the file is that of this name in a deck, where both are given
abbrev pub IsDeckFile : (IsRead : Word → List ℕ → Type 0) → (deck name : Option Word) → FileDesc → Type 0
IsDeckFile IsRead None None file = ⊥
IsDeckFile IsRead None (Some name) file = ⊥
IsDeckFile IsRead (Some deck) None file = ⊥
IsDeckFile IsRead (Some deck) (Some name) file = IsOfDeck (IsRead deck) name file

-- why nothing came of a file of a deck: the deck is refused or has no such file, or the input, the
-- output or memory failed
abbrev pub IsDeckFault : CommandFault → Type 0
IsDeckFault (DeckRefused fault) = ⊤
IsDeckFault NoSuchFile = ⊤
IsDeckFault Input = ⊤
IsDeckFault Output = ⊤
IsDeckFault Memory = ⊤
IsDeckFault fault = ⊥

-- the deck is that of a path, or of the input where the path is a hyphen
abbrev pub IsDeckAt : List Call → Option (List ℕ) → (path : List ℕ) → Deck → Type 0
IsDeckAt calls input path deck = OfNamedDeck calls input path (λ bytes. IsDeck bytes deck)

-- what came of a file of a deck is so; or nothing did
pub record ComesOfDeck {X : Type 0} (IsSo : X → Type 0) (result : Result X CommandFault) : Type 0 where
  pub right : IfOk result IsSo
  pub fault : IfErr result IsDeckFault

-- the deck that the bytes are; or they are none, and it is told why
pub record GivesDeck (bytes : List ℕ) (result : Result Deck CommandFault) : Type 0 where
  pub deck : IfOk result (IsDeck bytes)
  pub refused : IfErr result (λ fault. (told : DeckFault) → fault ≡ DeckRefused told → IsNoDeck bytes told)
  pub fault : IfErr result IsDeckFault
