-- A deck: which words spell it, and which bytes are it.
-- ANSI X3.23-1985, Nucleus module: the divisions of a source program. Its free form, and which
-- divisions there are, is ours.
use Rattle.std.specs.Prelude.{◌≡◌, ℕ, List, [], drop}
use Rattle.deck_parser.specs.Word.{Word}
use Rattle.deck_parser.specs.Words.{HasWords}
use Rattle.file_control.specs.declared.description.Description.{Description}
use Rattle.file_control.specs.Whole.{IsDescription}
use Rattle.deck_reader.specs.Procedure.{procedure}
use Rattle.deck_reader.specs.declared.deck.Deck.{Deck}

-- the words are a description, and behind it, from the word PROCEDURE to the end, a procedure of the
-- deck's statements, which stand at their places
abbrev pub Spells : List Word → Deck → Type 0
Spells words deck =
    (description : Description) × IsDescription words description
    × (deck.files ≡ description.files) × (deck.items ≡ description.items)
    × (procedure (record { files = deck.files; items = deck.items })).Spells
    (record { statements = deck.statements; places = deck.places }) (drop description.words words) []

-- the bytes give words, and these spell the deck
abbrev pub IsDeck : List ℕ → Deck → Type 0
IsDeck bytes deck = (words : List Word) × HasWords bytes words × Spells words deck
