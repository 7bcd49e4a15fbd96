-- The list of a deck: its files with their items and keys, and its verbs and paragraphs in their
-- order, each with its line. All of this is ours.
use Rattle.std.specs.Prelude.{◌≡◌, ℕ, ◌+◌, List, [], ◌∷◌, ◌++◌, take, drop, flat_map, slice_get, nat_le}
use Rattle.std.specs.Prelude.{Option, is_some, if◌then◌else◌}
use Rattle.std.specs.List.{prefix_len}
use Rattle.std.specs.Option.{option_map_or}
use Rattle.record_layout.specs.Layout.{Placed}
use Rattle.record_layout.specs.declared.schema.KeyPart.{KeyPart}
use Rattle.file_control.specs.Description.{FileDesc}
use Rattle.deck_reader.specs.declared.statement.Statement.{Statement}
use Rattle.deck_reader.specs.StatementPlaces.{Paragraph}
use Rattle.deck_reader.specs.declared.deck.Deck.{Deck}
use Rattle.deck_reader.specs.Deck.{IsDeck}
use Rattle.deck_listing.specs.Verbs.{NumberedVerb, verb_of}
use Rattle.deck_listing.specs.Lines.{item_line, key_name, key_line, heading, lengths_text, access_word}
use Rattle.deck_listing.specs.Lines.{optional_word, verb_line, paragraph_line}

-- ---- files

-- the keys from this number on
abbrev pub key_lines : List Placed → ℕ → List KeyPart → List ℕ
key_lines layout k [] = []
key_lines layout k (key ∷ keys) = key_line k (key_name layout key) key ++ key_lines layout (k + 1) keys

abbrev pub heading_of : FileDesc → List ℕ
heading_of file =
    heading file.name file.file (lengths_text file.schema.least file.schema.greatest)
    (access_word file.access) (optional_word file.optional)

abbrev pub file_lines : FileDesc → List ℕ
file_lines file = heading_of file ++ (flat_map item_line file.layout
    ++ key_lines file.layout 0 file.schema.keys)

-- ---- the procedure

-- the paragraphs before a statement, where those before it in their order have been listed
abbrev pub count_before : ℕ → List Paragraph → ℕ
count_before at paragraphs = prefix_len (λ paragraph. nat_le paragraph.at at) paragraphs

abbrev pub paragraph_lines : List Paragraph → List ℕ
paragraph_lines paragraphs = flat_map (λ paragraph. paragraph_line paragraph.line paragraph.name) paragraphs

-- the line of a verb, if there is one, and how many verbs there are with it
abbrev pub line_of_verb : (line : ℕ) → Option NumberedVerb → List ℕ
line_of_verb line verb = option_map_or (verb_line line) verb []

abbrev pub verbs_with : ℕ → Option NumberedVerb → ℕ
verbs_with before verb = if is_some verb then before + 1 else before

-- the statements from one on, behind so many statements and verbs: before each the paragraphs that
-- stand there, and the line of a verb is that of its statement
abbrev pub procedure_lines : List FileDesc → List ℕ → (at before : ℕ) → List Paragraph → List Statement
    → List ℕ
procedure_lines files lines at before paragraphs [] = paragraph_lines paragraphs
procedure_lines files lines at before paragraphs (statement ∷ statements) =
    let count = count_before at paragraphs in
    let verb = verb_of files before statement in
    paragraph_lines (take count paragraphs) ++ (line_of_verb (option_map_or (λ line. line) (slice_get lines at) 0) verb
    ++ procedure_lines files lines (at + 1) (verbs_with before verb) (drop count paragraphs) statements)

-- ---- decks

abbrev pub deck_listing_text : Deck → List ℕ
deck_listing_text deck = flat_map file_lines deck.files
    ++ procedure_lines deck.files deck.places.lines 0 0 deck.places.paragraphs deck.statements

-- the text is the list of the deck that the bytes are
abbrev pub Lists : List ℕ → List ℕ → Type 0
Lists bytes text = (deck : Deck) × IsDeck bytes deck × (text ≡ deck_listing_text deck)
