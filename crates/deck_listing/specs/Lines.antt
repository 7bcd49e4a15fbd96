-- The lines of the list of a deck. Their form is ours.
use Rattle.std.specs.Prelude.{ℕ, ◌==◌, ◌&&◌, ◌||◌, bytes_eq, Bool, true, false, List, [], ◌∷◌, ◌++◌, codes, decimal, find}
use Rattle.std.specs.Prelude.{is_some, Option, Some, None, option_and_then, if◌then◌else◌}
use Rattle.io_state.specs.declared.modes.Access.{Access}
use Rattle.io_state.specs.declared.modes.Access.TheVariants.{Sequential, Random, Dynamic}
use Rattle.record_layout.specs.Layout.{Placed}
use Rattle.record_layout.specs.declared.schema.KeyKind.{KeyKind}
use Rattle.record_layout.specs.declared.schema.KeyKind.TheVariants.{Prime, Unique, Duplicates}
use Rattle.record_layout.specs.declared.schema.KeyPart.{KeyPart}
use Rattle.deck_reader.specs.VerbText.{verb_text}
use Rattle.deck_listing.specs.Verbs.{NumberedVerb}

-- ---- items

abbrev pub name_or_filler : Option (List ℕ) → List ℕ
name_or_filler None = codes "FILLER"
name_or_filler (Some name) = name

abbrev pub digits_word : Bool → List ℕ
digits_word true = codes " digits"
digits_word false = []

-- an item: its name, its place from 0, its length, and whether it is of digits
abbrev pub item_line : Placed → List ℕ
item_line item =
    codes "  item " ++ (name_or_filler item.name ++ (codes " offset "
    ++ (decimal item.field.offset ++ (codes " length "
    ++ (decimal item.field.length ++ (digits_word item.field.numeric ++ codes "\n"))))))

-- ---- keys

-- the item has a name, and is the very bytes of the key
abbrev pub is_key_item : KeyPart → Placed → Bool
is_key_item key item = is_some item.name && (item.field.offset == key.offset
    && item.field.length == key.length)

-- the name of the first such item
abbrev pub key_name : List Placed → KeyPart → List ℕ
key_name layout key = name_or_filler (option_and_then (λ (item : Placed). item.name)
    (find (is_key_item key) layout))

abbrev pub key_kind : KeyKind → List ℕ
key_kind Prime = codes "prime"
key_kind Unique = codes "unique"
key_kind Duplicates = codes "duplicates"

-- a key: its number, its item's name, and whether two records may have one value of it
abbrev pub key_line : ℕ → List ℕ → KeyPart → List ℕ
key_line k name key =
    codes "  key " ++ (decimal k ++ (codes " " ++ (name
    ++ (codes " offset " ++ (decimal key.offset ++ (codes " length "
    ++ (decimal key.length ++ (codes " " ++ (key_kind key.kind ++ codes "\n")))))))))

-- ---- files

abbrev pub access_word : Access → List ℕ
access_word Sequential = codes "sequential"
access_word Random = codes "random"
access_word Dynamic = codes "dynamic"

abbrev pub optional_word : Bool → List ℕ
optional_word true = codes " optional"
optional_word false = []

-- the least and the greatest length of records, or the only one
abbrev pub lengths_text : (least greatest : ℕ) → List ℕ
lengths_text least greatest = if least == greatest then decimal greatest else decimal least
    ++ (codes " to " ++ decimal greatest)

-- a file: its name, its name in the folder, the lengths of its records, and how it is accessed
abbrev pub heading : (name file lengths access optional : List ℕ) → List ℕ
heading name file lengths access optional =
    codes "file " ++ (name ++ (codes " " ++ (file ++ (codes " record "
    ++ (lengths ++ (codes " access " ++ (access ++ (optional ++ codes "\n"))))))))

-- the same, with what the file is described by
abbrev pub heading_with : (name file : List ℕ) → ℕ × ℕ → Access → Bool → List ℕ
heading_with name file lengths access optional =
    heading name file (lengths_text lengths.0 lengths.1) (access_word access) (optional_word optional)

-- ---- verbs and paragraphs

-- a verb: its number, the line of the deck, and what it does to which file
abbrev pub verb_line : ℕ → NumberedVerb → List ℕ
verb_line line verb =
    codes "verb " ++ (decimal verb.number ++ (codes " line "
    ++ (decimal line ++ (codes " " ++ (verb_text verb.statement
    ++ (codes " " ++ (verb.file ++ codes "\n")))))))

-- a paragraph has the name of a statement that other COBOLs have, and a deck has not
abbrev pub is_statement_elsewhere : List ℕ → Bool
is_statement_elsewhere name = bytes_eq name (codes "GOBACK") || bytes_eq name (codes "EXIT")
    || bytes_eq name (codes "COMMIT") || bytes_eq name (codes "ROLLBACK")

-- so much is said of it
abbrev pub paragraph_note : List ℕ → List ℕ
paragraph_note name = if is_statement_elsewhere name then codes ": no statement, it does nothing" else []

abbrev pub paragraph_line : (line : ℕ) (name : List ℕ) → List ℕ
paragraph_line line name = codes "paragraph " ++ (name ++ (codes " line "
    ++ (decimal line ++ (paragraph_note name ++ codes "\n"))))
