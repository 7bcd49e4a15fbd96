-- The lines that tell how the schema of a file differs from that of a deck. Their form is ours.
use Rattle.std.specs.Prelude.{ℕ, ◌+◌, ◌==◌, ◌&&◌, Bool, true, false, List, [], ◌∷◌, ◌++◌, codes, decimal}
use Rattle.std.specs.Prelude.{if◌then◌else◌}
use Rattle.record_layout.specs.declared.schema.KeyKind.{KeyKind}
use Rattle.record_layout.specs.declared.schema.KeyPart.{KeyPart}
use Rattle.record_layout.specs.Schema.{Schema, same_kind}
use Rattle.file_reports.specs.SchemaLines.{record_lengths_text, kind_text}

-- what the file has, what the deck has instead, and LF
abbrev pub against : List ℕ → List ℕ → List ℕ
against file deck = file ++ (codes ", deck " ++ (deck ++ codes "\n"))

-- the lengths of records, where they are not the same
abbrev pub record_difference : Schema → Schema → List ℕ
record_difference file deck =
    if (file.least == deck.least) && (file.greatest == deck.greatest) then []
    else codes "record " ++ against (record_lengths_text file.least file.greatest)
    (record_lengths_text deck.least deck.greatest)

-- a number of key k, where it is not the same
abbrev pub number_difference : ℕ → List ℕ → ℕ → ℕ → List ℕ
number_difference k name file deck =
    if file == deck then []
    else codes "key " ++ (decimal k ++ (name ++ against (decimal file) (decimal deck)))

-- the kind of key k, where it is not the same
abbrev pub kind_difference : ℕ → KeyKind → KeyKind → List ℕ
kind_difference k file deck =
    if same_kind file deck then []
    else codes "key " ++ (decimal k ++ (codes " " ++ against (kind_text file) (kind_text deck)))

-- key k of both
abbrev pub key_difference : ℕ → KeyPart → KeyPart → List ℕ
key_difference k file deck =
    number_difference k (codes " offset ") file.offset deck.offset
    ++ (number_difference k (codes " length ") file.length deck.length
    ++ kind_difference k file.kind deck.kind)

-- all of a key
abbrev pub key_text : KeyPart → List ℕ
key_text part =
    codes "offset " ++ (decimal part.offset ++ (codes " length "
    ++ (decimal part.length ++ (codes " " ++ kind_text part.kind))))

-- key k, which one of them alone has
abbrev pub key_of_file : ℕ → KeyPart → List ℕ
key_of_file k part = codes "key " ++ (decimal k ++ (codes " " ++ against (key_text part) (codes "none")))

abbrev pub key_of_deck : ℕ → KeyPart → List ℕ
key_of_deck k part = codes "key " ++ (decimal k ++ (codes " " ++ against (codes "none") (key_text part)))

-- the keys of both from key k on
abbrev pub key_differences : ℕ → List KeyPart → List KeyPart → List ℕ
key_differences k [] [] = []
key_differences k (part ∷ file) [] = key_of_file k part ++ key_differences (k + 1) file []
key_differences k [] (part ∷ deck) = key_of_deck k part ++ key_differences (k + 1) [] deck
key_differences k (part ∷ file) (other ∷ deck) =
    key_difference k part other ++ key_differences (k + 1) file deck

-- all lines
abbrev pub differences : Schema → Schema → List ℕ
differences file deck = record_difference file deck ++ key_differences 0 file.keys deck.keys

-- whether no line is told
abbrev pub is_none : List ℕ → Bool
is_none [] = true
is_none (byte ∷ lines) = false
