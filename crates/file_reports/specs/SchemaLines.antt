-- The lines that tell of a file by its header. Their form is ours.
use Rattle.std.specs.Prelude.{ℕ, ◌+◌, ◌*◌, ◌==◌, List, [], ◌∷◌, ◌++◌, codes, decimal, if◌then◌else◌}
use Rattle.record_layout.specs.declared.schema.KeyKind.{KeyKind}
use Rattle.record_layout.specs.declared.schema.KeyKind.TheVariants.{Prime, Unique, Duplicates}
use Rattle.record_layout.specs.declared.schema.KeyPart.{KeyPart}
use Rattle.record_layout.specs.Schema.{Schema}
use Rattle.open_file.specs.declared.first_page.Header.{Header}
use Rattle.open_file.specs.declared.first_page.TreeNumbers.{TreeNumbers}

-- how long records are: one length, or the least and the greatest
abbrev pub record_lengths_text : ℕ → ℕ → List ℕ
record_lengths_text least greatest = if least == greatest then decimal greatest else decimal least
    ++ (codes " to " ++ decimal greatest)

abbrev pub record_line : Schema → List ℕ
record_line schema = codes "record " ++ (record_lengths_text schema.least schema.greatest ++ codes "\n")

-- the kind of a key
abbrev pub kind_text : KeyKind → List ℕ
kind_text Prime = codes "prime"
kind_text Unique = codes "unique"
kind_text Duplicates = codes "duplicates"

-- key k, and where it is in a record
abbrev pub place_text : ℕ → KeyPart → List ℕ
place_text k part = codes "key " ++ (decimal k ++ (codes " offset "
    ++ (decimal part.offset ++ (codes " length " ++ decimal part.length))))

-- its kind, and the levels of its tree
abbrev pub tree_text : List ℕ → ℕ → List ℕ
tree_text kind height = codes " " ++ (kind ++ (codes " height " ++ (decimal height ++ codes "\n")))

abbrev pub schema_key_line : ℕ → KeyPart → TreeNumbers → List ℕ
schema_key_line k part tree = place_text k part ++ tree_text (kind_text part.kind) tree.height

-- the keys from key k on, each with its tree
abbrev pub schema_key_lines : ℕ → List KeyPart → List TreeNumbers → List ℕ
schema_key_lines k [] trees = []
schema_key_lines k (part ∷ parts) [] = []
schema_key_lines k (part ∷ parts) (tree ∷ trees) = schema_key_line k part tree
    ++ schema_key_lines (k + 1) parts trees

-- a name and a number
abbrev pub number_text : List ℕ → ℕ → List ℕ
number_text name n = name ++ (codes " " ++ (decimal n ++ codes "\n"))

unfoldable pub number_line : List ℕ → ℕ → List ℕ
number_line name n = number_text name n

-- the counts: of records, of pages and of free ones; the next stamp; and the bytes of the pages
abbrev pub count_lines : Header → List ℕ
count_lines header =
    number_line (codes "records") header.records
    ++ (number_line (codes "pages") header.pages
    ++ (number_line (codes "free pages") header.free
    ++ (number_line (codes "next stamp") header.next_stamp
    ++ number_line (codes "bytes") (header.pages * 4096))))

-- all lines
abbrev pub all_header_lines : Header → List ℕ
all_header_lines header = record_line header.schema
    ++ (schema_key_lines 0 header.schema.keys header.trees.items
    ++ count_lines header)
