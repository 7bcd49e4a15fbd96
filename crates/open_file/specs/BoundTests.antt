-- A test for each fact that is asked of a header, so that the header in a page can be computed.
use Rattle.std.specs.Prelude.{ℕ, ◌+◌, ◌^◌, ◌==◌, Bool, true, false, not, ◌&&◌, List, [], ◌∷◌, length, nat_lt}
use Rattle.std.specs.Prelude.{nat_le}
use Rattle.std.specs.List.{list_all}
use Rattle.record_layout.specs.declared.schema.KeyKind.TheVariants.{Prime}
use Rattle.record_layout.specs.declared.schema.KeyPart.{KeyPart}
use Rattle.record_layout.specs.Schema.{Schema, same_kind}
use Rattle.open_file.specs.declared.first_page.Header.{Header}
use Rattle.open_file.specs.declared.first_page.TreeNumbers.{TreeNumbers}

-- whether a tree has 1 to 20 levels, and its root within the pages
abbrev pub is_tree : ℕ → TreeNumbers → Bool
is_tree pages tree = nat_le 1 tree.height && nat_le tree.height 20 && nat_le 1 tree.root
    && nat_lt tree.root pages

-- whether the numbers are within their bounds
abbrev pub are_numbers_within : Header → Bool
are_numbers_within header =
    nat_le (1 + length header.schema.keys) header.pages
    && list_all (is_tree header.pages) header.trees.items
    && nat_lt header.first_free header.pages
    && nat_lt header.free header.pages
    && nat_lt header.first_heap header.pages
    && nat_lt header.free_slot_page header.pages
    && nat_le 1 header.next_stamp
    && nat_le header.next_stamp (2 ^ 63)

-- whether each number has room in its bytes
abbrev pub has_room : Header → Bool
has_room header = nat_lt header.pages (2 ^ 32) && nat_lt header.free_slot (2 ^ 16)
    && nat_lt header.records (2 ^ 64)

-- whether a part has 1 to 250 bytes, and each record has it whole
abbrev pub is_key : ℕ → KeyPart → Bool
is_key least part = nat_le 1 part.length && nat_le part.length 250 && nat_le (part.offset + part.length) least

-- whether the parts stand by rising offset
abbrev pub rise : List KeyPart → Bool
rise [] = true
rise (part ∷ parts) = list_all (λ later. nat_lt part.offset later.offset) parts && rise parts

-- whether the first one alone is a prime key, and the others are its alternates
abbrev pub are_keys : List KeyPart → Bool
are_keys [] = false
are_keys (prime ∷ alternates) =
    same_kind prime.kind Prime && list_all (λ part. not (part.offset == prime.offset)) alternates
    && rise alternates && list_all (λ part. not (same_kind part.kind Prime)) alternates

-- whether it is a schema
abbrev pub is_schema : Schema → Bool
is_schema schema =
    nat_le 1 schema.least
    && nat_le schema.least schema.greatest
    && nat_le schema.greatest 4000
    && nat_le (length schema.keys) 9
    && list_all (is_key schema.least) schema.keys
    && are_keys schema.keys

-- whether it is a header that a file may have
unfoldable pub is_header : Header → Bool
is_header header =
    is_schema header.schema && (length header.trees.items == length header.schema.keys)
    && are_numbers_within header
    && has_room header
