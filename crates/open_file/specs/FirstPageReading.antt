-- The header in a page.
use Rattle.std.specs.Prelude.{ℕ, ◌+◌, ◌==◌, ◌&&◌, List, ◌++◌, map, min, drop, codes, slice_index, slice_range}
use Rattle.std.specs.Prelude.{nat_eq, Option, Some, None, if◌then◌else◌}
use Rattle.std.specs.Cmp.Lexicographic.{pointwise}
use Rattle.byteorder.specs.Endian.{big_number}
use Rattle.pages.specs.Chunks.{chunks}
use Rattle.record_layout.specs.declared.schema.KeyKind.{KeyKind}
use Rattle.record_layout.specs.declared.schema.KeyKind.TheVariants.{Prime, Unique, Duplicates}
use Rattle.record_layout.specs.declared.schema.KeyPart.{KeyPart}
use Rattle.record_layout.specs.Schema.{Schema}
use Rattle.open_file.specs.declared.first_page.Header.{Header}
use Rattle.open_file.specs.declared.first_page.TreeNumbers.{TreeNumbers}
use Rattle.open_file.specs.FirstPage.{header_bytes}
use Rattle.open_file.specs.BoundTests.{is_header}

-- the number in n bytes from a place on
abbrev pub number_in : List ℕ → ℕ → ℕ → ℕ
number_in page start n = big_number n (slice_range page start (start + n))

-- the greatest length that a page tells
abbrev pub greatest_in : List ℕ → ℕ
greatest_in page = number_in page 10 2

-- the least length that a page tells, which in version 1 is the greatest
abbrev pub least_in : List ℕ → ℕ
least_in page = if number_in page 8 2 == 1 then greatest_in page else number_in page 36 2

-- the number of keys that are read: at most 9
abbrev pub key_count_in : List ℕ → ℕ
key_count_in page = min (slice_index page 34) 9

-- the rows of the keys
abbrev pub key_rows_in : List ℕ → ℕ → List (List ℕ)
key_rows_in page count = chunks 16 count (drop 64 page)

-- the kind that a byte tells, which is of no use where the byte is not that of a kind: then the page is not
-- the one that its numbers make
abbrev pub kind_in : ℕ → KeyKind
kind_in byte = if byte == 0 then Prime else if byte == 2 then Duplicates else Unique

-- the part of a record that a row tells
abbrev pub part_in : List ℕ → KeyPart
part_in row = record {
  offset = number_in row 0 2;
  length = number_in row 2 2;
  kind = kind_in (slice_index row 4);
}

-- the tree that a row tells
abbrev pub tree_in : List ℕ → TreeNumbers
tree_in row = record { height = slice_index row 5; root = number_in row 8 4 }

-- the lengths and the keys that a page tells
abbrev pub schema_in_page : List ℕ → Schema
schema_in_page page =
    record {
      least = least_in page;
      greatest = greatest_in page;
      keys = map part_in (key_rows_in page (key_count_in page));
    }

-- what stands at the places of the table, whether or not the page is a first page
unfoldable pub numbers_in : List ℕ → Header
numbers_in page = record {
  schema = schema_in_page page;
  pages = number_in page 12 4;
  first_free = number_in page 16 4;
  free = number_in page 20 4;
  first_heap = number_in page 24 4;
  free_slot_page = number_in page 28 4;
  free_slot = number_in page 32 2;
  next_stamp = number_in page 40 8;
  records = number_in page 48 8;
  trees = record { items = map tree_in (key_rows_in page (key_count_in page)) };
}

-- the header of a file, by its first page: where the page is the one that its numbers make
unfoldable pub header_in : List ℕ → Option Header
header_in page =
    let header = numbers_in page in
    let closed = codes "C" ++ drop 1 (header_bytes header) in
    if is_header header && pointwise nat_eq page closed then Some header else None
