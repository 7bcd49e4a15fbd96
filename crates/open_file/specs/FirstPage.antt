-- The bytes of a file's first page, row for row of its table. Numbers are big-endian.
use Rattle.std.specs.Prelude.{ℕ, ◌-◌, ◌==◌, List, [], ◌∷◌, ◌++◌, length, replicate, codes, flat_map, zip}
use Rattle.std.specs.Prelude.{if◌then◌else◌, ◌≡◌, drop}
use Rattle.std.specs.List.{concat}
use Rattle.byteorder.specs.Endian.{big_bytes}
use Rattle.record_layout.specs.declared.schema.KeyKind.TheVariants.{Prime, Unique}
use Rattle.record_layout.specs.declared.schema.KeyPart.{KeyPart}
use Rattle.record_layout.specs.Schema.{same_kind}
use Rattle.open_file.specs.declared.first_page.Header.{Header}
use Rattle.open_file.specs.declared.first_page.TreeNumbers.{TreeNumbers}
use Rattle.open_file.specs.Bounds.{IsHeader}

-- bytes 0 to 63: the gate, the text, and the numbers. Where all records have one length, the version is 1,
-- which does not tell the least length, else 2
unfoldable pub first_bytes : Header → List ℕ
first_bytes header = concat (
    codes "D"
    ∷ codes "COBIXIF"
    ∷ big_bytes 2 (if header.schema.least == header.schema.greatest then 1 else 2)
    ∷ big_bytes 2 header.schema.greatest
    ∷ big_bytes 4 header.pages
    ∷ big_bytes 4 header.first_free
    ∷ big_bytes 4 header.free
    ∷ big_bytes 4 header.first_heap
    ∷ big_bytes 4 header.free_slot_page
    ∷ big_bytes 2 header.free_slot
    ∷ (length header.schema.keys ∷ [])
    ∷ replicate 1 0
    ∷ big_bytes 2 (if header.schema.least == header.schema.greatest then 0 else header.schema.least)
    ∷ replicate 2 0
    ∷ big_bytes 8 header.next_stamp
    ∷ big_bytes 8 header.records
    ∷ replicate 8 0
    ∷ [])

-- the 16 bytes of a key and of its tree. The byte of its kind is 0 for the prime key, 1 for an alternate key
-- whose values are unique, 2 for one with duplicates
unfoldable pub key_row_bytes : KeyPart → TreeNumbers → List ℕ
key_row_bytes part tree = concat (
    big_bytes 2 part.offset
    ∷ big_bytes 2 part.length
    ∷ ((if same_kind part.kind Prime then 0 else if same_kind part.kind Unique then 1 else 2) ∷ [])
    ∷ (tree.height ∷ [])
    ∷ replicate 2 0
    ∷ big_bytes 4 tree.root
    ∷ replicate 4 0
    ∷ [])

-- the first page of a file with this header, as it is written: its gate is open, each key stands with its
-- tree, and then there are zeros
unfoldable pub header_bytes : Header → List ℕ
header_bytes header =
    let rows = flat_map (λ row. key_row_bytes row.0 row.1) (zip header.schema.keys header.trees.items) in
    let told = first_bytes header ++ rows in
    told ++ replicate (4096 - length told) 0

-- the page is the first one of a file that was closed with this header: its gate is closed
pub record IsFirstPage (header : Header) (page : List ℕ) : Type 0 where
  pub allowed : IsHeader header
  pub bytes : page ≡ codes "C" ++ drop 1 (header_bytes header)
