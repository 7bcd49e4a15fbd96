-- What is true of the header of each file: a fact for each thing that the format asks.
use Rattle.std.specs.Prelude.{◌≡◌, ℕ, ◌+◌, ◌^◌, ◌<◌, ◌≤◌, length, All}
use Rattle.record_layout.specs.Schema.{IsSchema}
use Rattle.open_file.specs.declared.first_page.Header.{Header}
use Rattle.open_file.specs.declared.first_page.TreeNumbers.{TreeNumbers}

-- a tree of 1 to 20 levels, with its root in one of the pages behind the header
pub record AreTreeNumbers (pages : ℕ) (tree : TreeNumbers) : Type 0 where
  pub some : 1 ≤ tree.height
  pub low : tree.height ≤ 20
  pub behind : 1 ≤ tree.root
  pub within : tree.root < pages

-- links are within the pages, and page 0 is none; the free pages are fewer than the pages; stamps
-- begin with 1
pub record AreLinksWithin (header : Header) : Type 0 where
  pub counted : 1 + length header.schema.keys ≤ header.pages
  pub trees : All (AreTreeNumbers header.pages) header.trees.items
  pub first_free : header.first_free < header.pages
  pub free : header.free < header.pages
  pub first_heap : header.first_heap < header.pages
  pub free_slot : header.free_slot_page < header.pages
  pub stamped : 1 ≤ header.next_stamp
  pub limit : header.next_stamp ≤ 2 ^ 63

-- each number has room in its bytes
pub record FitsItsBytes (header : Header) : Type 0 where
  pub pages : header.pages < 2 ^ 32
  pub slot : header.free_slot < 2 ^ 16
  pub records : header.records < 2 ^ 64

-- a header that a file may have
pub record IsHeader (header : Header) : Type 0 where
  pub schema : IsSchema header.schema
  pub trees : length header.trees.items ≡ length header.schema.keys
  pub within : AreLinksWithin header
  pub room : FitsItsBytes header
