-- What the bytes of a closed file are, and what they stand for.
use Rattle.std.specs.Prelude.{◌≡◌, ℕ, ◌*◌, ◌≤◌, List, length, Option, IsSome}
use Rattle.record_layout.specs.Schema.{Schema}
use Rattle.indexed_file.specs.File.{File}
use Rattle.pages.specs.PageMap.{PageMap}
use Rattle.page_store.specs.DeviceFile.{page_of_bytes}
use Rattle.page_alloc.specs.Chain.{chain, used}
use Rattle.open_file.specs.declared.first_page.Header.{Header}
use Rattle.open_file.specs.FirstPage.{IsFirstPage}
use Rattle.open_file.specs.Closed.{StandsClosed}

-- the first page is that of a file which was closed with this header, and all pages that it counts
-- are there
pub record IsAcceptedBy (header : Header) (bytes : List ℕ) : Type 0 where
  pub first : IsFirstPage header (page_of_bytes bytes 0)
  pub whole : 4096 * header.pages ≤ length bytes

-- the free pages, where their chain is whole
abbrev pub free_in : Header → List ℕ → Option (List ℕ)
free_in header bytes = chain (page_of_bytes bytes) header.pages header.first_free header.free

-- the pages in use
abbrev pub live_in : Header → List ℕ → PageMap
live_in header bytes = used (page_of_bytes bytes) header.pages (free_in header bytes)

-- the free pages stand in a chain, and the pages in use stand for this file
pub record StandsIn (header : Header) (bytes : List ℕ) (file : File) : Type 0 where
  pub free : IsSome (free_in header bytes)
  pub pages : StandsClosed header (used (page_of_bytes bytes) header.pages (free_in header bytes)) file

-- bytes of this schema that stand for this file
pub record AreClosed (schema : Schema) (file : File) (bytes : List ℕ) : Type 0 where
  pub header : Header
  pub schema_is : header.schema ≡ schema
  pub accepted : IsAcceptedBy header bytes
  pub stands : StandsIn header bytes file
