-- What a closed file whose first page is accepted reads as.
use Rattle.std.proofs.Common.{◌≡◌, ℕ, ◌*◌, List, [], length, nat_lt, inl, inr, Option, Some, None, refl, sym, ap, ◌∙◌, arith}
use Rattle.std.proofs.lemmas.Bool.{cases_Bool, le-ltb}
use Rattle.indexed_file.specs.File.{File}
use Rattle.indexed_file.specs.World.{Closed}
use Rattle.page_store.specs.DeviceFile.{DeviceFile, content, bytes_or_none, page_of_bytes}
use Rattle.open_file.specs.declared.first_page.Header.{Header}
use Rattle.open_file.specs.FirstPageReading.{header_in}
use Rattle.open_file.specs.Bounds.{IsHeader}
use Rattle.open_file.proofs.PageReadLemmas.{first_read, read_first}
use Rattle.shelf_library.specs.declared.look.HeaderLook.TheVariants.{Refused, Accepted}
use Rattle.shelf_library.specs.ClosedFile.{IsAcceptedBy, live_in, StandsIn}
use Rattle.shelf_library.specs.Named.{look_of, look_by, named_of, named_by}
use Rattle.shelf_library.specs.ReadOff.{file_by}
use Rattle.open_file.proofs.ClosedLemmas.{opened_by, is_opened, opened_stands}
use Rattle.open_file.proofs.ReadOffLemmas.{reads_as}
use Rattle.shelf_library.specs.LookLemmas.{accepted_pages}
use Rattle.shelf_library.specs.ReadOffLemmas.{reads_by_header}

accepted_by : (bytes : List ℕ) (there : Option Header) (header : Header) → look_by bytes there ≡ Accepted header → there ≡ Some header
accepted_by bytes None header is = absurd (cc)
accepted_by bytes (Some other) header is = elim (cases_Bool (nat_lt (length bytes) (4096 * other.pages))) [
  | inl short ↦ let e : Refused ≡ Accepted header = rw short at is in absurd (cc)
  | inr long ↦ let e : Accepted other ≡ Accepted header = rw long at is in
      let same : other ≡ header = cc in
      ap Some same
]

-- its first page has this header
pub accepted_page : (bytes : List ℕ) (header : Header) → look_of (Some bytes) ≡ Accepted header → header_in (page_of_bytes bytes 0) ≡ Some header
accepted_page bytes header is = elim (cases_Bool (nat_lt (length bytes) 4096)) [
  | inl short ↦ let e : Refused ≡ Accepted header = rw short at is in absurd (cc)
  | inr long ↦ accepted_by bytes (header_in (page_of_bytes bytes 0)) header (rw long at is)
]

-- which is one that a file may have
pub accepted_allowed : (bytes : List ℕ) (header : Header) → look_of (Some bytes) ≡ Accepted header → IsHeader header
accepted_allowed bytes header is = (read_first header (page_of_bytes bytes 0) (accepted_page bytes header is)).allowed

-- a look accepts bytes just where they begin with the first page of a closed file and have all its pages
pub looks_accepted : (bytes : List ℕ) (header : Header) → IsAcceptedBy header bytes → look_of (Some bytes) ≡ Accepted header
looks_accepted bytes header is =
    let found : header_in (page_of_bytes bytes 0) ≡ Some header = first_read header (page_of_bytes bytes 0) is.first in
    let counted = is.first.allowed.within.counted in
    let long = is.whole in
    rw (le-ltb (length bytes) 4096 (omega arith)) (ap (look_by bytes) found ∙ rw (le-ltb (length bytes) (4096 * header.pages) (omega arith)) refl)

pub accepted_looks : (bytes : List ℕ) (header : Header) → look_of (Some bytes) ≡ Accepted header → IsAcceptedBy header bytes
accepted_looks bytes header is = record {
  first = read_first header (page_of_bytes bytes 0) (accepted_page bytes header is);
  whole = let pages = accepted_pages (record { seen = Some bytes; log = [] }) header (accepted_allowed bytes header is) is in let long = pages.long in omega (arith, long);
}

-- the file is there
pub accepted_there : (file : DeviceFile) (header : Header) → look_of file.seen ≡ Accepted header → file.seen ≡ Some (content file)
accepted_there file header is = go file.seen is
  where
    go : (seen : Option (List ℕ)) → look_of seen ≡ Accepted header → seen ≡ Some (bytes_or_none seen)
    go None is = absurd (cc)
    go (Some bytes) is = refl

-- bytes that are accepted read as the rows that they stand for
pub reads_back : (header : Header) (bytes : List ℕ) (rows : File) → look_of (Some bytes) ≡ Accepted header → StandsIn header bytes rows → file_by header (live_in header bytes) ≡ rows
reads_back header bytes rows is stands =
    let live = live_in header bytes in
    let allowed = accepted_allowed bytes header is in
    let opened = opened_by header live rows allowed stands.pages in
    sym (reads_by_header opened header live allowed (is_opened header live rows allowed stands.pages))
    ∙ reads_as opened live rows (opened_stands header live rows allowed stands.pages)

pub named_by_header : (bytes : List ℕ) (header : Header) → look_of (Some bytes) ≡ Accepted header → named_of (Some bytes) ≡ Closed header.schema (file_by header (live_in header bytes))
named_by_header bytes header is = ap (named_by bytes) is

-- what the name of a file that was accepted stands for
pub accepted_named : (file : DeviceFile) (header : Header) → look_of file.seen ≡ Accepted header → named_of file.seen ≡ Closed header.schema (file_by header (live_in header (content file)))
accepted_named file header is =
    let there = accepted_there file header is in
    ap named_of there ∙ named_by_header (content file) header (ap look_of (sym there) ∙ is)
