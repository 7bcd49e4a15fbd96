-- Writing and reading are the two ways of one correspondence, of headers and their pages.
use Rattle.std.specs.Prelude.{◌≡◌, ℕ, List, Some}
use Rattle.open_file.specs.declared.first_page.Header.{Header}
use Rattle.open_file.specs.FirstPageReading.{header_in}
use Rattle.open_file.specs.FirstPage.{IsFirstPage}

-- a page that was closed with a header is read as that header
abbrev pub WrittenHeaderIsRead : Type 0
WrittenHeaderIsRead =
    (page : List ℕ) (header : Header) → IsFirstPage header page → header_in page ≡ Some header

-- a page that is read as a header was closed with that header
abbrev pub ReadIsWritten : Type 0
ReadIsWritten = (page : List ℕ) (header : Header) → header_in page ≡ Some header → IsFirstPage header page
