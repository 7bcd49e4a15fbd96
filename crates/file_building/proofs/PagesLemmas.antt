-- The pages of a file that is closed.
use Rattle.std.proofs.Common.{◌≡◌, ℕ, List, ◌∷◌, drop, ap, ◌∙◌, arith}
use Rattle.indexed_file.specs.File.{File}
use Rattle.page_store.specs.ShelfState.{ShelfState}
use Rattle.page_cache.specs.Cached.{cached_pages_of}
use Rattle.page_alloc.specs.PagedFile.{IsClosedWith, cache_of, counts_of}
use Rattle.page_alloc.specs.Joining.{first_free_page, pages_counted, pages_free}
use Rattle.open_file.specs.declared.first_page.Header.{Header}
use Rattle.open_file.specs.Bounds.{FitsItsBytes}
use Rattle.open_file.specs.FirstPage.{header_bytes}
use Rattle.open_file.specs.Headers.{IsHeaderOf, Counts}
use Rattle.shelf_library.specs.declared.shelf_file.ShelfFile.{ShelfFile}
use Rattle.shelf_library.specs.Standing.{IsReady, StandsFor}
use Rattle.shelf_library.proofs.FileClosingLemmas.{closed_header}
use Rattle.file_building.specs.Parts.{HavePages}

-- its first page tells of those that it counts, and all are there
pub have_pages : (held : ShelfFile) (shelf : ShelfState) (file : File) (header : Header) (page : List ℕ) → IsReady held shelf → StandsFor held shelf file → IsHeaderOf header held.file
    → Counts header (pages_counted (counts_of held.pages)) (first_free_page (counts_of held.pages)) (pages_free (counts_of held.pages)) → FitsItsBytes header → page ≡ header_bytes header
    → (bytes : List ℕ) → IsClosedWith page (cache_of held.pages) shelf bytes → HavePages (pages_counted (counts_of held.pages)) bytes
have_pages held shelf file header page ready stood of counts room written bytes closed =
    let pager = counts_of held.pages in
    let count = counts.pages_are in
    let all = ready.over.joined.counted in
    let long = closed.long in
    record {
      header = header;
      accepted = record {
        first = record {
          allowed = closed_header held.file (cached_pages_of (cache_of held.pages) shelf) (pages_counted pager) (first_free_page pager) (pages_free pager) file header stood.stands stood.sound ready.shaped of counts room;
          bytes = closed.header ∙ ap (λ l. 67 ∷ drop 1 l) written;
        };
        whole = omega arith;
      };
      count_is = counts.pages_are;
    }
