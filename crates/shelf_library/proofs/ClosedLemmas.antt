-- What a file stands for once it is closed.
use Rattle.std.proofs.Common.{◌≡◌, ℕ, ltb, IsFalse, IsSome, List, ◌∷◌, drop, Option, Some, Result, OnOk, Ok, Err, inl, inr, ◌⊎◌, sym, ◌∙◌, ap, subst, arith}
use Rattle.std.proofs.lemmas.Bool.{and_parts, and_from, ltb-true, lt-ltb}
use Rattle.indexed_file.specs.File.{File}
use Rattle.page_store.specs.Gate.{IsRefused}
use Rattle.page_store.proofs.MomentLemmas.{throughout_weaker}
use Rattle.page_store.specs.DeviceFile.{DeviceFile, content, page_of_bytes}
use Rattle.page_store.specs.ShelfState.{ShelfState}
use Rattle.page_cache.specs.Cached.{store_of, cached_pages_of}
use Rattle.page_alloc.specs.Chain.{chain, used}
use Rattle.page_alloc.specs.PagedFile.{IsClosedWith, ClosedWith, ClosesPages, cache_of, counts_of}
use Rattle.page_alloc.specs.Steps.{pages_state_of}
use Rattle.page_alloc.specs.Joining.{first_free_page, pages_counted, pages_free}
use Rattle.open_file.specs.declared.first_page.Header.{Header}
use Rattle.open_file.specs.Bounds.{FitsItsBytes, IsHeader}
use Rattle.open_file.specs.FirstPage.{header_bytes}
use Rattle.open_file.specs.Fields.{has_broken, file_schema}
use Rattle.open_file.specs.Closed.{StandsClosed}
use Rattle.open_file.specs.Headers.{IsHeaderOf, Counts}
use Rattle.open_file.proofs.ClosedLemmas.{stands_by}
use Rattle.shelf_library.specs.declared.shelf_file.ShelfFile.{ShelfFile}
use Rattle.shelf_library.specs.Standing.{IsReady, StandsFor}
use Rattle.shelf_library.specs.ClosedFile.{IsAcceptedBy, AreClosed, free_in, live_in}
use Rattle.shelf_library.specs.Shelves.{ClosedFileOrRefused, Closes}
use Rattle.shelf_library.proofs.PagesLemmas.{AreAlike, same_chain, same_live}
use Rattle.shelf_library.proofs.FileClosingLemmas.{closed_header}

module _ (held : ShelfFile) (shelf : ShelfState) (file : File) (header : Header) (page : List ℕ) (ready : IsReady held shelf) (unbroken : IsFalse (has_broken held.file)) (stood : StandsFor held shelf file)
    (of : IsHeaderOf header held.file) (counts : Counts header (pages_counted (counts_of held.pages)) (first_free_page (counts_of held.pages)) (pages_free (counts_of held.pages))) (room : FitsItsBytes header) (written : page ≡ header_bytes header) where
  allowed : IsHeader header
  allowed = closed_header held.file (cached_pages_of (cache_of held.pages) shelf) (pages_counted (counts_of held.pages)) (first_free_page (counts_of held.pages)) (pages_free (counts_of held.pages)) file header stood.stands stood.sound ready.shaped of counts room

  module _ (bytes : List ℕ) (closed : IsClosedWith page (cache_of held.pages) shelf bytes) where
    alike : AreAlike (pages_counted (counts_of held.pages)) (page_of_bytes bytes) (cached_pages_of (cache_of held.pages) shelf)
    alike n counted =
        let low = and_parts (ltb 0 n) (ltb n (pages_counted (counts_of held.pages))) counted in
        let below = ltb-true n (pages_counted (counts_of held.pages)) low.1 in
        let all = ready.over.joined.counted in
        closed.pages n (and_from (ltb 0 n) (ltb n (store_of (cache_of held.pages)).pages) low.0 (lt-ltb n (store_of (cache_of held.pages)).pages (omega arith)))

    same_free : free_in header bytes ≡ chain (cached_pages_of (cache_of held.pages) shelf) (pages_counted (counts_of held.pages)) (first_free_page (counts_of held.pages)) (pages_free (counts_of held.pages))
    same_free =
        (λ i. chain (page_of_bytes bytes) (counts.pages_are i) (counts.first_is i) (counts.free_are i))
        ∙ same_chain (page_of_bytes bytes) (cached_pages_of (cache_of held.pages) shelf) (pages_counted (counts_of held.pages)) alike (first_free_page (counts_of held.pages)) (pages_free (counts_of held.pages))

    live_same : live_in header bytes ≡ (pages_state_of held.pages shelf).live
    live_same =
        (λ i. used (page_of_bytes bytes) (counts.pages_are i) (chain (page_of_bytes bytes) (counts.pages_are i) (counts.first_is i) (counts.free_are i)))
        ∙ same_live (page_of_bytes bytes) (cached_pages_of (cache_of held.pages) shelf) (pages_counted (counts_of held.pages)) alike (first_free_page (counts_of held.pages)) (pages_free (counts_of held.pages))

    accepted : IsAcceptedBy header bytes
    accepted =
        let count = counts.pages_are in
        let all = ready.over.joined.counted in
        let long = closed.long in
        record {
          first = record { allowed = allowed; bytes = closed.header ∙ ap (λ l. 67 ∷ drop 1 l) written };
          whole = omega arith;
        }

    pub are_closed : AreClosed (file_schema held.file) file bytes
    are_closed = record {
      header = header;
      schema_is = sym of.schema_is;
      accepted = accepted;
      stands = record {
        free = subst (λ free. IsSome free) (sym same_free) stood.sound;
        pages = subst (λ live. StandsClosed header live file) (sym live_same) (stands_by header held.file _ file ready.shaped of stood.stands);
      };
    }

  ends : (c : Option (List ℕ)) → IsRefused c ⊎ ((bytes : List ℕ) × (c ≡ Some bytes) × IsClosedWith page (cache_of held.pages) shelf bytes) → ClosedFileOrRefused (file_schema held.file) file c
  ends c (inl refused) = inl refused
  ends c (inr is) = inr (is.0, is.1, are_closed is.0 is.2)

  pub closes : {E : Type 0} (old new : DeviceFile) (result : Result (Unit {0}) E) → ClosesPages page (cache_of held.pages) shelf old new → OnOk result (ClosedWith page (cache_of held.pages) shelf new)
      → Closes (file_schema held.file) file old new result
  closes old new (Ok x) images closed = record {
    images = throughout_weaker _ (ClosedFileOrRefused (file_schema held.file) file) old new ends images;
    settled = closed.settled;
    closed = are_closed (content new) closed.bytes;
  }
  closes old new (Err e) images closed = record { images = throughout_weaker _ (ClosedFileOrRefused (file_schema held.file) file) old new ends images; settled = tt; closed = tt }

pub on_ok_at : {E P Q : Type 0} (result : Result (Unit {0}) E) → (P → Q) → OnOk result P → OnOk result Q
on_ok_at (Ok x) f p = f p
on_ok_at (Err e) f p = tt
