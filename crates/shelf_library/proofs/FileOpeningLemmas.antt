-- The pages of a file that was opened by its header are those of the file.
use Rattle.std.proofs.Common.{◌≡◌, ℕ, ltb, ◌&&◌, true, [], if◌then◌else◌, ◌∙◌, ap}
use Rattle.page_store.specs.DeviceFile.{content, page_of_bytes}
use Rattle.page_store.specs.ShelfState.{ShelfState, unit_file}
use Rattle.page_cache.specs.Cached.{store_of, cached_pages_of, is_counted_page}
use Rattle.page_alloc.specs.declared.paged_file.PagedFile.{PagedFile}
use Rattle.page_alloc.specs.Chain.{chain, used}
use Rattle.page_alloc.specs.Joining.{free_pages, pages_counted, first_free_page, pages_free, pager_with}
use Rattle.page_alloc.specs.Steps.{pages_state_of}
use Rattle.page_alloc.specs.PagedFile.{cache_of, counts_of}
use Rattle.open_file.specs.declared.first_page.Header.{Header}
use Rattle.shelf_library.specs.ClosedFile.{free_in, live_in}
use Rattle.shelf_library.proofs.PagesLemmas.{AreAlike, same_chain, same_live}

module _ (held : PagedFile) (shelf : ShelfState) (unit limit : ℕ) (header : Header)
    (pager : counts_of held ≡ pager_with header.pages header.first_free header.free limit)
    (store : store_of (cache_of held) ≡ record { unit = unit; pages = header.pages })
    (pages : (n : ℕ) → cached_pages_of (cache_of held) shelf n ≡ (if is_counted_page (cache_of held) n then page_of_bytes (content (unit_file shelf unit)) n else [])) where
  alike : AreAlike header.pages (cached_pages_of (cache_of held) shelf) (page_of_bytes (content (unit_file shelf unit)))
  alike n page =
      let counted : is_counted_page (cache_of held) n ≡ true = ap (λ x. ltb 0 n && ltb n x.pages) store ∙ page in
      pages n ∙ ap (λ b. if b then page_of_bytes (content (unit_file shelf unit)) n else []) counted

  pub opened_free : free_pages (cache_of held) (counts_of held) shelf ≡ free_in header (content (unit_file shelf unit))
  opened_free =
      ap (λ p. chain (cached_pages_of (cache_of held) shelf) (pages_counted p) (first_free_page p) (pages_free p)) pager
      ∙ same_chain (cached_pages_of (cache_of held) shelf) (page_of_bytes (content (unit_file shelf unit))) header.pages alike header.first_free header.free

  pub opened_live : (pages_state_of held shelf).live ≡ live_in header (content (unit_file shelf unit))
  opened_live =
      ap (λ p. used (cached_pages_of (cache_of held) shelf) (pages_counted p) (chain (cached_pages_of (cache_of held) shelf) (pages_counted p) (first_free_page p) (pages_free p))) pager
      ∙ same_live (cached_pages_of (cache_of held) shelf) (page_of_bytes (content (unit_file shelf unit))) header.pages alike header.first_free header.free
