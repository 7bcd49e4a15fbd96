-- What is counted of a file by its header.
use Rattle.std.proofs.Common.{◌≡◌, ℕ, zero, suc, ◌+◌, ◌-◌, ◌*◌, ◌<◌, List, length, slice_index_or, ap, sym, ◌∙◌, arith, subst}
use Rattle.pages.specs.Parted.{own_at, all_of}
use Rattle.open_file.specs.Parts.{heap_pages}
use Rattle.record_heap.specs.Slot.{room}
use Rattle.record_heap.specs.Standing.{slot_shape}
use Rattle.open_file.specs.declared.first_page.Header.{Header}
use Rattle.open_file.specs.Bounds.{IsHeader}
use Rattle.indexed_file.specs.File.{File}
use Rattle.open_file.specs.Fields.{alternates_of, heap_of, prime_index_of, file_schema}
use Rattle.open_file.specs.declared.open_file.OpenFile.{OpenFile}
use Rattle.open_file.specs.Headers.{IsOpenedBy}
use Rattle.open_file.proofs.HeaderLemmas.{read_back}
use Rattle.open_file.proofs.FilledLemmas.{counted}
use Rattle.open_file.proofs.PartsLemmas.{found_at}
use Rattle.page_walks.specs.Levels.{AreShown}
use Rattle.page_walks.specs.Runs.{IsGreatestCount}
use Rattle.file_reports.specs.declared.statistics.KeyStatistics.{KeyStatistics}
use Rattle.file_reports.specs.declared.statistics.FileStatistics.{FileStatistics}
use Rattle.file_reports.specs.Statistics.{live_by, all_key_pages, PagesHoldFile, HasFile}
use Rattle.file_reports.specs.Statistics.{HasFileStanding, KeysCounted, HasStatistics, values_in}
use Rattle.file_reports.proofs.FileLemmas.{parts_count, part_few, keys_count}
use Rattle.file_reports.proofs.RowLemmas.{prime_greatest, alt_greatest}

module _ (header : Header) (list : List (List ℕ)) (opened : OpenFile) (is_header : IsHeader header) (by : IsOpenedBy header opened) where
  -- what stands by the header stands as it is opened now
  pub again : (page : ℕ → List ℕ) (before : OpenFile) (file : File) → PagesHoldFile page header before file → PagesHoldFile page header opened file
  again page before file standing = record {
    by_header = by;
    stands = read_back before opened header (live_by page header) file standing.stands standing.by_header.shaped standing.by_header.header_is by;
    sound = standing.sound;
  }

  parts_are : (page : ℕ → List ℕ) (file : File) → (standing : PagesHoldFile page header opened file) → length (all_of standing.stands.parts.owns) + header.free + 1 ≡ header.pages
  parts_are page file standing =
      let some = is_header.within.counted in
      parts_count page header opened file standing.stands standing.sound (header.pages - 1) (omega (arith, some))

  pub file_standing : HasFile header list → HasFileStanding opened list
  file_standing has =
      let now = again has.page has.opened has.file has.standing in
      let whole = parts_are has.page has.file now in
      let fits = is_header.room.pages in
      record {
        pages = live_by has.page header;
        file = has.file;
        stands = now.stands;
        shown = has.shown;
        few = λ i. (let part = part_few now.stands.parts.owns i in omega (arith, part, whole, fits));
        prime_counted = (let a = by.header_is.records in let b = is_header.room.records in omega (arith, a, b));
        counted = λ j index within at. (let a = by.counts j index within at in let b = is_header.room.records in omega (arith, a, b));
      }

  module _ (keys : List KeyStatistics) (counts : KeysCounted opened list (length (alternates_of opened)) keys) where
    key_pages : (page : ℕ → List ℕ) (file : File) → (standing : PagesHoldFile page header opened file) → AreShown (live_by page header) list
        → (i : ℕ) (key : KeyStatistics) → i < length keys → key ≡ slice_index_or keys i key → key.pages ≡ length (own_at standing.stands.parts.owns (suc i))
    key_pages page file standing shown zero key inside at = ((counts.are (live_by page header) file standing.stands shown).prime key at).pages_are
    key_pages page file standing shown (suc j) key inside at =
        let many = counts.many in
        let within : j < length (alternates_of opened) = omega (arith, many, inside) in
        let index = found_at (alternates_of opened) j within in
        let up : suc j ≡ j + 1 = omega arith in
        let down : j + 2 ≡ suc (suc j) = omega arith in
        let told = (counts.are (live_by page header) file standing.stands shown).alternates j index.0 within index.1 key within
        (subst (λ (n : ℕ). key ≡ slice_index_or keys n key) up at) in
        told.pages_are ∙ ap (λ (n : ℕ). length (own_at standing.stands.parts.owns n)) down

    -- how many rows have one value of a key at most
    key_longest : (page : ℕ → List ℕ) (file : File) → (standing : PagesHoldFile page header opened file)
        → AreShown (live_by page header) list → (k : ℕ) (key : KeyStatistics) → k < length keys
        → key ≡ slice_index_or keys k key
        → IsGreatestCount (values_in (file_schema opened) k file.rows) key.longest
    key_longest page file standing shown zero key inside at =
        let stands = standing.stands in
        let told = (counts.are (live_by page header) file stands shown).prime key at in
        prime_greatest (file_schema opened) stands.slots (prime_index_of opened).width stands.places file.rows
        key.longest stands.placed.rows_at stands.parts.prime_stands.each told.longest_is
    key_longest page file standing shown (suc j) key inside at =
        let many = counts.many in
        let within : j < length (alternates_of opened) = omega (arith, many, inside) in
        let index = found_at (alternates_of opened) j within in
        let up : suc j ≡ j + 1 = omega arith in
        let are = counts.are (live_by page header) file standing.stands shown in
        let told = are.alternates j index.0 within index.1 key within
        (subst (λ (n : ℕ). key ≡ slice_index_or keys n key) up at) in
        let each = (standing.stands.parts.alternates_stand j index.0 within index.1).each in
        subst (λ (n : ℕ). IsGreatestCount (values_in (file_schema opened) n file.rows) key.longest)
        (sym up)
        (alt_greatest (file_schema opened) (j + 1) index.0.width index.0.prime file.rows key.longest each
        told.longest_is)

    pub pages_whole : (page : ℕ → List ℕ) (file : File) → (standing : PagesHoldFile page header opened file) → AreShown (live_by page header) list
        → all_key_pages keys + length (heap_pages standing.stands.parts.owns) + header.free + 1 ≡ header.pages
    pages_whole page file standing shown =
        let n = standing.stands.parts.owners in
        let many = counts.many in
        let all = keys_count keys standing.stands.parts.owns (omega (arith, n, many)) (key_pages page file standing shown) in
        let whole = parts_are page file standing in
        omega (arith, all, whole)

    pub known_whole : (has : HasFile header list) → all_key_pages keys + length (own_at (again has.page has.opened has.file has.standing).stands.parts.owns 0) + header.free + 1 ≡ header.pages
    known_whole has = pages_whole has.page has.file (again has.page has.opened has.file has.standing) has.shown

    pub statistics_are : (page : ℕ → List ℕ) (before : OpenFile) (file : File) → PagesHoldFile page header before file → AreShown (live_by page header) list
        → (told : FileStatistics) → told.pages ≡ header.pages → told.free ≡ header.free → told.records ≡ header.records → told.keys.items ≡ keys → told.trees ≡ all_key_pages keys
        → told.heap ≡ header.pages - 1 - told.trees - header.free → told.slots ≡ told.heap * room (slot_shape (heap_of opened)) → HasStatistics page header file told
    statistics_are page before file standing shown told pages free records items trees heap slots =
        let now = again page before file standing in
        let whole = pages_whole page file now shown in
        let some = is_header.within.counted in
        let rows = counted opened (live_by page header) file now.stands in
        let recorded = by.header_is.records in
        let parts = by.shaped.keys in
        let many = counts.many in
        let listed = ap length items in
        record {
          opened = opened;
          standing = now;
          counted = record {
            pages_are = pages;
            free_are = free;
            heap_are = omega (arith, whole, heap, trees);
            trees_are = trees ∙ ap all_key_pages (sym items);
            whole = omega (arith, whole, heap, trees, pages, free);
            slots_are = slots;
            records_are = records ∙ sym recorded ∙ rows;
            many = omega (arith, listed, many, parts);
            keys = rw items (counts.are (live_by page header) file now.stands shown);
            longest = rw items (key_longest page file now shown);
          };
        }
