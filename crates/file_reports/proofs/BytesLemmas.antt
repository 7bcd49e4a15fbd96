-- The pages in the bytes of a sound file.
use Rattle.std.proofs.Common.{◌≡◌, ℕ, ◌*◌, ◌<◌, ◌≤◌, List, [], length, take, drop, slice_index_or, None, Some, IsSome, refl, ap, sym, ◌∙◌, arith, subst, Result, Ok, Err, IfOk}
use Rattle.pages.specs.Chunks.{chunks}
use Rattle.pages.proofs.ChunkLemmas.{get_or-chunks}
use Rattle.pages.specs.PageList.{pages_in}
use Rattle.pages.proofs.SourceLemmas.{there_is, none_is}
use Rattle.page_walks.specs.Rows.{page_at}
use Rattle.page_store.specs.DeviceFile.{page_of_bytes}
use Rattle.page_alloc.specs.Chain.{chain}
use Rattle.page_alloc.proofs.ChainLemmas.{in_use}
use Rattle.open_file.specs.declared.first_page.Header.{Header}
use Rattle.open_file.specs.FirstPageReading.{header_in}
use Rattle.open_file.proofs.ClosedLemmas.{opened_by, is_opened, opened_stands}
use Rattle.shelf_library.specs.ClosedFile.{live_in}
use Rattle.page_walks.specs.Levels.{AreShown}
use Rattle.open_file.specs.Bounds.{IsHeader}
use Rattle.open_file.proofs.PageReadLemmas.{first_read}
use Rattle.file_checker.specs.Sound.{IsSound}
use Rattle.indexed_file.specs.File.{File}
use Rattle.open_file.specs.declared.open_file.OpenFile.{OpenFile}
use Rattle.file_reports.specs.declared.statistics.FileStatistics.{FileStatistics}
use Rattle.file_reports.specs.Statistics.{live_by, PagesHoldFile, HasFile, HasStatistics}
use Rattle.file_reports.specs.StatisticsLines.{statistics_text}
use Rattle.file_reports.specs.StatisticsListing.{ArePagesOf, IsOfSound, IsTextFor}
use Rattle.file_reports.proofs.FileLemmas.{page_within}

pub chunk_at : (bytes : List ℕ) (count n : ℕ) → n < count → slice_index_or (chunks 4096 count bytes) n [] ≡ page_of_bytes bytes n
chunk_at bytes count n inside =
    let at : n * 4096 ≡ 4096 * n = omega arith in
    get_or-chunks 4096 count n bytes [] inside ∙ ap (λ (k : ℕ). take 4096 (drop k bytes)) at

-- the pages in use are chunks of the bytes
pub live_shown : (bytes : List ℕ) (header : Header) (list : List (List ℕ)) (count : ℕ) → list ≡ chunks 4096 count bytes → length list ≡ count → header.pages ≤ count
    → AreShown (live_in header bytes) list
live_shown bytes header list count is many enough n page there =
    let live : IsSome (live_in header bytes n) = rw there refl in
    let found = in_use (page_of_bytes bytes) header.pages n (chain (page_of_bytes bytes) header.pages header.first_free header.free) live in
    let within = page_within header.pages n found.2 in
    let low = within.1 in
    let same : Some (page_of_bytes bytes n) ≡ Some page = sym (rw (found.1, found.2, found.3) refl) ∙ there in
    (omega (arith, many, enough, low), ap (λ (l : List (List ℕ)). slice_index_or l n []) is ∙ chunk_at bytes count n (omega (arith, enough, low)) ∙ (let e : page_of_bytes bytes n ≡ page = cc in e))

pub if_ok : {X E : Type 0} (P Q : X → Type 0) (r : Result X E) → ((x : X) → P x → Q x) → IfOk r P → IfOk r Q
if_ok P Q (Ok x) f h = f x h
if_ok P Q (Err e) f h = tt

module _ (bytes : List ℕ) (list : List (List ℕ)) (pages : ArePagesOf bytes list) where
  abbrev sound : IsSound bytes pages.sound.0 (length list)
  sound = pages.sound.1

  abbrev allowed : IsHeader sound.header
  allowed = sound.accepted.first.allowed

  enough : sound.header.pages ≤ length list
  enough = let n = sound.pages_are in omega (arith, n)

  -- there is a first page, and it tells the header
  pub some_page : 0 < length list
  some_page = let n = sound.pages_are in let c = allowed.within.counted in omega (arith, n, c)

  pub first_tells : header_in (page_at list 0) ≡ Some sound.header
  first_tells =
      let page : page_at list 0 ≡ page_of_bytes bytes 0 = ap (λ (l : List (List ℕ)). slice_index_or l 0 []) pages.are ∙ chunk_at bytes (length list) 0 some_page in
      ap header_in page ∙ first_read sound.header (page_of_bytes bytes 0) sound.accepted.first

  -- so the first page is not wanting, and is not one that tells none
  never_absent : pages_in list 0 ≡ None → ⊥
  never_absent none = let few = none_is list 0 none in let some = some_page in omega (arith, few, some)

  never_none : (page : List ℕ) → pages_in list 0 ≡ Some page → header_in page ≡ None → ⊥
  never_none page there none =
      let same : page_at list 0 ≡ page = (there_is list 0 page there).1 in
      let both : Some sound.header ≡ None = sym first_tells ∙ ap header_in same ∙ none in
      absurd (cc)

  module _ (header : Header) (first : Some header ≡ header_in (page_at list 0)) where
    same : sound.header ≡ header
    same = let both : Some sound.header ≡ Some header = sym first_tells ∙ sym first in cc

    abbrev opened : OpenFile
    opened = opened_by sound.header (live_in sound.header bytes) sound.file allowed sound.stands.pages

    standing : PagesHoldFile (page_of_bytes bytes) sound.header opened sound.file
    standing = record {
      by_header = is_opened sound.header (live_in sound.header bytes) sound.file allowed sound.stands.pages;
      stands = opened_stands sound.header (live_in sound.header bytes) sound.file allowed sound.stands.pages;
      sound = sound.stands.free;
    }

    shown : AreShown (live_by (page_of_bytes bytes) sound.header) list
    shown = live_shown bytes sound.header list (length list) pages.are refl enough

    pub has_file : HasFile header list
    has_file = subst (λ (h : Header). HasFile h list) same
        (record { page = page_of_bytes bytes; opened = opened; file = sound.file; standing = standing; shown = shown })

    pub text_for : (counts : FileStatistics) (text : List ℕ)
        → ((page : ℕ → List ℕ) (opened : OpenFile) (file : File) → PagesHoldFile page header opened file → AreShown (live_by page header) list → HasStatistics page header file counts)
        → text ≡ statistics_text counts → IsTextFor bytes text
    text_for counts text told text_is =
        let back = subst (λ (h : Header). (page : ℕ → List ℕ) (opened : OpenFile) (file : File) → PagesHoldFile page h opened file → AreShown (live_by page h) list → HasStatistics page h file counts)
        (sym same) told in
        record {
          schema = sound.header.schema;
          file = sound.file;
          closed = record { header = sound.header; accepted = sound.accepted; schema_is = refl; stands = sound.stands };
          counts = counts;
          counted = back (page_of_bytes bytes) opened sound.file standing shown;
          text_is = text_is;
        }

-- the first page of a sound file is there
pub first_wanting : (list : List (List ℕ)) → pages_in list 0 ≡ None → IsOfSound list → ⊥
first_wanting list none sound = never_absent sound.0 list sound.1 none

-- and tells a header
pub first_refused : (list : List (List ℕ)) (page : List ℕ) → pages_in list 0 ≡ Some page → header_in page ≡ None → IsOfSound list → ⊥
first_refused list page there none sound = never_none sound.0 list sound.1 page there none

pub page_is : (list : List (List ℕ)) (page : List ℕ) → pages_in list 0 ≡ Some page → header_in page ≡ header_in (page_at list 0)
page_is list page there = ap header_in (sym (there_is list 0 page there).1)
