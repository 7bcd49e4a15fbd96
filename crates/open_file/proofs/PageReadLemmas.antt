-- Which header a page has.
use Rattle.std.proofs.Common.{◌≡◌, Bool, true, false, ◌&&◌, nat_eq, List, length, map, ℕ, Some, None, if◌then◌else◌, Decides, refl, sym, subst, ap, ◌∙◌}
use Rattle.std.specs.Cmp.Lexicographic.{pointwise}
use Rattle.std.proofs.lemmas.List.{length-map}
use Rattle.std.proofs.lemmas.Bool.Decides.{Decides-and, Decides-like}
use Rattle.std.proofs.lemmas.Slice.Eq.{bytes_eq-Decides}
use Rattle.record_layout.specs.Schema.{IsSchema}
use Rattle.open_file.specs.declared.first_page.Header.{Header}
use Rattle.open_file.specs.Bounds.{FitsItsBytes, AreLinksWithin}
use Rattle.open_file.specs.BoundTests.{is_header}
use Rattle.open_file.specs.FirstPageReading.{numbers_in, header_in, part_in, tree_in, key_rows_in, key_count_in}
use Rattle.open_file.specs.FirstPage.{IsFirstPage}
use Rattle.open_file.proofs.BoundsLemmas.{is_header-Decides}
use Rattle.open_file.proofs.BackLemmas.{closed_page, numbers_back}

fails : {P : Type 0} (r : Bool) → Decides r P → (P → ⊥) → r ≡ false
fails true decides not_so = absurd (not_so (decides.0 refl))
fails false decides not_so = refl

first_page-Decides : (header : Header) (page : List ℕ) → Decides (is_header header && pointwise nat_eq page (closed_page header)) (IsFirstPage header page)
first_page-Decides header page =
    Decides-like _ (λ p. record { allowed = p.0; bytes = p.1 }) (λ f. (f.allowed, f.bytes))
    (Decides-and _ _ (is_header-Decides header) (bytes_eq-Decides page (closed_page header)))

pub first_numbers : (header : Header) (page : List ℕ) → IsFirstPage header page → numbers_in page ≡ header
first_numbers header page is = ap numbers_in is.bytes ∙ numbers_back header is.allowed

pub header_in_some : (page : List ℕ) → IsFirstPage (numbers_in page) page → header_in page ≡ Some (numbers_in page)
unfolding header_in
header_in_some page is =
    ap (λ (b : Bool). if b then Some (numbers_in page) else None) ((first_page-Decides (numbers_in page) page).1 is)

pub header_in_none : (page : List ℕ) → (IsFirstPage (numbers_in page) page → ⊥) → header_in page ≡ None
unfolding header_in
header_in_none page not_so =
    ap (λ (b : Bool). if b then Some (numbers_in page) else None) (fails _ (first_page-Decides (numbers_in page) page) not_so)

-- where the numbers of a page make another page, it is the first page of no file
pub no_first : (page : List ℕ) → (IsFirstPage (numbers_in page) page → ⊥) → (header : Header) → IsFirstPage header page → ⊥
no_first page not_so header is = not_so (subst (λ (h : Header). IsFirstPage h page) (sym (first_numbers header page is)) is)

-- the first page of a file has its header, and no other one
pub first_read : (header : Header) (page : List ℕ) → IsFirstPage header page → header_in page ≡ Some header
first_read header page is =
    let e = first_numbers header page is in
    header_in_some page (subst (λ (h : Header). IsFirstPage h page) (sym e) is) ∙ ap Some e

chosen : (page : List ℕ) (header : Header) (r : Bool) → Decides r (IsFirstPage (numbers_in page) page) → (if r then Some (numbers_in page) else None) ≡ Some header → IsFirstPage header page
chosen page header true decides e =
    let same : numbers_in page ≡ header = cc in
    subst (λ (h : Header). IsFirstPage h page) same (decides.0 refl)
chosen page header false decides e = absurd (cc)

-- a page with a header is the first page of a file
pub read_first : (header : Header) (page : List ℕ) → header_in page ≡ Some header → IsFirstPage header page
unfolding header_in
read_first header page e = chosen page header (is_header (numbers_in page) && pointwise nat_eq page (closed_page (numbers_in page))) (first_page-Decides (numbers_in page) page) e

-- a page that its own numbers make, within their bounds
pub accepted : (page : List ℕ) (header : Header) → header ≡ numbers_in page → IsSchema (numbers_in page).schema → FitsItsBytes header → AreLinksWithin header
    → page ≡ closed_page header → IsFirstPage header page
unfolding numbers_in
accepted page header same schema room within bytes =
    let rows = key_rows_in page (key_count_in page) in
    let many : length (map tree_in rows) ≡ length (map part_in rows) = length-map rows tree_in ∙ sym (length-map rows part_in) in
    let trees : length header.trees.items ≡ length header.schema.keys =
    ap (λ (h : Header). length h.trees.items) same ∙ many ∙ ap (λ (h : Header). length h.schema.keys) (sym same) in
    let own : IsSchema header.schema = subst (λ (h : Header). IsSchema h.schema) (sym same) schema in
    record { allowed = record { schema = own; trees = trees; within = within; room = room }; bytes = bytes }
