-- The pages of bytes that are held.
use Rattle.std.proofs.Common.{◌≡◌, ℕ, zero, suc, ◌+◌, ◌*◌, ◌≤◌, ◌<◌, List, [], ◌∷◌, Some, length, take, drop, refl, sym, ap, subst, ◌∙◌, arith}
use Rattle.std.specs.Prelude.{slice_get, slice_index, slice_index_or}
use Rattle.std.specs.Simd.{first_chunks}
use Rattle.std.proofs.lemmas.List.{drop-drop, get_or-take, length-take-le}
use Rattle.std.proofs.lemmas.Option.{get_or_from_slice_get, slice_get_within}
use Rattle.page_store.specs.DeviceFile.{page_of_bytes}
use Rattle.open_file.specs.declared.first_page.Header.{Header}
use Rattle.open_file.specs.FirstPage.{IsFirstPage}
use Rattle.file_checker.specs.Bytes.{AreAllPages, AreFrontOf}
use Rattle.file_checker.specs.Sound.{HasPages}

length_of_chunks : (k : ℕ) (bytes : List ℕ) → length (first_chunks 4096 k bytes) ≡ k
length_of_chunks zero bytes = refl
length_of_chunks (suc k) bytes = ap (λ (n : ℕ). suc n) (length_of_chunks k (drop 4096 bytes))

-- page n of bytes is their chunk n
chunk_is : (k : ℕ) (bytes : List ℕ) (n : ℕ) → n < k → page_of_bytes bytes n ≡ slice_index_or (first_chunks 4096 k bytes) n []
chunk_is zero bytes n inside = absurd (omega arith)
chunk_is (suc k) bytes zero inside = refl
chunk_is (suc k) bytes (suc n) inside =
    let up : 4096 * suc n ≡ 4096 + 4096 * n = omega arith in
    ap (take 4096) (ap (λ (m : ℕ). drop m bytes) up ∙ sym (drop-drop (4096 * n) 4096 bytes)) ∙ chunk_is k (drop 4096 bytes) n (omega arith)

-- as many chunks as the bytes have are all their pages
pub all_chunks : (bytes : List ℕ) (k : ℕ) → 4096 * k ≤ length bytes → length bytes < 4096 + 4096 * k → AreAllPages bytes (first_chunks 4096 k bytes)
all_chunks bytes k within all = record {
  first = record {
    enough = let many = length_of_chunks k bytes in subst (λ (n : ℕ). 4096 * n ≤ length bytes) (sym many) within;
    each = λ n inside. chunk_is k bytes n (subst (λ (m : ℕ). n < m) (length_of_chunks k bytes) inside);
  };
  all = subst (λ (n : ℕ). length bytes < 4096 + 4096 * n) (sym (length_of_chunks k bytes)) all;
}

-- as many of the pages as the header counts are those of the file
pub has_counted : (bytes : List ℕ) (header : Header) (list first : List (List ℕ)) → IsFirstPage header (page_of_bytes bytes 0) → AreAllPages bytes list → AreFrontOf list header.pages first
    → HasPages bytes header first
has_counted bytes header list first is all of =
    let many : length first ≡ header.pages = ap length of.front_is ∙ length-take-le header.pages list of.enough in
    record {
      accepted = record { first = is; whole = let few = of.enough in let enough = all.first.enough in omega (arith, few, enough) };
      pages = record {
        enough = let few = of.enough in let enough = all.first.enough in omega (arith, few, enough, many);
        each = λ n inside.
            let below : n < header.pages = subst (λ (m : ℕ). n < m) many inside in
            let there : n < length list = let few = of.enough in omega (arith, few, below) in
            all.first.each n there ∙ sym (ap (λ (l : List (List ℕ)). slice_index_or l n []) of.front_is ∙ get_or-take header.pages list n [] below);
      };
      many = many;
    }

-- the first byte of a file is that of its first page
pub first_of_page : (bytes first : List ℕ) → page_of_bytes bytes 0 ≡ first → slice_index bytes 0 ≡ slice_index first 0
first_of_page [] first is = ap (λ (page : List ℕ). slice_index page 0) is
first_of_page (byte ∷ bytes) first is = ap (λ (page : List ℕ). slice_index page 0) is

-- and the first of its pages is the first page
pub first_of_pages : (bytes : List ℕ) (list : List (List ℕ)) (first : List ℕ) → AreAllPages bytes list → slice_get list 0 ≡ Some first → page_of_bytes bytes 0 ≡ first
first_of_pages bytes list first all is = all.first.each 0 (slice_get_within list 0 first is) ∙ get_or_from_slice_get list 0 first [] is
