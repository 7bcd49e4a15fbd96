-- What a look finds, from what the shelf answers.
use Rattle.std.proofs.Common.{◌≡◌, ℕ, ◌≤◌, ◌*◌, Bool, true, false, List, length, take, drop, nat_lt, inl, inr, Option, Some, None, is_some, refl, ap, ◌∙◌, subst, arith}
use Rattle.std.proofs.lemmas.Bool.{le-ltb, ltb-false, cases_Bool}
use Rattle.page_store.specs.DeviceFile.{DeviceFile, bytes_or_none, page_of_bytes}
use Rattle.page_store.specs.Pages.{HoldsPages}
use Rattle.page_store.specs.ShelfState.{ShelfState, OnlyAnswers, unit_file}
use Rattle.open_file.specs.declared.first_page.Header.{Header}
use Rattle.open_file.specs.FirstPageReading.{header_in}
use Rattle.open_file.specs.Bounds.{IsHeader}
use Rattle.shelf_library.specs.declared.look.HeaderLook.{HeaderLook}
use Rattle.shelf_library.specs.declared.look.HeaderLook.TheVariants.{Accepted}
use Rattle.shelf_library.specs.Named.{look_of, look_by}

-- a call that only answers leaves the unit's file
pub same_file : (old new : ShelfState) (unit : ℕ) → OnlyAnswers old new → unit_file new unit ≡ unit_file old unit
same_file old new unit only = rw (only.names, only.file) refl

-- its first page was read
pub read_look : (seen : Option (List ℕ)) (there : Bool) (size : ℕ) (page : List ℕ) (header : Option Header) (look : HeaderLook)
    → there ≡ is_some seen → there ≡ true → size ≡ length (bytes_or_none seen) → 4096 ≤ size
    → page ≡ take (length page) (drop 0 (bytes_or_none seen)) → length page ≡ 4096 → header ≡ header_in page
    → ((bytes : List ℕ) → size ≡ length bytes → look ≡ look_by bytes header) → look ≡ look_of seen
read_look None there size page header look is so long whole read full found made = absurd (cc)
read_look (Some bytes) there size page header look is so long whole read full found made =
    let first : page ≡ take 4096 (drop (4096 * 0) bytes) = subst (λ n. page ≡ take n (drop 0 bytes)) full read in
    let enough : nat_lt (length bytes) 4096 ≡ false = le-ltb (length bytes) 4096 (omega arith) in
    rw enough (made bytes long ∙ ap (look_by bytes) (found ∙ ap header_in first))

-- a file that is accepted has the pages that it counts
pub accepted_pages : (file : DeviceFile) (header : Header) → IsHeader header → look_of file.seen ≡ Accepted header → HoldsPages header.pages file
accepted_pages file header allowed is = go file.seen refl is
  where
    counted : 1 ≤ header.pages
    counted = let c = allowed.within.counted in omega arith

    by_header : (bytes : List ℕ) (there : Option Header) → look_by bytes there ≡ Accepted header → 4096 * header.pages ≤ length bytes
    by_header bytes None refused = absurd (cc)
    by_header bytes (Some found) looks = elim (cases_Bool (nat_lt (length bytes) (4096 * found.pages))) [
      | inl short ↦ let h = rw short at looks in absurd (cc)
      | inr long ↦ let h : Accepted found ≡ Accepted header = rw long at looks in
          let same : found ≡ header = cc in
          subst (λ (h : Header). 4096 * h.pages ≤ length bytes) same (omega (arith, ltb-false (length bytes) (4096 * found.pages) long))
    ]

    go : (seen : Option (List ℕ)) → file.seen ≡ seen → look_of seen ≡ Accepted header → HoldsPages header.pages file
    go None same looks = absurd (cc)
    go (Some bytes) same looks = elim (cases_Bool (nat_lt (length bytes) 4096)) [
      | inl short ↦ let h = rw short at looks in absurd (cc)
      | inr whole ↦ let long = by_header bytes (header_in (page_of_bytes bytes 0)) (rw whole at looks) in record {
        there = rw same refl;
        long = rw same (let c = counted in omega arith);
      }
    ]
