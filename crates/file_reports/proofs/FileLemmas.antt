-- The pages of a file that stands, by their parts.
use Rattle.std.proofs.Common.{◌≡◌, ◌≢◌, ℕ, zero, suc, ◌+◌, ◌<◌, ◌≤◌, ◌⊎◌, inl, inr, true, false, ltb, nat_eq, List, [], ◌∷◌, ◌++◌, length, slice_index_or, Option, Some, None, IsSome, refl, ap, sym, ◌∙◌, arith, subst}
use Rattle.std.proofs.lemmas.Bool.{and_parts, or_parts, eqb-false, ltb-true, lt-ltb}
use Rattle.std.proofs.lemmas.List.{length-append}
use Rattle.pages.specs.Each.{Each}
use Rattle.pages.specs.PageMap.{PageMap}
use Rattle.pages.specs.Owners.{IsOutside, AreApart}
use Rattle.pages.specs.Parted.{own_at, all_of}
use Rattle.open_file.specs.Parts.{heap_pages}
use Rattle.pages.proofs.EachLemmas.{each_weaker, each_join, each_left, each_right, apart_join, outside_symm}
use Rattle.pages.proofs.PartLemmas.{low_or_not}
use Rattle.page_alloc.specs.FreePage.{next_of}
use Rattle.page_alloc.specs.Chain.{is_page, is_among, chain}
use Rattle.page_alloc.proofs.ChainLemmas.{chain_step, still_none, in_use}
use Rattle.page_walks.proofs.FreeLemmas.{not_among}
use Rattle.record_heap.proofs.StandLemmas.{chain_live}
use Rattle.record_heap.specs.Standing.{first_heap_page}
use Rattle.bplus_tree.specs.declared.tree.Tree.{Tree}
use Rattle.bplus_tree.specs.Standing.{TreeStands}
use Rattle.key_index.proofs.LawLemmas.{prime_live, alt_live}
use Rattle.open_file.specs.declared.first_page.Header.{Header}
use Rattle.indexed_file.specs.File.{File}
use Rattle.open_file.specs.Fields.{alternates_of, heap_of}
use Rattle.open_file.specs.declared.open_file.OpenFile.{OpenFile}
use Rattle.open_file.specs.Stands.{Stands}
use Rattle.open_file.proofs.PartsLemmas.{found_at}
use Rattle.file_reports.specs.declared.statistics.KeyStatistics.{KeyStatistics}
use Rattle.file_reports.specs.Statistics.{live_by, all_key_pages}
use Rattle.file_reports.proofs.PartLemmas.{IsWithin, count_pages, outside_each, all_apart, each_of_all}

among_outside : (n : ℕ) (ns : List ℕ) → is_among n ns ≡ false → IsOutside ns n
among_outside n [] out = tt
among_outside n (m ∷ ms) out = let parts = or_parts (nat_eq n m) (is_among n ms) out in (eqb-false n m parts.0, among_outside n ms parts.1)

pub page_within : (count n : ℕ) → is_page count n ≡ true → IsWithin count n
page_within count n is =
    let parts = and_parts (ltb 0 n) (ltb n count) is in
    let low = ltb-true 0 n parts.0 in
    (omega (arith, low), ltb-true n count parts.1)

record FreeAre (count free : ℕ) (ns : List ℕ) : Type 0 where
  pub apart : AreApart ns
  pub within : Each (IsWithin count) ns
  pub long : length ns ≡ free

free_are : (page : ℕ → List ℕ) (count first free : ℕ) (ns : List ℕ) → chain page count first free ≡ Some ns → FreeAre count free ns
free_are page count first zero ns is =
    let none = (still_none page page count count first ns is).0 in
    subst (FreeAre count zero) (sym none) (record { apart = tt; within = tt; long = refl })
free_are page count first (suc free) ns is =
    let step = chain_step page count first free ns is in
    let rest = free_are page count (next_of (page first)) free step.rest step.goes_on in
    subst (FreeAre count (suc free)) (sym step.is)
    (record { apart = (among_outside first step.rest step.apart, rest.apart); within = (page_within count first step.page, rest.within); long = ap suc rest.long })

some_of : {X : Type 0} (o : Option X) → IsSome o → (x : X) × (o ≡ Some x)
some_of (Some x) h = (x, refl)
some_of None h = absurd (cc)

tree_apart : (tree : Tree) (pages : PageMap) (entries : List (List ℕ)) (own : List ℕ) → TreeStands tree pages entries own → AreApart own
tree_apart tree pages entries own stands = subst AreApart stands.pages_are stands.whole.apart

past_end : (owns : List (List ℕ)) (n : ℕ) → length owns ≤ n → own_at owns n ≡ []
past_end [] n past = refl
past_end (own ∷ owns) zero past = absurd (omega arith)
past_end (own ∷ owns) (suc n) past = past_end owns n (omega arith)

module _ (page : ℕ → List ℕ) (header : Header) (opened : OpenFile) (file : File) (stands : Stands opened (live_by page header) file)
    (sound : IsSome (chain page header.pages header.first_free header.free)) (k : ℕ) (many : header.pages ≡ suc k) where
  abbrev pub owns : List (List ℕ)
  owns = stands.parts.owns

  free_pages : (ns : List ℕ) × (chain page header.pages header.first_free header.free ≡ Some ns)
  free_pages = some_of (chain page header.pages header.first_free header.free) sound

  apart_at : (i : ℕ) → AreApart (own_at owns i)
  apart_at zero = stands.parts.heap_stands.apart
  apart_at (suc zero) = tree_apart _ _ _ _ stands.parts.prime_stands.tree
  apart_at (suc (suc j)) = by_place (low_or_not j (length (alternates_of opened)))
    where
      by_place : (j < length (alternates_of opened)) ⊎ (length (alternates_of opened) ≤ j) → AreApart (own_at owns (suc (suc j)))
      by_place (inl inside) =
          let index = found_at (alternates_of opened) j inside in
          let same : j + 2 ≡ suc (suc j) = omega arith in
          subst (λ (i : ℕ). AreApart (own_at owns i)) same (tree_apart _ _ _ _ (stands.parts.alternates_stand j index.0 inside index.1).tree)
      by_place (inr past) = let n = stands.parts.owners in let none = past_end owns (suc (suc j)) (omega (arith, n, past)) in subst AreApart (sym none) tt

  live_at : (i : ℕ) → Each (λ n. IsSome (live_by page header n)) (own_at owns i)
  live_at zero = chain_live (live_by page header) (first_heap_page (heap_of opened)) (heap_pages owns) stands.parts.heap_stands.chain
  live_at (suc zero) = (prime_live _ _ _ _ stands.parts.prime_stands).live
  live_at (suc (suc j)) = by_place (low_or_not j (length (alternates_of opened)))
    where
      by_place : (j < length (alternates_of opened)) ⊎ (length (alternates_of opened) ≤ j) → Each (λ n. IsSome (live_by page header n)) (own_at owns (suc (suc j)))
      by_place (inl inside) =
          let index = found_at (alternates_of opened) j inside in
          let same : j + 2 ≡ suc (suc j) = omega arith in
          subst (λ (i : ℕ). Each (λ n. IsSome (live_by page header n)) (own_at owns i)) same (alt_live _ _ _ _ (stands.parts.alternates_stand j index.0 inside index.1)).live
      by_place (inr past) =
          let n = stands.parts.owners in
          let none = past_end owns (suc (suc j)) (omega (arith, n, past)) in
          subst (Each (λ n. IsSome (live_by page header n))) (sym none) tt

  all_live : Each (λ n. IsSome (live_by page header n)) (all_of owns)
  all_live = each_of_all (λ n. IsSome (live_by page header n)) owns live_at

  live_is : (n : ℕ) → IsSome (live_by page header n) → IsWithin header.pages n × IsOutside free_pages.0 n
  live_is n live =
      let found = in_use page header.pages n (chain page header.pages header.first_free header.free) live in
      let same : free_pages.0 ≡ found.0 = (let e : Some free_pages.0 ≡ Some found.0 = sym free_pages.1 ∙ found.1 in cc) in
      (page_within header.pages n found.2, among_outside n free_pages.0 (ap (is_among n) same ∙ found.3))

  not_live : (n : ℕ) → IsWithin header.pages n → IsOutside free_pages.0 n → live_by page header n ≡ None → ⊥
  not_live n within out none =
      let inside : is_page header.pages n ≡ true = rw (lt-ltb 0 n within.0, lt-ltb n header.pages within.1) refl in
      let yes : live_by page header n ≡ Some (page n) = rw (free_pages.1, inside, not_among n free_pages.0 out) refl in
      let no : Some (page n) ≡ None = sym yes ∙ none in
      cc

  -- the header, the free pages and those of all parts are the pages of the file
  pub parts_count : length (all_of owns) + header.free + 1 ≡ header.pages
  parts_count =
      let free = free_are page header.pages header.first_free header.free free_pages.0 free_pages.1 in
      let whole = free_pages.0 ++ all_of owns in
      let apart : AreApart whole = apart_join free_pages.0 (all_of owns) free.apart (all_apart owns apart_at stands.parts.parted.apart)
      (outside_symm (all_of owns) free_pages.0 (each_weaker (λ n. IsSome (live_by page header n)) (IsOutside free_pages.0) (λ n live. (live_is n live).1) (all_of owns) all_live)) in
      let within : Each (IsWithin header.pages) whole = each_join (IsWithin header.pages) free_pages.0 (all_of owns) free.within
      (each_weaker (λ n. IsSome (live_by page header n)) (IsWithin header.pages) (λ n live. (live_is n live).0) (all_of owns) all_live) in
      let covers : (n : ℕ) → 1 ≤ n → n < suc k → IsOutside whole n → ⊥ =
      λ n some low out. not_live n (some, subst (λ (m : ℕ). n < m) (sym many) low) (each_left (λ m. n ≢ m) free_pages.0 (all_of owns) out)
      (stands.parts.parted.covers n (outside_each n owns (each_right (λ m. n ≢ m) free_pages.0 (all_of owns) out))) in
      let total = count_pages k whole apart (subst (λ (m : ℕ). Each (IsWithin m) whole) many within) covers in
      let long = length-append free_pages.0 (all_of owns) in
      let f = free.long in
      omega (arith, total, long, f, many)

-- a part has no more pages than all
pub part_few : (owns : List (List ℕ)) (i : ℕ) → length (own_at owns i) ≤ length (all_of owns)
part_few [] i = omega arith
part_few (own ∷ owns) zero = let a = length-append own (all_of owns) in omega (arith, a)
part_few (own ∷ owns) (suc i) = let a = length-append own (all_of owns) in omega (arith, a, part_few owns i)

-- the pages that are told of keys are those of their parts
keys_rest : (keys : List KeyStatistics) (owns : List (List ℕ)) → length owns ≡ length keys
    → ((i : ℕ) (key : KeyStatistics) → i < length keys → key ≡ slice_index_or keys i key → key.pages ≡ length (own_at owns i)) → all_key_pages keys ≡ length (all_of owns)
keys_rest [] [] many each = refl
keys_rest [] (own ∷ owns) many each = absurd (omega arith)
keys_rest (key ∷ keys) [] many each = absurd (omega arith)
keys_rest (key ∷ keys) (own ∷ owns) many each =
    let first = each 0 key (omega arith) refl in
    let rest = keys_rest keys owns (omega arith) (λ i other inside is. each (suc i) other (omega arith) is) in
    let a = length-append own (all_of owns) in
    omega (arith, first, rest, a)

pub keys_count : (keys : List KeyStatistics) (owns : List (List ℕ)) → length owns ≡ length keys + 1
    → ((i : ℕ) (key : KeyStatistics) → i < length keys → key ≡ slice_index_or keys i key → key.pages ≡ length (own_at owns (suc i)))
    → all_key_pages keys + length (heap_pages owns) ≡ length (all_of owns)
keys_count keys [] many each = absurd (omega arith)
keys_count keys (own ∷ owns) many each =
    let rest = keys_rest keys owns (omega arith) (λ i key inside is. each i key inside is) in
    let a = length-append own (all_of owns) in
    omega (arith, rest, a)
