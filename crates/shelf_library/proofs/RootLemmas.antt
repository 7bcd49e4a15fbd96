-- The root of each tree is a page in use, and no two trees have one root.
use Rattle.std.proofs.Common.{zero, suc, ◌≡◌, ◌≢◌, inl, inr, ℕ, ◌+◌, ◌≤◌, ◌<◌, ◌||◌, true, false, nat_eq, List, [], ◌∷◌, length, IsSome, refl, sym, ◌∙◌, ap, subst, arith}
use Rattle.std.specs.Prelude.{slice_index_or}
use Rattle.std.specs.List.{IsDistinct, AllByRecursion}
use Rattle.std.proofs.lemmas.Map.Steps.{length-le_from_distinct_below}
use Rattle.std.proofs.lemmas.Bool.{cases_Bool, or_parts, eqb-true}
use Rattle.pages.specs.Each.{Each}
use Rattle.pages.specs.PageMap.{PageMap}
use Rattle.pages.specs.Owners.{IsOutside}
use Rattle.bplus_tree.specs.declared.tree.Tree.{Tree}
use Rattle.tree_search.specs.Tree.{TreeOf, page_of, pages_of}
use Rattle.bplus_tree.specs.Standing.{TreeStands}
use Rattle.bplus_tree.specs.Fields.{tree_root, tree_levels}
use Rattle.key_index.specs.declared.entry.PrimeEntry.{PrimeEntry}
use Rattle.key_index.specs.declared.entry.AltEntry.{AltEntry}
use Rattle.key_index.specs.declared.prime_index.PrimeIndex.{PrimeIndex}
use Rattle.key_index.specs.declared.alt_index.AltIndex.{AltIndex}
use Rattle.key_index.proofs.LawLemmas.{prime_live, alt_live}
use Rattle.record_heap.specs.declared.heap.Heap.{Heap}
use Rattle.record_heap.specs.Chain.{Slots}
use Rattle.open_file.specs.Parts.{Parts, prime_pages, alternate_pages}
use Rattle.pages.specs.Parted.{own_at}
use Rattle.open_file.proofs.PartsLemmas.{found_at}
use Rattle.page_alloc.specs.Chain.{is_among}

-- ---- numbers that are all different

-- the first n of them, the last in front
members : (ℕ → ℕ) → ℕ → List ℕ
members r zero = []
members r (suc n) = r n ∷ members r n

length_members : (r : ℕ → ℕ) (n : ℕ) → length (members r n) ≡ n
unfolding members
length_members r zero = refl
length_members r (suc n) = ap suc (length_members r n)

among_members : (r : ℕ → ℕ) (n q : ℕ) → is_among q (members r n) ≡ true → (i : ℕ) × (i < n) × (q ≡ r i)
unfolding members
among_members r zero q found = absurd (cc)
among_members r (suc n) q found = elim (cases_Bool (nat_eq q (r n))) [
  | inl same ↦ (n, omega arith, eqb-true q (r n) same)
  | inr other ↦ let rest = among_members r n q (subst (λ b. (b || is_among q (members r n)) ≡ true) other found) in (rest.0, omega (arith, rest.1), rest.2)
]

all_other : (n : ℕ) (ns : List ℕ) → is_among n ns ≡ false → AllByRecursion (λ m. nat_eq n m ≡ false) ns
all_other n [] out = tt
all_other n (m ∷ ns) out = let p = or_parts (nat_eq n m) (is_among n ns) out in (p.0, all_other n ns p.1)

distinct_none : IsDistinct nat_eq []
unfolding IsDistinct
distinct_none = tt

distinct_front : (n : ℕ) (ns : List ℕ) → is_among n ns ≡ false → IsDistinct nat_eq ns → IsDistinct nat_eq (n ∷ ns)
unfolding IsDistinct
distinct_front n ns out rest = (all_other n ns out, rest)

-- a number that is none of them
not_among : (r : ℕ → ℕ) (n q : ℕ) → ((i : ℕ) → i < n → q ≢ r i) → is_among q (members r n) ≡ false
not_among r n q none = elim (cases_Bool (is_among q (members r n))) [
  | inl found ↦ let p = among_members r n q found in absurd (none p.0 p.1 p.2)
  | inr out ↦ out
]

distinct_members : (r : ℕ → ℕ) (n : ℕ) → ((i j : ℕ) → i < n → j < i → r i ≢ r j) → IsDistinct nat_eq (members r n)
unfolding members
distinct_members r zero apart = distinct_none
distinct_members r (suc n) apart =
    distinct_front (r n) (members r n) (not_among r n (r n) (λ j low. apart n j (omega arith) low)) (distinct_members r n (λ i j low below. apart i j (omega arith) below))

-- n different numbers, from 1 on and below a count
pub fewer : (r : ℕ → ℕ) (n count : ℕ) → ((i : ℕ) → i < n → (0 < r i) × (r i < count)) → 0 < count → ((i j : ℕ) → i < n → j < i → r i ≢ r j) → 1 + n ≤ count
fewer r n count within some apart =
    let zero_out = not_among r n 0 (λ i low e. let w = within i low in absurd (omega (arith, w.0, e))) in
    let all = distinct_front 0 (members r n) zero_out (distinct_members r n apart) in
    let few = length-le_from_distinct_below (0 ∷ members r n) count all (λ q found. low q found) in
    omega (arith, length_members r n, few)
  where
    low : (q : ℕ) → is_among q (0 ∷ members r n) ≡ true → q < count
    low q found = elim (cases_Bool (nat_eq q 0)) [
      | inl same ↦ let e = eqb-true q 0 same in omega arith
      | inr other ↦
          let p = among_members r n q (subst (λ b. (b || is_among q (members r n)) ≡ true) other found) in
          let w = within p.0 p.1 in omega (arith, p.2, w.1)
    ]

-- ---- the pages of a tree begin with its root

-- the root is the first of these pages, and in use
pub record IsRootOf (pages : PageMap) (own : List ℕ) (root : ℕ) : Type 0 where
  pub rest : List ℕ
  pub is : own ≡ root ∷ rest
  pub live : IsSome (pages root)

first_page : (h : ℕ) (t : TreeOf h) → (rest : List ℕ) × (pages_of h t ≡ page_of h t ∷ rest)
first_page zero t = ([], refl)
first_page (suc h) t = (_, refl)

root_of : (tree : Tree) (pages : PageMap) (entries : List (List ℕ)) (own : List ℕ) → TreeStands tree pages entries own → Each (λ n. IsSome (pages n)) own → IsRootOf pages own (tree_root tree)
root_of tree pages entries own stands live =
    let first = first_page (tree_levels tree) stands.value in
    let is : own ≡ tree_root tree ∷ first.0 = sym stands.pages_are ∙ first.1 ∙ ap (λ n. n ∷ first.0) stands.whole.stands.root in
    record { rest = first.0; is = is; live = (subst (Each (λ n. IsSome (pages n))) is live).0 }

module _ (heap : Heap) (prime : PrimeIndex) (alternates : List AltIndex) (pages : PageMap) (slots : Slots) (primes : List PrimeEntry) (entries : ℕ → List AltEntry)
    (p : Parts heap prime alternates pages slots primes entries) where
  pub prime_root : IsRootOf pages (prime_pages p.owns) (tree_root prime.tree)
  prime_root = root_of prime.tree pages _ (prime_pages p.owns) p.prime_stands.tree (prime_live prime pages primes (prime_pages p.owns) p.prime_stands).live

  pub alternate_root : (j : ℕ) (index : AltIndex) → j < length alternates → index ≡ slice_index_or alternates j index → IsRootOf pages (alternate_pages p.owns j) (tree_root index.tree)
  alternate_root j index within at =
      let stands = p.alternates_stand j index within at in
      root_of index.tree pages _ (alternate_pages p.owns j) stands.tree (alt_live index pages (entries j) (alternate_pages p.owns j) stands).live

  -- the root of each tree
  root_at : (i : ℕ) → i < length alternates + 1 → (root : ℕ) × IsRootOf pages (own_at p.owns (i + 1)) root
  root_at zero low = (tree_root prime.tree, prime_root)
  root_at (suc j) low =
      let within : j < length alternates = omega arith in
      let index = found_at alternates j within in
      let next : j + 2 ≡ suc j + 1 = omega arith in
      (tree_root index.0.tree, subst (λ n. IsRootOf pages (own_at p.owns n) (tree_root index.0.tree)) next (alternate_root j index.0 within index.1))

  -- the first page of each part
  first_at : ℕ → ℕ
  first_at i = slice_index_or (own_at p.owns (i + 1)) 0 0

  first_is : (i : ℕ) → i < length alternates + 1 → IsRootOf pages (own_at p.owns (i + 1)) (first_at i)
  unfolding first_at
  first_is i low =
      let root = root_at i low in
      let same : root.0 ≡ slice_index_or (own_at p.owns (i + 1)) 0 0 = sym (ap (λ own. slice_index_or own 0 0) root.1.is) in
      subst (IsRootOf pages (own_at p.owns (i + 1))) same root.1

  firsts_apart : (i j : ℕ) → i < length alternates + 1 → j < i → first_at i ≢ first_at j
  firsts_apart i j low below same =
      let a = first_is i low in
      let b = first_is j (omega arith) in
      let differ : j + 1 ≢ i + 1 = λ e. absurd (omega (arith, e)) in
      let apart = p.parted.apart (j + 1) (i + 1) differ in
      let one = (subst (Each (λ n. IsOutside (own_at p.owns (j + 1)) n)) a.is apart).0 in
      (subst (λ own. IsOutside own (first_at i)) b.is one).0 same

  -- besides the header there are at least as many pages as trees
  pub trees_counted : (count : ℕ) → ((n : ℕ) → IsSome (pages n) → (0 < n) × (n < count)) → 1 + (length alternates + 1) ≤ count
  trees_counted count live =
      fewer first_at (length alternates + 1) count (λ i low. live (first_at i) (first_is i low).live)
      (let r = live (tree_root prime.tree) prime_root.live in omega (arith, r.1)) firsts_apart
