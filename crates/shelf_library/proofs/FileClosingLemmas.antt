-- The header of an open file whose pages stand for a file is one that a file may have.
use Rattle.std.proofs.Common.{zero, suc, ◌≡◌, inl, inr, ℕ, ◌+◌, ◌≤◌, ◌<◌, ◌==◌, IsSome, List, [], ◌∷◌, length, Option, sym, ◌∙◌, ap, subst, arith}
use Rattle.std.specs.Prelude.{slice_index_or}
use Rattle.std.proofs.lemmas.Bool.{cases_Bool, and_parts, leb-true, eqb-true, ltb-true}
use Rattle.pages.specs.Each.{Each}
use Rattle.record_layout.specs.Schema.{Schema, IsSchema}
use Rattle.indexed_file.specs.File.{File}
use Rattle.open_file.specs.declared.first_page.Header.{Header}
use Rattle.open_file.specs.declared.first_page.TreeNumbers.{TreeNumbers}
use Rattle.open_file.specs.Bounds.{AreTreeNumbers, AreLinksWithin, FitsItsBytes, IsHeader}
use Rattle.bplus_tree.specs.declared.tree.Tree.{Tree}
use Rattle.bplus_tree.specs.Fields.{tree_root}
use Rattle.record_heap.specs.declared.shape.Place.{Place}
use Rattle.record_heap.specs.Chain.{IsPlaceOf, IsOneOf, IsFreeChain}
use Rattle.record_heap.specs.Standing.{IsPageChain, first_heap_page, first_free_slot}
use Rattle.record_heap.proofs.StandLemmas.{chain_live}
use Rattle.page_alloc.specs.Chain.{chain, used}
use Rattle.page_alloc.proofs.ChainLemmas.{can_give, front_page_at}
use Rattle.open_file.specs.Parts.{heap_pages}
use Rattle.open_file.specs.Fields.{alternates_of, heap_of, prime_index_of}
use Rattle.open_file.specs.Stands.{Stands, IsShaped}
use Rattle.open_file.specs.Headers.{tree_at, HasTree, IsHeaderOf, Counts}
use Rattle.open_file.specs.declared.open_file.OpenFile.{OpenFile}
use Rattle.open_file.proofs.PartsLemmas.{each_map, found_at, same_default}
use Rattle.shelf_library.proofs.PagesLemmas.{Bytes}
use Rattle.shelf_library.proofs.RootLemmas.{prime_root, alternate_root, trees_counted}

one_of_each : {X : Type 0} (P : X → Type 0) (xs : List X) (x : X) → Each P xs → IsOneOf xs x → P x
one_of_each P [] x all is = absurd is
one_of_each P (y ∷ ys) x all (inl same) = subst P (sym same) all.0
one_of_each P (y ∷ ys) x all (inr later) = one_of_each P ys x all.1 later

-- the first free page is none, or one that is counted
first_free_below : (bytes : Bytes) (count first free : ℕ) → 0 < count → IsSome (chain bytes count first free) → first < count
first_free_below bytes count first zero some sound = elim (cases_Bool (first == 0)) [
  | inl none ↦ let e = eqb-true first 0 none in omega arith
  | inr more ↦ let h = rw more at sound in absurd (cc)
]
first_free_below bytes count first (suc free) some sound =
    let page = front_page_at bytes count first (suc free) (omega arith) sound in
    let p = and_parts _ _ page in
    ltb-true first count p.1

-- the first page of a chain is none, or one in use
first_of_chain : (count first : ℕ) (pages : ℕ → Option (List ℕ)) (own : List ℕ) → IsPageChain pages first own → 0 < count
    → ((n : ℕ) → IsSome (pages n) → n < count) → first < count
first_of_chain count first pages [] chained some low = omega arith
first_of_chain count first pages (n ∷ ns) chained some low =
    let live = chain_live pages first (n ∷ ns) chained in
    let here = low n live.0 in
    let same = chained.0 in
    omega arith

-- the first free slot is none, or in a page of the heap
first_of_slots : (behind : Place → Option Place) (first : Place) (free : List Place) (room : ℕ) (own : List ℕ) (P : Place → Type 0) (count : ℕ) → IsFreeChain behind first free
    → Each (λ p. IsPlaceOf room own p × P p) free → Each (λ n. n < count) own → 0 < count → first.page < count
first_of_slots behind first [] room own P count chained all low some = omega arith
first_of_slots behind first (p ∷ ps) room own P count chained all low some =
    subst (λ (q : Place). q.page < count) (sym chained.0) (one_of_each (λ n. n < count) own p.page low all.0.0.page)

-- ---- the header

module _ (opened : OpenFile) (bytes : Bytes) (count first free : ℕ) (file : File) (header : Header)
    (stands : Stands opened (used bytes count (chain bytes count first free)) file) (sound : IsSome (chain bytes count first free))
    (shaped : IsShaped opened) (of : IsHeaderOf header opened) (counts : Counts header count first free) (room : FitsItsBytes header) where
  live : (n : ℕ) → IsSome (used bytes count (chain bytes count first free) n) → (0 < n) × (n < count) × (free + 2 ≤ count)
  live n there = can_give bytes count n first free there

  prime_page : (0 < tree_root (prime_index_of opened).tree) × (tree_root (prime_index_of opened).tree < count) × (free + 2 ≤ count)
  prime_page = live (tree_root (prime_index_of opened).tree) (prime_root (heap_of opened) (prime_index_of opened) (alternates_of opened) _ stands.slots _ _ stands.parts).live

  some : 0 < count
  some = let p = prime_page in omega (arith, p.1)

  keys_are : length header.schema.keys ≡ length (alternates_of opened) + 1
  keys_are = sym (ap (λ (s : Schema). length s.keys) of.schema_is) ∙ shaped.keys

  tree_within : (tree : Tree) (numbers : TreeNumbers) → HasTree tree numbers → 0 < tree_root tree → tree_root tree < count → AreTreeNumbers header.pages numbers
  tree_within tree numbers has behind below =
      let root = has.root in
      let height = has.height in
      let low = tree.low in
      let pages = counts.pages_are in
      record { some = omega arith; low = omega arith; behind = omega arith; within = omega arith }

  trees_within : (k : ℕ) (d : TreeNumbers) → k < length header.trees.items → AreTreeNumbers header.pages (slice_index_or header.trees.items k d)
  trees_within zero d low =
      subst (AreTreeNumbers header.pages) (same_default header.trees.items 0 (record { height = 0; root = 0 }) d low)
      (tree_within (prime_index_of opened).tree (tree_at header 0) of.prime prime_page.0 prime_page.1)
  trees_within (suc j) d low =
      let within : j < length (alternates_of opened) = let t = of.trees in let k = keys_are in omega arith in
      let index = found_at (alternates_of opened) j within in
      let root = live (tree_root index.0.tree) (alternate_root (heap_of opened) (prime_index_of opened) (alternates_of opened) _ stands.slots _ _ stands.parts j index.0 within index.1).live in
      let next : j + 1 ≡ suc j = omega arith in
      subst (AreTreeNumbers header.pages) (same_default header.trees.items (suc j) (record { height = 0; root = 0 }) d low)
      (subst (λ k. AreTreeNumbers header.pages (tree_at header k)) next (tree_within index.0.tree (tree_at header (j + 1)) (of.alternates j index.0 within index.1) root.0 root.1))

  free_slot_below : (first_free_slot (heap_of opened)).page < count
  free_slot_below =
      let keeps = stands.parts.heap_stands.keeps in
      let own = heap_pages stands.parts.owns in
      let there = chain_live _ (first_heap_page (heap_of opened)) own stands.parts.heap_stands.chain in
      first_of_slots _ (first_free_slot (heap_of opened)) keeps.free _ own _ count keeps.chain keeps.free_are
      (each_map (λ n. IsSome (used bytes count (chain bytes count first free) n)) (λ n. n < count) (λ n here. (live n here).1) own there) some

  within : AreLinksWithin header
  within =
      let pages = counts.pages_are in
      let first_is = counts.first_is in
      let free_is = counts.free_are in
      let p = prime_page in
      let all = trees_counted (heap_of opened) (prime_index_of opened) (alternates_of opened) _ stands.slots _ _ stands.parts count (λ n there. let l = live n there in (l.0, l.1)) in
      record {
        counted = let k = keys_are in omega arith;
        trees = trees_within;
        first_free = let l = first_free_below bytes count first free some sound in omega arith;
        free = omega (arith, p.2);
        first_heap =
            let l = first_of_chain count (first_heap_page (heap_of opened)) _ (heap_pages stands.parts.owns) stands.parts.heap_stands.chain some (λ n there. (live n there).1) in
            let e = of.first_heap in omega arith;
        free_slot = let l = free_slot_below in let e = of.free_page in omega arith;
        stamped = let one = leb-true 1 file.next_stamp (and_parts _ _ stands.sound).0 in let e = stands.stamp in let h = of.next_stamp in omega arith;
        limit = let l = stands.few in let h = of.next_stamp in omega arith;
      }

  -- it is one that a file may have
  pub closed_header : IsHeader header
  closed_header = record {
    schema = subst IsSchema of.schema_is shaped.is_schema;
    trees = of.trees;
    within = within;
    room = room;
  }
