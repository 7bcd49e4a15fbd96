-- What is opened by the header of a file that stands, stands for the same records.
use Rattle.std.proofs.Common.{◌≡◌, ℕ, ◌+◌, ◌^◌, ◌≤◌, ◌<◌, List, [], ◌∷◌, length, drop, map, None, refl, ap, sym, subst, ◌∙◌, arith}
use Rattle.std.specs.Prelude.{IsTrue}
use Rattle.std.proofs.lemmas.Grind.{common_steps}
use Rattle.std.proofs.lemmas.List.{length-map}
use Rattle.std.proofs.Math.Bridge.{le_prop}
use mathlib.Core.HLevel.{is_prop→PathP}
use Rattle.record_layout.specs.Schema.{Schema, key_at}
use Rattle.indexed_file.specs.File.{Row}
use Rattle.indexed_file.specs.Sound.{is_file}
use Rattle.pages.specs.PageMap.{PageMap}
use Rattle.tree_node.specs.declared.shape.NodeShape.{NodeShape}
use Rattle.bplus_tree.specs.declared.tree.Tree.{Tree}
use Rattle.tree_search.specs.Tree.{TreeOf, entries_of, pages_of}
use Rattle.tree_search.specs.Calls.{IsWhole}
use Rattle.bplus_tree.specs.Standing.{TreeStands}
use Rattle.bplus_tree.specs.Fields.{tree_shape, tree_root, tree_levels, tree_count}
use Rattle.key_index.specs.declared.entry.PrimeEntry.{PrimeEntry}
use Rattle.key_index.specs.declared.entry.AltEntry.{AltEntry}
use Rattle.key_index.specs.declared.prime_index.PrimeIndex.{PrimeIndex}
use Rattle.key_index.specs.declared.alt_index.AltIndex.{AltIndex}
use Rattle.key_index.specs.Stored.{prime_bytes, alt_bytes, IsPrimeEntry, IsAltEntry}
use Rattle.key_index.specs.Standing.{AltStands, PrimeStands, alt_key}
use Rattle.pages.specs.Each.{Each}
use Rattle.record_heap.specs.declared.heap.Heap.{Heap}
use Rattle.record_heap.specs.declared.shape.Place.{Place}
use Rattle.record_heap.specs.declared.shape.SlotShape.{SlotShape}
use Rattle.record_heap.specs.Chain.{Slots}
use Rattle.record_heap.specs.Standing.{HeapStands, slot_shape, first_heap_page, first_free_slot, heap_with}
use Rattle.open_file.specs.InOrder.{put_row, in_order, alt_entries, prime_entries}
use Rattle.open_file.specs.Stored.{AreAt, stamps_length}
use Rattle.open_file.specs.Parts.{Parts, heap_pages, prime_pages, alternate_pages}
use Rattle.open_file.specs.Stands.{IsPlaced}
use Rattle.open_file.specs.Headers.{is_read_back}
use Rattle.open_file.proofs.PartsLemmas.{found_at}

-- ---- shapes of the same numbers are one

same_shape : (a b : NodeShape) → a.key ≡ b.key → a.width ≡ b.width → a.entry ≡ b.entry → a ≡ b
same_shape a b k w e = λ i. record {
  key = k i;
  width = w i;
  entry = e i;
  some = is_prop→PathP (λ j. 1 ≤ w j) (λ j. le_prop) a.some b.some i;
  narrow = is_prop→PathP (λ j. w j ≤ 258) (λ j. le_prop) a.narrow b.narrow i;
  longer = is_prop→PathP (λ j. w j ≤ e j) (λ j. le_prop) a.longer b.longer i;
  short = is_prop→PathP (λ j. e j ≤ 508) (λ j. le_prop) a.short b.short i;
}

pub same_slots : (a b : SlotShape) → a.stamps ≡ b.stamps → a.least ≡ b.least → a.greatest ≡ b.greatest → a ≡ b
same_slots a b s l g = λ i. record {
  stamps = s i;
  least = l i;
  greatest = g i;
  order = is_prop→PathP (λ j. l j ≤ g j) (λ j. le_prop) a.order b.order i;
  fits = is_prop→PathP (λ j. s j + g j ≤ 4077) (λ j. le_prop) a.fits b.fits i;
}

-- ---- the same numbers stand alike

record TreeAt (shape : NodeShape) (levels root count : ℕ) (pages : PageMap) (entries : List (List ℕ)) (own : List ℕ) : Type 0 where
  pub value : TreeOf levels
  pub whole : IsWhole shape pages levels root None None value
  pub has : entries_of levels value ≡ entries
  pub pages_are : pages_of levels value ≡ own
  pub many : count ≡ length entries

tree_moved : (old new : Tree) (pages : PageMap) (entries : List (List ℕ)) (own : List ℕ) → tree_shape old ≡ tree_shape new → tree_levels old ≡ tree_levels new
    → tree_root old ≡ tree_root new → tree_count old ≡ tree_count new
    → TreeStands old pages entries own → TreeStands new pages entries own
tree_moved old new pages entries own shape levels root count s =
    let here : TreeAt (tree_shape old) (tree_levels old) (tree_root old) (tree_count old) pages entries own = record { value = s.value; whole = s.whole; has = s.has; pages_are = s.pages_are; many = s.count } in
    let there : TreeAt (tree_shape new) (tree_levels new) (tree_root new) (tree_count new) pages entries own =
    subst (λ c. TreeAt (tree_shape new) (tree_levels new) (tree_root new) c pages entries own) count
    (subst (λ r. TreeAt (tree_shape new) (tree_levels new) r (tree_count old) pages entries own) root
    (subst (λ l. TreeAt (tree_shape new) l (tree_root old) (tree_count old) pages entries own) levels
    (subst (λ sh. TreeAt sh (tree_levels old) (tree_root old) (tree_count old) pages entries own) shape here))) in
    record { value = there.value; whole = there.whole; has = there.has; pages_are = there.pages_are; count = there.many }

prime_moved : (old new : PrimeIndex) (pages : PageMap) (entries : List PrimeEntry) (own : List ℕ) → old.width ≡ new.width → tree_levels old.tree ≡ tree_levels new.tree → tree_root old.tree ≡ tree_root new.tree → tree_count old.tree ≡ tree_count new.tree
    → PrimeStands old pages entries own → PrimeStands new pages entries own
prime_moved old new pages entries own width levels root count s =
    let shape = same_shape (tree_shape old.tree) (tree_shape new.tree) (old.number ∙ sym new.number) (old.keys ∙ width ∙ sym new.keys) (old.entries ∙ ap (λ w. w + 6) width ∙ sym new.entries) in
    record {
      tree = tree_moved old.tree new.tree pages (map prime_bytes entries) own shape levels root count s.tree;
      each = subst (λ w. Each (IsPrimeEntry w) entries) width s.each;
    }

alt_moved : (old new : AltIndex) (pages : PageMap) (entries : List AltEntry) (own : List ℕ) → alt_key old ≡ alt_key new → old.width ≡ new.width → old.prime ≡ new.prime
    → tree_levels old.tree ≡ tree_levels new.tree → tree_root old.tree ≡ tree_root new.tree → tree_count old.tree ≡ tree_count new.tree
    → AltStands old pages entries own → AltStands new pages entries own
alt_moved old new pages entries own key width prime levels root count s =
    let long : old.width + 8 + old.prime ≡ new.width + 8 + new.prime = omega (arith, width, prime) in
    let shape = same_shape (tree_shape old.tree) (tree_shape new.tree) key (old.keys ∙ ap (λ w. w + 8) width ∙ sym new.keys) (old.entries ∙ long ∙ sym new.entries) in
    record {
      tree = tree_moved old.tree new.tree pages (map alt_bytes entries) own shape levels root count s.tree;
      each = subst (λ p. Each (IsAltEntry new.width p) entries) prime (subst (λ w. Each (IsAltEntry w old.prime) entries) width s.each);
    }

heap_moved : (old new : Heap) (pages : PageMap) (slots : Slots) (own : List ℕ) → slot_shape old ≡ slot_shape new → first_heap_page old ≡ first_heap_page new → (first_free_slot old).page ≡ (first_free_slot new).page → (first_free_slot old).slot ≡ (first_free_slot new).slot
    → HeapStands old pages slots own → HeapStands new pages slots own
heap_moved old new pages slots own shape first page slot s =
    let same : old ≡ new = λ i. heap_with (shape i) (first i) (record { page = page i; slot = slot i }) in
    subst (λ heap. HeapStands heap pages slots own) same s

-- ---- an entry for each record

put_more : (schema : Schema) (k : ℕ) (row : Row) (rows : List Row) → length (put_row schema k row rows) ≡ length rows + 1
put_more schema k row [] = refl
put_more schema k row (next ∷ rows) = grind (arith, common_steps, put_more schema k row rows)

in_order_many : (schema : Schema) (k : ℕ) (rows : List Row) → length (in_order schema k rows) ≡ length rows
in_order_many schema k [] = refl
in_order_many schema k (row ∷ rows) = omega (arith, put_more schema k row (in_order schema k rows), in_order_many schema k rows)

pub alt_entries_many : (schema : Schema) (k : ℕ) (rows : List Row) → length (alt_entries schema k rows) ≡ length rows
alt_entries_many schema k rows = length-map (in_order schema k rows) _ ∙ in_order_many schema k rows

pub prime_entries_many : (schema : Schema) (slots : Slots) (places : List Place) (rows : List Row) → AreAt schema slots places rows → length (prime_entries schema places rows) ≡ length rows
prime_entries_many schema slots [] [] at = refl
prime_entries_many schema slots [] (row ∷ rows) at = absurd at
prime_entries_many schema slots (place ∷ places) [] at = absurd at
prime_entries_many schema slots (place ∷ places) (row ∷ rows) at = let rest = prime_entries_many schema slots places rows at.1 in omega (arith, rest)

-- ---- the whole

-- levels by heights
lower : (a b h : ℕ) → a + 1 ≡ h → b + 1 ≡ h → a ≡ b
lower a b h at there = omega (arith, at, there)

pub read_back : is_read_back
read_back opened other header pages file stands shaped of made =
    let is = made.header_is in
    let schema : opened.schema ≡ other.schema = of.schema_is ∙ sym is.schema_is in
    let many : length opened.alternates.items ≡ length other.alternates.items = omega (arith, shaped.keys, made.shaped.keys, ap (λ (s : Schema). length s.keys) schema) in
    let p = stands.parts in
    let prime_width : opened.prime.width ≡ other.prime.width = shaped.prime_width ∙ ap (λ s. (key_at s 0).length) schema ∙ sym made.shaped.prime_width in
    let prime_levels = lower (tree_levels opened.prime.tree) (tree_levels other.prime.tree) _ of.prime.height is.prime.height in
    let rows_many = prime_entries_many opened.schema stands.slots stands.places file.rows stands.placed.rows_at in
    let counted : header.records ≡ length file.rows = sym of.records ∙ p.prime_stands.tree.count ∙ length-map _ _ ∙ rows_many in
    let slots = same_slots (slot_shape opened.heap) (slot_shape other.heap)
    (shaped.stamps ∙ ap (λ (s : Schema). stamps_length (drop 1 s.keys)) schema ∙ sym made.shaped.stamps)
    (shaped.least ∙ ap (λ (s : Schema). s.least) schema ∙ sym made.shaped.least)
    (shaped.greatest ∙ ap (λ (s : Schema). s.greatest) schema ∙ sym made.shaped.greatest) in
    let parts : Parts other.heap other.prime other.alternates.items pages stands.slots (prime_entries opened.schema stands.places file.rows) (λ j. alt_entries opened.schema (j + 1) file.rows) = record {
      owns = p.owns;
      owners = p.owners ∙ ap (λ n. n + 2) many;
      heap_stands = heap_moved opened.heap other.heap pages stands.slots (heap_pages p.owns) slots (of.first_heap ∙ sym is.first_heap) (of.free_page ∙ sym is.free_page) (of.free_slot ∙ sym is.free_slot) p.heap_stands;
      prime_stands = prime_moved opened.prime other.prime pages _ (prime_pages p.owns) prime_width prime_levels (of.prime.root ∙ sym is.prime.root) (of.records ∙ sym is.records) p.prime_stands;
      alternates_stand = λ j index within at.
          let inside : j < length opened.alternates.items = omega (arith, within, many) in
          let found = found_at opened.alternates.items j inside in
          let old = found.0 in
          let old_at = found.1 in
          let s = p.alternates_stand j old inside old_at in
          let widths = shaped.widths j old inside old_at in
          let others = made.shaped.widths j index within at in
          let tree = of.alternates j old inside old_at in
          let told = is.alternates j index within at in
          let count : tree_count old.tree ≡ tree_count index.tree = s.tree.count ∙ length-map _ _ ∙ alt_entries_many opened.schema (j + 1) file.rows ∙ sym counted ∙ sym (made.counts j index within at) in
          alt_moved old index pages _ (alternate_pages p.owns j)
          (shaped.numbers j old inside old_at ∙ sym (made.shaped.numbers j index within at))
          (widths.0 ∙ ap (λ s. (key_at s (j + 1)).length) schema ∙ sym others.0)
          (widths.1 ∙ ap (λ s. (key_at s 0).length) schema ∙ sym others.1)
          (lower (tree_levels old.tree) (tree_levels index.tree) _ tree.height told.height)
          (tree.root ∙ sym told.root) count s;
      parted = p.parted;
    } in
    record {
      sound = subst (λ s. IsTrue (is_file s file)) schema stands.sound;
      stamp = is.next_stamp ∙ sym of.next_stamp ∙ stands.stamp;
      few = subst (λ n. n ≤ 2 ^ 63) (of.next_stamp ∙ sym is.next_stamp) stands.few;
      places = stands.places;
      slots = stands.slots;
      placed = subst (λ s. IsPlaced s stands.slots stands.places file.rows) schema stands.placed;
      parts = subst (λ s. Parts other.heap other.prime other.alternates.items pages stands.slots (prime_entries s stands.places file.rows) (λ j. alt_entries s (j + 1) file.rows)) schema parts;
      on_path = rw made.no_path tt;
    }
