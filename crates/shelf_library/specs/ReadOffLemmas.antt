-- What the pages of an open file read as is what its header's pages read as.
use Rattle.std.proofs.Common.{◌≡◌, ◌+◌, ◌*◌, ◌≤◌, List, [], ◌∷◌, length, drop, map, inl, inr, refl, sym, ◌∙◌, ap, arith}
use Rattle.std.proofs.lemmas.Bool.{cases_Bool}
use Rattle.std.proofs.lemmas.List.{length-drop}
use Rattle.std.proofs.Math.Bridge.{le_prop}
use mathlib.Core.HLevel.{is_prop→PathP}
use Rattle.record_layout.specs.declared.schema.KeyPart.{KeyPart}
use Rattle.record_layout.specs.Schema.{Schema, key_at, has_duplicates, no_key}
use Rattle.pages.specs.PageMap.{PageMap}
use Rattle.open_file.specs.declared.first_page.Header.{Header}
use Rattle.open_file.specs.Bounds.{IsHeader}
use Rattle.tree_node.specs.declared.shape.NodeShape.{NodeShape}
use Rattle.key_index.specs.declared.prime_index.PrimeIndex.{PrimeIndex}
use Rattle.key_index.specs.declared.entry.PrimeEntry.{PrimeEntry}
use Rattle.key_index.specs.Stored.{prime_entry_in}
use Rattle.key_index.specs.Standing.{prime_off}
use Rattle.bplus_tree.specs.ReadOff.{entries_in}
use Rattle.bplus_tree.specs.Fields.{tree_shape, tree_root, tree_levels}
use Rattle.record_heap.specs.declared.shape.SlotShape.{SlotShape}
use Rattle.record_heap.specs.declared.heap.Heap.{Heap}
use Rattle.record_heap.specs.Calls.{used_at}
use Rattle.record_heap.specs.Standing.{slot_shape}
use Rattle.open_file.specs.Fields.{heap_of, prime_index_of, file_schema}
use Rattle.open_file.specs.Stored.{stamps_length}
use Rattle.open_file.specs.ReadOff.{row_off, rows_off, file_off}
use Rattle.open_file.specs.Headers.{IsOpenedBy}
use Rattle.open_file.specs.declared.open_file.OpenFile.{OpenFile}
use Rattle.shelf_library.specs.ReadOff.{prime_by, heap_by, file_by}

-- ---- shapes of the same numbers are one

same_shape : (a b : NodeShape) → a.key ≡ b.key → a.width ≡ b.width → a.entry ≡ b.entry → a ≡ b
same_shape a b k w e = λ i. record {
  key = k i;
  width = w i;
  entry = e i;
  some = is_prop→PathP (λ j. 1 ≤ w j) (λ j. le_prop) a.some b.some i;
  narrow = is_prop→PathP (λ j. w j ≤ 258) (λ j. le_prop) a.narrow b.narrow i;
  longer = is_prop→PathP (λ j. w j ≤ e j) (λ j. le_prop) a.longer b.longer i;
  short = is_prop→PathP (λ j. e j ≤ 508) (λ j. le_prop) a.short b.short i;
}

same_slots : (a b : SlotShape) → a.stamps ≡ b.stamps → a.least ≡ b.least → a.greatest ≡ b.greatest → a ≡ b
same_slots a b s l g = λ i. record {
  stamps = s i;
  least = l i;
  greatest = g i;
  order = is_prop→PathP (λ j. l j ≤ g j) (λ j. le_prop) a.order b.order i;
  fits = is_prop→PathP (λ j. s j + g j ≤ 4077) (λ j. le_prop) a.fits b.fits i;
}

-- an index of the same numbers reads as the same entries
same_prime : (a b : PrimeIndex) (pages : PageMap) → a.width ≡ b.width → tree_root a.tree ≡ tree_root b.tree → tree_levels a.tree ≡ tree_levels b.tree → prime_off a pages ≡ prime_off b pages
same_prime a b pages width root levels =
    let shape = same_shape (tree_shape a.tree) (tree_shape b.tree) (a.number ∙ sym b.number) (a.keys ∙ width ∙ sym b.keys) (a.entries ∙ ap (λ w. w + 6) width ∙ sym b.entries) in
    λ i. map (prime_entry_in (width i)) (entries_in (shape i) pages (levels i) (root i))

same_rows : (a b : Heap) (pages : PageMap) (schema : Schema) (entries : List PrimeEntry) → slot_shape a ≡ slot_shape b → rows_off schema a pages entries ≡ rows_off schema b pages entries
same_rows a b pages schema [] shape = refl
same_rows a b pages schema (entry ∷ entries) shape = λ i. row_off schema (used_at (shape i) pages entry.place) ∷ same_rows a b pages schema entries shape i

-- ---- a header that is accepted has all numbers within their bounds

stamps_few : (parts : List KeyPart) → stamps_length parts ≤ 8 * length parts
stamps_few [] = omega arith
stamps_few (part ∷ parts) = let few = stamps_few parts in elim (cases_Bool (has_duplicates part)) [
  | inl there ↦ rw there (omega arith)
  | inr none ↦ rw none (omega arith)
]

-- ---- the whole

module _ (opened : OpenFile) (header : Header) (pages : PageMap) (allowed : IsHeader header) (by : IsOpenedBy header opened) where
  schema_is : file_schema opened ≡ header.schema
  schema_is = by.header_is.schema_is

  some_keys : 1 ≤ length header.schema.keys
  some_keys = let e = ap (λ (s : Schema). length s.keys) schema_is in let k = by.shaped.keys in omega arith

  width_is : (prime_index_of opened).width ≡ (prime_by header).width
  width_is =
      let here = ap (λ s. (key_at s 0).length) schema_is in
      let key = allowed.schema.whole 0 no_key some_keys in
      let some = key.some in
      let short = key.short in
      let w = by.shaped.prime_width in
      omega arith

  levels_is : tree_levels (prime_index_of opened).tree ≡ tree_levels (prime_by header).tree
  levels_is =
      let tree = allowed.within.trees 0 (record { height = 0; root = 0 }) (let t = allowed.trees in let s = some_keys in omega arith) in
      let some = tree.some in
      let low = tree.low in
      let h = by.header_is.prime.height in
      omega arith

  slots_is : slot_shape (heap_of opened) ≡ slot_shape (heap_by header)
  slots_is =
      let few = stamps_few (drop 1 header.schema.keys) in
      let long = length-drop 1 header.schema.keys in
      let keys = allowed.schema.few in
      let ordered = allowed.schema.ordered in
      let limit = allowed.schema.limit in
      let s = by.shaped.stamps ∙ ap (λ (s : Schema). stamps_length (drop 1 s.keys)) schema_is in
      let l = by.shaped.least ∙ ap (λ (s : Schema). s.least) schema_is in
      let g = by.shaped.greatest ∙ ap (λ (s : Schema). s.greatest) schema_is in
      same_slots (slot_shape (heap_of opened)) (slot_shape (heap_by header)) (omega arith) (omega arith) (omega arith)

  pub reads_by_header : file_off opened pages ≡ file_by header pages
  reads_by_header =
      let entries = same_prime (prime_index_of opened) (prime_by header) pages width_is by.header_is.prime.root levels_is in
      let rows = same_rows (heap_of opened) (heap_by header) pages header.schema (prime_off (prime_by header) pages) slots_is in
      λ i. record {
        rows = (ap (λ s. rows_off s (heap_of opened) pages (prime_off (prime_index_of opened) pages)) schema_is ∙ ap (rows_off header.schema (heap_of opened) pages) entries ∙ rows) i;
        next_stamp = by.header_is.next_stamp i;
      }
