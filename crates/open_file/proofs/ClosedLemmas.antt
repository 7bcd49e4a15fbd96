-- The pages of a closed file are those of the open file that its header tells of.
use Rattle.std.proofs.Common.{◌≡◌, zero, suc, ℕ, ◌+◌, ◌-◌, ◌*◌, ◌≤◌, ◌<◌, ◌^◌, List, [], ◌∷◌, ◌++◌, length, map, slice_index_or, drop, refl, sym, ap, subst, ◌∙◌, arith}
use Rattle.std.specs.Prelude.{count_by, IsTrue, None, false, min}
use Rattle.std.specs.List.{All, zip}
use Rattle.std.proofs.lemmas.List.{length-map}
use Rattle.byteorder.specs.Endian.{big_bytes}
use Rattle.pages.specs.Each.{Each}
use Rattle.pages.specs.Parted.{own_at}
use Rattle.pages.proofs.EachLemmas.{each_weaker}
use Rattle.record_layout.specs.declared.schema.KeyPart.{KeyPart}
use Rattle.record_layout.specs.Schema.{Schema, IsSchema, IsKey, AreKeys, key_at, no_key, has_duplicates, value_of, prime_of}
use Rattle.indexed_file.specs.File.{Row, File, stamp_of}
use Rattle.indexed_file.specs.Sound.{is_file}
use Rattle.open_file.specs.declared.first_page.Header.{Header}
use Rattle.open_file.specs.declared.first_page.TreeNumbers.{TreeNumbers}
use Rattle.open_file.specs.Bounds.{AreTreeNumbers, IsHeader}
use Rattle.pages.specs.PageMap.{PageMap}
use Rattle.pages.specs.Owners.{AreApart}
use Rattle.tree_node.specs.declared.shape.NodeShape.{NodeShape}
use Rattle.tree_search.specs.Tree.{page_of, entries_of, pages_of}
use Rattle.bplus_tree.specs.declared.tree.Tree.{Tree}
use Rattle.bplus_tree.specs.Fields.{tree_shape, tree_root, tree_levels, tree_count, tree_with}
use Rattle.bplus_tree.specs.Standing.{TreeStands}
use Rattle.key_index.specs.declared.prime_index.PrimeIndex.{PrimeIndex}
use Rattle.key_index.specs.declared.alt_index.AltIndex.{AltIndex}
use Rattle.key_index.specs.Stored.{prime_bytes, alt_bytes, IsPrimeEntry, IsAltEntry}
use Rattle.key_index.specs.Standing.{AltStands, alt_key}
use Rattle.record_heap.specs.declared.shape.Place.{Place}
use Rattle.record_heap.specs.declared.shape.SlotShape.{SlotShape}
use Rattle.record_heap.specs.Slot.{room}
use Rattle.record_heap.specs.Calls.{used_at, behind_at}
use Rattle.record_heap.specs.Chain.{Slots, IsPlaceOf, KeepsSlots}
use Rattle.record_heap.specs.Standing.{IsPageChain, slot_shape, heap_with}
use Rattle.open_file.specs.InOrder.{in_order, alt_entry, alt_entries, prime_entries}
use Rattle.open_file.specs.Stored.{stamps_length}
use Rattle.open_file.specs.Parts.{Parts}
use Rattle.open_file.specs.Stands.{Stands, IsPlaced, IsShaped}
use Rattle.open_file.specs.Headers.{tree_at, HasTree, IsHeaderOf, IsOpenedBy}
use Rattle.open_file.specs.ClosedHeap.{HoldsHeap}
use Rattle.open_file.specs.ClosedTree.{HoldsNodes, HoldsTree}
use Rattle.open_file.specs.Closed.{HoldsPrime, HoldsAlternate, StandsClosed}
use Rattle.open_file.specs.declared.open_file.OpenFile.{OpenFile}
use Rattle.open_file.proofs.ClosedHeapLemmas.{closed_shape, slots_of, chain_held, chain_holds, rows_held, free_held, every_held, placed, keeps}
use Rattle.open_file.proofs.ClosedPagesLemmas.{all_each, each_all, pages_apart, pages_covered, own_apart, pages_parted}
use Rattle.open_file.proofs.ClosedTreeLemmas.{nodes_held, nodes_hold, root_enough, root_some}
use Rattle.open_file.proofs.CreatingLemmas.{stamps_counted}
use Rattle.open_file.proofs.HeaderLemmas.{alt_entries_many, prime_entries_many, same_slots}
use Rattle.open_file.proofs.PartsLemmas.{found_at}
use Rattle.open_file.proofs.StampedLemmas.{few_stamps}

-- ---- the entries of the rows

abbrev prime_row : Schema → Place × Row → List ℕ
prime_row schema r = prime_of schema r.1.bytes ++ (big_bytes 4 r.0.page ++ big_bytes 2 r.0.slot)

abbrev alt_row : Schema → ℕ → Row → List ℕ
alt_row schema k row = value_of schema k row.bytes ++ (big_bytes 8 (stamp_of k row) ++ prime_of schema row.bytes)

abbrev IsPrimeRow : Schema → Place × Row → Type 0
IsPrimeRow schema r = (length (prime_of schema r.1.bytes) ≡ (key_at schema 0).length)
    × All (λ b. b < 256) (prime_of schema r.1.bytes) × (r.0.page < 2 ^ 32) × (r.0.slot < 2 ^ 16)

abbrev IsAltRow : Schema → ℕ → Row → Type 0
IsAltRow schema k row = (length (value_of schema k row.bytes) ≡ (key_at schema k).length)
    × All (λ b. b < 256) (value_of schema k row.bytes) × (stamp_of k row < 2 ^ 64)
    × (length (prime_of schema row.bytes) ≡ (key_at schema 0).length)

module _ (schema : Schema) where
  prime_rows : (places : List Place) (rows : List Row) → map prime_bytes (prime_entries schema places rows) ≡ map (prime_row schema) (zip places rows)
  prime_rows [] rows = refl
  prime_rows (place ∷ places) [] = refl
  prime_rows (place ∷ places) (row ∷ rows) = ap (λ xs. prime_row schema (place, row) ∷ xs) (prime_rows places rows)

  alt_rows : (k : ℕ) (rows : List Row) → map alt_bytes (map (alt_entry schema k) rows) ≡ map (alt_row schema k) rows
  alt_rows k [] = refl
  alt_rows k (row ∷ rows) = ap (λ xs. alt_row schema k row ∷ xs) (alt_rows k rows)

  prime_each : (places : List Place) (rows : List Row) → Each (IsPrimeEntry (key_at schema 0).length) (prime_entries schema places rows) → Each (IsPrimeRow schema) (zip places rows)
  prime_each [] rows each = tt
  prime_each (place ∷ places) [] each = tt
  prime_each (place ∷ places) (row ∷ rows) each = ((each.0.long, all_each (λ b. b < 256) (prime_of schema row.bytes) each.0.bytes, each.0.page, each.0.slot), prime_each places rows each.1)

  each_prime : (places : List Place) (rows : List Row) → Each (IsPrimeRow schema) (zip places rows) → Each (IsPrimeEntry (key_at schema 0).length) (prime_entries schema places rows)
  each_prime [] rows each = tt
  each_prime (place ∷ places) [] each = tt
  each_prime (place ∷ places) (row ∷ rows) each = (record { long = each.0.0; bytes = each_all (λ b. b < 256) (prime_of schema row.bytes) each.0.1; page = each.0.2; slot = each.0.3 }, each_prime places rows each.1)

  alt_each : (k : ℕ) (rows : List Row) → Each (IsAltEntry (key_at schema k).length (key_at schema 0).length) (map (alt_entry schema k) rows) → Each (IsAltRow schema k) rows
  alt_each k [] each = tt
  alt_each k (row ∷ rows) each = ((each.0.long, all_each (λ b. b < 256) (value_of schema k row.bytes) each.0.bytes, each.0.stamp, each.0.prime_long), alt_each k rows each.1)

  each_alt : (k : ℕ) (rows : List Row) → Each (IsAltRow schema k) rows → Each (IsAltEntry (key_at schema k).length (key_at schema 0).length) (map (alt_entry schema k) rows)
  each_alt k [] each = tt
  each_alt k (row ∷ rows) each = (record { long = each.0.0; bytes = each_all (λ b. b < 256) (value_of schema k row.bytes) each.0.1; stamp = each.0.2; prime_long = each.0.3 }, each_alt k rows each.1)

-- a slot has room for the stamps and a record
stamps_fit : (schema : Schema) → IsSchema schema → 8 * count_by has_duplicates (drop 1 schema.keys) + schema.greatest ≤ 4077
stamps_fit schema is =
    let few = few_stamps schema.keys is.few in
    let limit = is.limit in
    let counted = stamps_counted (drop 1 schema.keys) in
    omega arith

-- ---- an open file that stands is closed by its header

tree_held : (header : Header) (k width entry : ℕ) (tree : Tree) (pages : PageMap) (entries : List (List ℕ)) (own : List ℕ) → HasTree tree (tree_at header k)
    → (tree_shape tree).key ≡ k → (tree_shape tree).width ≡ width → (tree_shape tree).entry ≡ entry → TreeStands tree pages entries own
    → HoldsTree header k width entry pages entries own
tree_held header k width entry tree pages entries own has key_is width_is entry_is stands =
    let levels = tree_levels tree in
    let whole = stands.whole in
    let shape = tree_shape tree in
    let least : ℕ → ℕ = λ room. min levels 1 in
    let high : (tree_at header k).height ≡ suc levels = let h = has.height in omega arith in
    let nodes = nodes_held shape pages levels least None None stands.value whole.stands.holds whole.filled (root_enough levels stands.value whole.rooted) whole.stands.ordered in
    record {
      levels = levels;
      root = tree_root tree;
      told = λ i. record { height = high i; root = (sym has.root) i };
      nodes = subst (λ own. HoldsNodes k width entry pages least None None levels (tree_root tree) entries own) stands.pages_are
          (subst (λ entries. HoldsNodes k width entry pages least None None levels (tree_root tree) entries (pages_of levels stands.value)) stands.has
          (subst (λ n. HoldsNodes k width entry pages least None None levels n (entries_of levels stands.value) (pages_of levels stands.value)) whole.stands.root
          (subst (λ e. HoldsNodes k width e pages least None None levels (page_of levels stands.value) (entries_of levels stands.value) (pages_of levels stands.value)) entry_is
          (subst (λ w. HoldsNodes k w shape.entry pages least None None levels (page_of levels stands.value) (entries_of levels stands.value) (pages_of levels stands.value)) width_is
          (subst (λ k. HoldsNodes k shape.width shape.entry pages least None None levels (page_of levels stands.value) (entries_of levels stands.value) (pages_of levels stands.value)) key_is nodes)))));
    }

module _ (header : Header) (opened : OpenFile) (pages : PageMap) (file : File) (shaped : IsShaped opened) (of : IsHeaderOf header opened) (stands : Stands opened pages file) where
  many : length header.schema.keys ≡ length opened.alternates.items + 1
  many = sym (ap (λ (s : Schema). length s.keys) of.schema_is) ∙ shaped.keys

  heap_held : HoldsHeap header pages stands.places file.rows (own_at stands.parts.owns 0)
  heap_held =
      let own = own_at stands.parts.owns 0 in
      let heap = stands.parts.heap_stands in
      let schema = header.schema in
      let is_schema = subst IsSchema of.schema_is shaped.is_schema in
      let order : schema.least ≤ schema.greatest = is_schema.ordered in
      let fits = stamps_fit schema is_schema in
      let shape : SlotShape = closed_shape schema order fits in
      let same : slot_shape opened.heap ≡ shape = same_slots (slot_shape opened.heap) shape
      (shaped.stamps ∙ ap (λ (s : Schema). stamps_length (drop 1 s.keys)) of.schema_is ∙ sym (stamps_counted (drop 1 schema.keys)))
      (shaped.least ∙ ap (λ (s : Schema). s.least) of.schema_is)
      (shaped.greatest ∙ ap (λ (s : Schema). s.greatest) of.schema_is) in
      let first : Place = record { page = header.free_slot_page; slot = header.free_slot } in
      let kept : KeepsSlots (room shape) own (used_at shape pages) (behind_at shape pages) stands.slots first =
      subst (KeepsSlots (room shape) own (used_at shape pages) (behind_at shape pages) stands.slots) (λ i. record { page = of.free_page i; slot = of.free_slot i })
      (subst (λ (s : SlotShape). KeepsSlots (room s) own (used_at s pages) (behind_at s pages) stands.slots opened.heap.free) same heap.keeps) in
      let at = subst (λ s. IsPlaced s stands.slots stands.places file.rows) of.schema_is stands.placed in
      record {
        chain = chain_held pages header.first_heap own (subst (λ first. IsPageChain pages first own) of.first_heap heap.chain);
        rows_at = rows_held schema order fits pages own stands.slots first kept stands.places file.rows at.rows_at;
        free = kept.free;
        free_are = free_held schema order fits pages first kept.free
            (each_weaker (λ p. IsPlaceOf (room shape) own p × (stands.slots p ≡ None)) (λ p. p.slot < room shape) (λ p is. is.0.slot) kept.free kept.free_are) kept.chain;
        every = every_held schema order fits pages own stands.slots first kept stands.places file.rows at;
      }

  prime_held : HoldsPrime header pages (zip stands.places file.rows) (own_at stands.parts.owns 1)
  prime_held =
      let width = shaped.prime_width ∙ ap (λ s. (key_at s 0).length) of.schema_is in
      let prime = stands.parts.prime_stands in
      let own = own_at stands.parts.owns 1 in
      let tree = subst (λ s. TreeStands opened.prime.tree pages (map prime_bytes (prime_entries s stands.places file.rows)) own) of.schema_is prime.tree in
      let each = subst (λ s. Each (IsPrimeEntry opened.prime.width) (prime_entries s stands.places file.rows)) of.schema_is prime.each in
      record {
        tree = tree_held header 0 _ _ opened.prime.tree pages _ own of.prime opened.prime.number (opened.prime.keys ∙ width) (opened.prime.entries ∙ ap (λ w. w + 6) width)
            (subst (λ entries. TreeStands opened.prime.tree pages entries own) (prime_rows header.schema stands.places file.rows) tree);
        each = all_each (IsPrimeRow header.schema) (zip stands.places file.rows)
            (prime_each header.schema stands.places file.rows (subst (λ w. Each (IsPrimeEntry w) (prime_entries header.schema stands.places file.rows)) width each));
      }

  alternate_held : (j : ℕ) → j + 1 < length header.schema.keys → HoldsAlternate header (j + 1) pages (in_order header.schema (j + 1) file.rows) (own_at stands.parts.owns (j + 2))
  alternate_held j inside =
      let within : j < length opened.alternates.items = omega (arith, inside, many) in
      let found = found_at opened.alternates.items j within in
      let index = found.0 in
      let own = own_at stands.parts.owns (j + 2) in
      let stood = stands.parts.alternates_stand j index within found.1 in
      let widths = shaped.widths j index within found.1 in
      let width = widths.0 ∙ ap (λ s. (key_at s (j + 1)).length) of.schema_is in
      let prime = widths.1 ∙ ap (λ s. (key_at s 0).length) of.schema_is in
      let tree = subst (λ s. TreeStands index.tree pages (map alt_bytes (alt_entries s (j + 1) file.rows)) own) of.schema_is stood.tree in
      let each = subst (λ s. Each (IsAltEntry index.width index.prime) (alt_entries s (j + 1) file.rows)) of.schema_is stood.each in
      record {
        tree = tree_held header (j + 1) _ _ index.tree pages _ own (of.alternates j index within found.1) (shaped.numbers j index within found.1)
            (index.keys ∙ ap (λ w. w + 8) width) (index.entries ∙ (λ i. width i + 8 + prime i))
            (subst (λ entries. TreeStands index.tree pages entries own) (alt_rows header.schema (j + 1) (in_order header.schema (j + 1) file.rows)) tree);
        each = all_each (IsAltRow header.schema (j + 1)) (in_order header.schema (j + 1) file.rows) (alt_each header.schema (j + 1) (in_order header.schema (j + 1) file.rows)
            (subst (λ p. Each (IsAltEntry (key_at header.schema (j + 1)).length p) (alt_entries header.schema (j + 1) file.rows)) prime
            (subst (λ w. Each (IsAltEntry w index.prime) (alt_entries header.schema (j + 1) file.rows)) width each)));
      }

  -- no page stands twice in a part
  owns_apart : (i : ℕ) → i < length stands.parts.owns → AreApart (own_at stands.parts.owns i)
  owns_apart zero inside = stands.parts.heap_stands.apart
  owns_apart (suc zero) inside = let tree = stands.parts.prime_stands.tree in subst AreApart tree.pages_are tree.whole.apart
  owns_apart (suc (suc j)) inside =
      let within : j < length opened.alternates.items = let owners = stands.parts.owners in omega (arith, inside, owners) in
      let found = found_at opened.alternates.items j within in
      let tree = (stands.parts.alternates_stand j found.0 within found.1).tree in
      let e : j + 2 ≡ suc (suc j) = omega arith in
      subst (λ i. AreApart (own_at stands.parts.owns i)) e (subst AreApart tree.pages_are tree.whole.apart)

  pub stands_by : StandsClosed header pages file
  stands_by =
      let rows = prime_entries_many opened.schema stands.slots stands.places file.rows stands.placed.rows_at in
      record {
        sound = subst (λ s. IsTrue (is_file s file)) of.schema_is stands.sound;
        stamp = sym of.next_stamp ∙ stands.stamp;
        records = sym of.records ∙ stands.parts.prime_stands.tree.count ∙ length-map _ _ ∙ rows;
        owns = stands.parts.owns;
        owners = let owners = stands.parts.owners in omega (arith, owners, many);
        apart = pages_apart pages stands.parts.owns stands.parts.parted owns_apart;
        covers = pages_covered pages stands.parts.owns stands.parts.parted;
        places = stands.places;
        heap = heap_held;
        prime = prime_held;
        alternates = alternate_held;
      }

-- ---- a closed file that stands is opened by its header

some_keys : (keys : List KeyPart) → AreKeys keys → 1 ≤ length keys
some_keys [] are = absurd are
some_keys (key ∷ keys) are = omega arith

module _ (header : Header) (pages : PageMap) (file : File) (allowed : IsHeader header) (closed : StandsClosed header pages file) where
  some : 1 ≤ length header.schema.keys
  some = some_keys header.schema.keys allowed.schema.keys

  key : (k : ℕ) → k < length header.schema.keys → IsKey header.schema.least (key_at header.schema k)
  key k inside = allowed.schema.whole k no_key inside

  numbers : (k : ℕ) → k < length header.schema.keys → AreTreeNumbers header.pages (tree_at header k)
  numbers k inside = allowed.within.trees k (record { height = 0; root = 0 }) (let trees = allowed.trees in omega (arith, trees, inside))

  low : (k : ℕ) → k < length header.schema.keys → (tree_at header k).height - 1 < 20
  low k inside = let tree = numbers k inside in let some = tree.some in let low = tree.low in omega arith

  height : (k : ℕ) → k < length header.schema.keys → (tree_at header k).height - 1 + 1 ≡ (tree_at header k).height
  height k inside = let tree = numbers k inside in let some = tree.some in omega arith

  abbrev tree_of : (k : ℕ) → k < length header.schema.keys → NodeShape → Tree
  tree_of k inside shape = tree_with shape (tree_at header k).root ((tree_at header k).height - 1) header.records (low k inside)

  abbrev prime_shape : NodeShape
  prime_shape =
      let part = key 0 some in
      let many = part.some in
      let few = part.short in
      record {
        key = 0;
        width = (key_at header.schema 0).length;
        entry = (key_at header.schema 0).length + 6;
        some = many;
        narrow = omega arith;
        longer = omega arith;
        short = omega arith;
      }

  abbrev prime : PrimeIndex
  prime = record {
    width = (key_at header.schema 0).length;
    tree = tree_of 0 some prime_shape;
    narrow = (key 0 some).short;
    keys = refl;
    entries = refl;
    number = refl;
  }

  abbrev alt_shape : (j : ℕ) → j + 1 < length header.schema.keys → NodeShape
  alt_shape j inside =
      let part = key (j + 1) inside in
      let few = part.short in
      let prime = key 0 some in
      let least = prime.short in
      record {
        key = j + 1;
        width = (key_at header.schema (j + 1)).length + 8;
        entry = (key_at header.schema (j + 1)).length + 8 + (key_at header.schema 0).length;
        some = omega arith;
        narrow = omega arith;
        longer = omega arith;
        short = omega arith;
      }

  abbrev index_of : (j : ℕ) → j + 1 < length header.schema.keys → AltIndex
  index_of j inside = record {
    width = (key_at header.schema (j + 1)).length;
    prime = (key_at header.schema 0).length;
    tree = tree_of (j + 1) inside (alt_shape j inside);
    some = (key (j + 1) inside).some;
    wide = (key (j + 1) inside).short;
    narrow = (key 0 some).short;
    keys = refl;
    entries = refl;
  }

  first_inside : (j n : ℕ) → j + suc n + 1 ≡ length header.schema.keys → j + 1 < length header.schema.keys
  first_inside j n all = omega (arith, all)

  rest_all : (j n : ℕ) → j + suc n + 1 ≡ length header.schema.keys → j + 1 + n + 1 ≡ length header.schema.keys
  rest_all j n all = omega (arith, all)

  abbrev indexes_from : (j n : ℕ) → j + n + 1 ≡ length header.schema.keys → List AltIndex
  indexes_from j zero all = []
  indexes_from j (suc n) all = index_of j (first_inside j n all) ∷ indexes_from (j + 1) n (rest_all j n all)

  indexes_many : (j n : ℕ) (all : j + n + 1 ≡ length header.schema.keys) → length (indexes_from j n all) ≡ n
  indexes_many j zero all = refl
  indexes_many j (suc n) all = ap suc (indexes_many (j + 1) n (rest_all j n all))

  abbrev IsIndex : ℕ → AltIndex → Type 0
  IsIndex k index = (inside : k + 1 < length header.schema.keys) × (index ≡ index_of k inside)

  index_at : (j n i k : ℕ) (all : j + n + 1 ≡ length header.schema.keys) (index : AltIndex) → i < n → k ≡ j + i → index ≡ slice_index_or (indexes_from j n all) i index → IsIndex k index
  index_at j zero i k all index within here is = absurd (omega (arith, within))
  index_at j (suc n) zero k all index within here is = subst (λ k. IsIndex k index) (omega (arith, here)) (first_inside j n all, is)
  index_at j (suc n) (suc i) k all index within here is = index_at (j + 1) n i k (rest_all j n all) index (omega (arith, within)) (omega (arith, here)) is

  abbrev indexes : List AltIndex
  indexes = indexes_from 0 (length header.schema.keys - 1) (omega (arith, some))

  indexes_all : length header.schema.keys ≡ length indexes + 1
  indexes_all = let all = indexes_many 0 (length header.schema.keys - 1) (omega (arith, some)) in omega (arith, all, some)

  index_found : (j : ℕ) (index : AltIndex) → j < length indexes → index ≡ slice_index_or indexes j index → IsIndex j index
  index_found j index within is = index_at 0 (length header.schema.keys - 1) j j (omega (arith, some)) index (omega (arith, within, indexes_all)) (omega arith) is

  fits : 8 * count_by has_duplicates (drop 1 header.schema.keys) + header.schema.greatest ≤ 4077
  fits = stamps_fit header.schema allowed.schema

  abbrev shape : SlotShape
  shape = closed_shape header.schema allowed.schema.ordered fits

  abbrev first : Place
  first = record { page = header.free_slot_page; slot = header.free_slot }

  pub opened_by : OpenFile
  opened_by = record {
    schema = header.schema;
    next_stamp = header.next_stamp;
    prime = prime;
    alternates = record { items = indexes };
    heap = heap_with shape header.first_heap first;
    path = None;
    broken = false;
  }

  pub is_opened : IsOpenedBy header opened_by
  unfolding opened_by
  is_opened = record {
    header_is = record {
      schema_is = refl;
      next_stamp = refl;
      first_heap = refl;
      free_page = refl;
      free_slot = refl;
      records = refl;
      trees = allowed.trees;
      prime = record { root = refl; height = height 0 some };
      alternates = λ j index within at.
          let found = index_found j index within at in
          subst (λ (x : AltIndex). HasTree x.tree (tree_at header (j + 1))) (sym found.1) (record { root = refl; height = height (j + 1) found.0 });
    };
    shaped = record {
      is_schema = allowed.schema;
      keys = indexes_all;
      prime_width = refl;
      widths = λ j index within at.
          let found = index_found j index within at in
          (ap (λ (x : AltIndex). x.width) found.1, ap (λ (x : AltIndex). x.prime) found.1);
      numbers = λ j index within at.
          let found = index_found j index within at in
          ap alt_key found.1;
      stamps = stamps_counted (drop 1 header.schema.keys);
      least = refl;
      greatest = refl;
    };
    counts = λ j index within at. let found = index_found j index within at in ap (λ (x : AltIndex). tree_count x.tree) found.1;
    unbroken = refl;
    no_path = refl;
  }

  tree_stands : (k : ℕ) (inside : k < length header.schema.keys) (made : NodeShape) (entries : List (List ℕ)) (own : List ℕ) → length file.rows ≡ length entries → AreApart own
      → made.key ≡ k → HoldsTree header k made.width made.entry pages entries own → TreeStands (tree_of k inside made) pages entries own
  tree_stands k inside made entries own all apart key_is held =
      let nodes = subst (λ k. HoldsNodes k made.width made.entry pages (λ room. min held.levels 1) None None held.levels held.root entries own) (sym key_is) held.nodes in
      let it = nodes_hold made pages held.levels (λ room. min held.levels 1) None None (held.root, entries, own) nodes in
      let again : held.levels ≡ suc held.levels - 1 = omega arith in
      let stands : (low : held.levels < 20) → TreeStands (tree_with made held.root held.levels header.records low) pages entries own = λ low. record {
        value = it.tree;
        whole = record {
          stands = record { holds = it.holds; root = it.page; ordered = it.ordered };
          apart = subst AreApart (sym it.own) apart;
          filled = it.filled;
          rooted = root_some held.levels it.tree it.enough;
        };
        has = it.entries;
        pages_are = it.own;
        count = closed.records ∙ all;
      } in
      subst (λ (n : TreeNumbers). (low : n.height - 1 < 20) → TreeStands (tree_with made n.root (n.height - 1) header.records low) pages entries own) (sym held.told)
      (subst (λ l. (low : l < 20) → TreeStands (tree_with made held.root l header.records low) pages entries own) again stands) (low k inside)

  abbrev slots : Slots
  slots = slots_of header.schema allowed.schema.ordered fits pages (own_at closed.owns 0) closed.places file.rows closed.heap.rows_at first closed.heap.free closed.heap.free_are closed.heap.every

  rows_placed : IsPlaced header.schema slots closed.places file.rows
  rows_placed = placed header.schema allowed.schema.ordered fits pages (own_at closed.owns 0) closed.places file.rows closed.heap.rows_at first closed.heap.free closed.heap.free_are closed.heap.every

  rows_many : length (prime_entries header.schema closed.places file.rows) ≡ length file.rows
  rows_many = prime_entries_many header.schema slots closed.places file.rows rows_placed.rows_at

  parts : Parts (heap_with shape header.first_heap first) prime indexes pages slots (prime_entries header.schema closed.places file.rows) (λ j. alt_entries header.schema (j + 1) file.rows)
  parts = record {
    owns = closed.owns;
    owners = let owners = closed.owners in omega (arith, owners, indexes_all);
    heap_stands = record {
      chain = chain_holds pages header.first_heap (own_at closed.owns 0) closed.heap.chain;
      apart = own_apart pages closed.owns closed.apart 0;
      keeps = keeps header.schema allowed.schema.ordered fits pages (own_at closed.owns 0) closed.places file.rows closed.heap.rows_at first closed.heap.free closed.heap.free_are closed.heap.every;
    };
    prime_stands = record {
      tree = tree_stands 0 some prime_shape _ (own_at closed.owns 1) (sym (length-map _ _ ∙ rows_many)) (own_apart pages closed.owns closed.apart 1) refl
          (subst (λ entries. HoldsTree header 0 prime_shape.width prime_shape.entry pages entries (own_at closed.owns 1)) (sym (prime_rows header.schema closed.places file.rows)) closed.prime.tree);
      each = each_prime header.schema closed.places file.rows (each_all (IsPrimeRow header.schema) (zip closed.places file.rows) closed.prime.each);
    };
    alternates_stand = λ j index within at.
        let found = index_found j index within at in
        let held = closed.alternates j found.0 in
        let own = own_at closed.owns (j + 2) in
        let rows = in_order header.schema (j + 1) file.rows in
        subst (λ (x : AltIndex). AltStands x pages (alt_entries header.schema (j + 1) file.rows) own) (sym found.1)
        (record {
          tree = tree_stands (j + 1) found.0 (alt_shape j found.0) _ own (sym (length-map _ _ ∙ alt_entries_many header.schema (j + 1) file.rows)) (own_apart pages closed.owns closed.apart (j + 2)) refl
              (subst (λ entries. HoldsTree header (j + 1) (alt_shape j found.0).width (alt_shape j found.0).entry pages entries own) (sym (alt_rows header.schema (j + 1) rows)) held.tree);
          each = each_alt header.schema (j + 1) rows (each_all (IsAltRow header.schema (j + 1)) rows held.each);
        });
    parted = pages_parted pages closed.owns closed.apart closed.covers;
  }

  pub opened_stands : Stands opened_by pages file
  unfolding opened_by
  opened_stands = record {
    sound = closed.sound;
    stamp = closed.stamp;
    few = allowed.within.limit;
    places = closed.places;
    slots = slots;
    placed = rows_placed;
    parts = parts;
    on_path = tt;
  }
