-- The rows that the prime index leads to.
use Rattle.std.proofs.Common.{◌≡◌, ℕ, ◌+◌, ◌&&◌, ◌≤◌, nat_lt, nat_le, Bool, true, List, [], ◌∷◌, length, drop, take, map, Some, refl, ap, sym, subst, ◌∙◌, arith, length-drop, length-take-le}
use Rattle.std.specs.Prelude.{IsSome, IsTrue, find}
use Rattle.std.specs.Ordering.{is_lt}
use Rattle.std.proofs.lemmas.Bool.{and_from, eq-eqb, le-leb, lt-ltb}
use Rattle.pages.specs.Each.{Each}
use Rattle.record_layout.specs.Schema.{Schema, prime_of}
use Rattle.indexed_file.specs.File.{Row}
use Rattle.io_state.specs.Rank.{value_cmp}
use Rattle.indexed_file.specs.Sound.{is_row}
use Rattle.indexed_file.proofs.RowLemmas.{row_from}
use Rattle.tree_node.specs.Order.{less, Ascends}
use Rattle.pages.specs.Marks.{marked_in}
use Rattle.pages.specs.PageList.{pages_in}
use Rattle.page_walks.specs.declared.spot.LeafSpot.{LeafSpot}
use Rattle.page_walks.specs.Spots.{entries_at}
use Rattle.record_heap.specs.declared.shape.Place.{Place}
use Rattle.record_heap.specs.Slot.{room}
use Rattle.record_heap.specs.Walk.{slots_of, is_in_list}
use Rattle.record_heap.specs.Standing.{slot_shape}
use Rattle.key_index.specs.Stored.{prime_bytes, IsPrimeEntry}
use Rattle.open_file.specs.Fields.{heap_of, next_stamp_of, prime_index_of, file_schema}
use Rattle.open_file.specs.InOrder.{prime_entries}
use Rattle.open_file.specs.Stored.{AreAt, stored, stamps_length}
use Rattle.open_file.specs.ReadOff.{row_off}
use Rattle.open_file.specs.Stands.{is_same}
use Rattle.open_file.specs.declared.open_file.OpenFile.{OpenFile}
use Rattle.bplus_tree.specs.Fields.{tree_shape}
use Rattle.file_checker.specs.Rows.{prime_at, place_at, row_at, places_in, rows_in, PrimesRise, RowsStand}
use Rattle.file_checker.specs.Leading.{LeadsToRow}
use Rattle.file_checker.proofs.StampLemmas.{Fit}
use Rattle.file_checker.proofs.ByteLemmas.{AreBytes, each_take, each_drop, number_small, prime_again, stored_again, stamps_many_as_parts}

-- stamps and a record of a length that the file has are a row where its stamps are
pub row_fits : (schema : Schema) (next : ℕ) (bytes : List ℕ) → 1 ≤ length schema.keys → stamps_length (drop 1 schema.keys) + schema.least ≤ length bytes
    → length bytes ≤ stamps_length (drop 1 schema.keys) + schema.greatest → Fit next (drop 1 schema.keys) bytes → is_row schema next (row_off schema (Some bytes)) ≡ true
row_fits schema next bytes some least greatest fit =
    let n = stamps_length (drop 1 schema.keys) in
    let long = length-drop n bytes in
    let many = stamps_many_as_parts (drop 1 schema.keys) bytes in
    let keys = length-drop 1 schema.keys in
    let row = row_off schema (Some bytes) in
    row_from schema next row
    (and_from (nat_le schema.least (length row.bytes)) (nat_le (length row.bytes) schema.greatest) (le-leb schema.least (length row.bytes) (omega (arith, least, long))) (le-leb (length row.bytes) schema.greatest (omega (arith, greatest, long))))
    (eq-eqb (length row.stamps + 1) (length schema.keys) (omega (arith, many, keys, some)))
    fit

-- what is known of a row and its entry
pub record RowKept (opened : OpenFile) (list : List (List ℕ)) (own : List ℕ) (spot : LeafSpot) : Type 0 where
  pub row : is_row (file_schema opened) (next_stamp_of opened) (row_at opened list spot) ≡ true
  pub here : slots_of (slot_shape (heap_of opened)) (pages_in list) own (place_at opened list spot) ≡ Some (stored (file_schema opened) (row_at opened list spot))
  pub value : take (prime_index_of opened).width (prime_at opened list spot) ≡ prime_of (file_schema opened) (row_at opened list spot).bytes
  pub entry : prime_bytes (record { value = record { items = prime_of (file_schema opened) (row_at opened list spot).bytes }; place = place_at opened list spot }) ≡ prime_at opened list spot
  pub fits : IsPrimeEntry (prime_index_of opened).width (record { value = record { items = prime_of (file_schema opened) (row_at opened list spot).bytes }; place = place_at opened list spot })

module _ (opened : OpenFile) (list : List (List ℕ)) (own : List ℕ) (marks : List Bool) (own_marked : (n : ℕ) → marked_in marks n ≡ true → is_in_list own n ≡ true) where
  pub row_kept : (spot : LeafSpot) → LeadsToRow opened list marks spot → RowKept opened list own spot
  row_kept spot l =
      let schema = file_schema opened in
      let w = (prime_index_of opened).width in
      let e = prime_at opened list spot in
      let place = place_at opened list spot in
      let n = stamps_length (drop 1 schema.keys) in
      let is : row_at opened list spot ≡ row_off schema (Some l.stored) = ap (row_off schema) l.there in
      let value : take w e ≡ prime_of schema (row_at opened list spot).bytes = l.value ∙ ap (λ (row : Row). prime_of schema row.bytes) (sym is) in
      let again : stored schema (row_off schema (Some l.stored)) ≡ l.stored =
      stored_again (drop 1 schema.keys) l.stored (let least = l.fits.least in omega (arith, least)) l.fits.bytes in
      let held : (is_in_list own place.page && nat_lt place.slot (room (slot_shape (heap_of opened)))) ≡ true = and_from _ _ (own_marked place.page l.own) (lt-ltb place.slot (room (slot_shape (heap_of opened))) l.within) in
      record {
        row = subst (λ (row : Row). is_row schema (next_stamp_of opened) row ≡ true) (sym is) l.row;
        here = rw held (l.there ∙ ap Some (sym again ∙ ap (stored schema) (sym is)));
        value = value;
        entry = ap (λ (v : List ℕ). prime_bytes (record { value = record { items = v }; place = place })) (sym value) ∙ prime_again w e l.long l.bytes;
        fits = record {
          long = ap length (sym value) ∙ length-take-le w e (let long = l.long in omega (arith, long));
          bytes = subst AreBytes value (each_take w e l.bytes);
          page = number_small 4 (drop w e) (each_drop w e l.bytes);
          slot = number_small 2 (drop (w + 4) e) (each_drop (w + 4) e l.bytes);
        };
      }

  pub all_kept : (spots : List LeafSpot) → Each (LeadsToRow opened list marks) spots → Each (RowKept opened list own) spots
  all_kept [] all = tt
  all_kept (spot ∷ spots) all = (row_kept spot all.0, all_kept spots all.1)

module _ (opened : OpenFile) (list : List (List ℕ)) (own : List ℕ) where
  rows_are : (spots : List LeafSpot) → Each (RowKept opened list own) spots → Each (λ row. IsTrue (is_row (file_schema opened) (next_stamp_of opened) row)) (rows_in opened list spots)
  rows_are [] all = tt
  rows_are (spot ∷ spots) all = (all.0.row, rows_are spots all.1)

  rows_at : (spots : List LeafSpot) → Each (RowKept opened list own) spots → AreAt (file_schema opened) (slots_of (slot_shape (heap_of opened)) (pages_in list) own) (places_in opened list spots) (rows_in opened list spots)
  rows_at [] all = tt
  rows_at (spot ∷ spots) all = (all.0.here, rows_at spots all.1)

  entries_are : (spots : List LeafSpot) → Each (RowKept opened list own) spots
      → map prime_bytes (prime_entries (file_schema opened) (places_in opened list spots) (rows_in opened list spots)) ≡ entries_at (tree_shape (prime_index_of opened).tree) list spots
  entries_are [] all = refl
  entries_are (spot ∷ spots) all = let first = all.0.entry in let rest = entries_are spots all.1 in λ i. first i ∷ rest i

  each_fits : (spots : List LeafSpot) → Each (RowKept opened list own) spots → Each (IsPrimeEntry (prime_index_of opened).width) (prime_entries (file_schema opened) (places_in opened list spots) (rows_in opened list spots))
  each_fits [] all = tt
  each_fits (spot ∷ spots) all = (all.0.fits, each_fits spots all.1)

  -- tree keys are prime values
  above : (spot : LeafSpot) (spots : List LeafSpot) → RowKept opened list own spot → Each (RowKept opened list own) spots
      → Each (λ y. less (take (prime_index_of opened).width (prime_at opened list spot)) (take (prime_index_of opened).width y) ≡ true) (entries_at (tree_shape (prime_index_of opened).tree) list spots)
      → Each (λ other. IsTrue (is_lt (value_cmp (prime_of (file_schema opened) (row_at opened list spot).bytes) (prime_of (file_schema opened) other.bytes)))) (rows_in opened list spots)
  unfolding less
  above spot [] here all rises = tt
  above spot (next ∷ spots) here all rises = (
    ap (λ (v : List ℕ). is_lt (value_cmp v (prime_of (file_schema opened) (row_at opened list next).bytes))) (sym here.value)
        ∙ ap (λ (v : List ℕ). is_lt (value_cmp (take (prime_index_of opened).width (prime_at opened list spot)) v)) (sym all.0.value) ∙ rises.0,
    above spot spots here all.1 rises.1,
  )

  rise : (spots : List LeafSpot) → Each (RowKept opened list own) spots → Ascends (prime_index_of opened).width (entries_at (tree_shape (prime_index_of opened).tree) list spots) → PrimesRise (file_schema opened) (rows_in opened list spots)
  rise [] all rises = tt
  rise (spot ∷ spots) all rises = (above spot spots all.0 all.1 rises.0, rise spots all.1 rises.1)

  pub rows_stand : (spots : List LeafSpot) → Each (RowKept opened list own) spots → Ascends (prime_index_of opened).width (entries_at (tree_shape (prime_index_of opened).tree) list spots)
      → ((p : Place) → IsSome (slots_of (slot_shape (heap_of opened)) (pages_in list) own p) → IsSome (find (is_same p) (places_in opened list spots))) → RowsStand opened list own spots
  rows_stand spots all rises no_more = record {
    rows_are = rows_are spots all;
    placed = record { rows_at = rows_at spots all; no_more = no_more };
    entries_are = entries_are spots all;
    each = each_fits spots all;
    rise = rise spots all rises;
  }
