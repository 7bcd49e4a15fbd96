-- The rows of a file that stands are those that the entries of its prime index lead to.
use Rattle.std.proofs.Common.{◌≡◌, ◌⊎◌, inl, inr, ℕ, ◌^◌, ◌≤◌, nat_eq, true, false, List, [], ◌∷◌, length, drop, map, Option, Some, None, IsSome, refl, ap, sym, ◌∙◌, arith, length-drop}
use Rattle.std.specs.Prelude.{IsTrue}
use Rattle.std.specs.List.{list_all}
use Rattle.std.specs.Ordering.{is_lt}
use Rattle.std.proofs.Math.Seq.{drop-append_seam}
use Rattle.std.proofs.lemmas.Bool.{and_parts, eq-eqb, lt-ltb}
use Rattle.pages.specs.Each.{Each}
use Rattle.pages.specs.PageList.{pages_in}
use Rattle.page_walks.specs.declared.spot.LeafSpot.{LeafSpot}
use Rattle.page_walks.specs.Spots.{entries_at}
use Rattle.record_layout.specs.Schema.{Schema, prime_of}
use Rattle.indexed_file.specs.File.{Row}
use Rattle.indexed_file.specs.Sound.{are_rows, is_row}
use Rattle.indexed_file.proofs.RowLemmas.{is_before, row_parts, rows_parts}
use Rattle.io_state.specs.Rank.{value_cmp}
use Rattle.record_heap.specs.declared.heap.Heap.{Heap}
use Rattle.record_heap.specs.declared.shape.Place.{Place}
use Rattle.record_heap.specs.Calls.{behind_at, slot_of, used_at}
use Rattle.record_heap.specs.Chain.{IsFreeChain, IsOneOf, IsPlaceOf, Slots}
use Rattle.record_heap.specs.Slot.{room}
use Rattle.record_heap.specs.Standing.{HeapStands, first_free_slot, slot_off, slot_shape}
use Rattle.record_heap.specs.Walk.{is_in_list, slots_of}
use Rattle.page_walks.proofs.SlotWalkLemmas.{free_not_used}
use Rattle.pages.specs.PageMap.{PageMap}
use Rattle.key_index.specs.Stored.{IsPrimeEntry, prime_bytes, prime_entry_in}
use Rattle.key_index.proofs.StoredLemmas.{prime_back}
use Rattle.open_file.specs.Fields.{file_schema, heap_of, prime_index_of}
use Rattle.open_file.specs.InOrder.{prime_entries}
use Rattle.open_file.specs.ReadOff.{row_off}
use Rattle.open_file.specs.Stored.{AreAt, stamps_length, stored, stamp_bytes}
use Rattle.open_file.specs.declared.open_file.OpenFile.{OpenFile}
use Rattle.open_file.proofs.LengthLemmas.{stamp_length}
use Rattle.open_file.proofs.OrderLemmas.{either}
use Rattle.open_file.proofs.PartsLemmas.{from_eq}
use Rattle.open_file.proofs.ReadOffLemmas.{stamps_back}
use Rattle.bplus_tree.specs.Fields.{tree_shape}
use Rattle.file_checker.specs.Rows.{PrimesRise, place_at, places_in, prime_at, row_at, rows_in}

-- ---- rows read back

row_back : (schema : Schema) (next : ℕ) (row : Row) → is_row schema next row ≡ true → next ≤ 2 ^ 63 → row_off schema (Some (stored schema row)) ≡ row
row_back schema next row fit limit =
    let parts = row_parts schema next row fit in
    let many = from_eq _ _ parts.1 in
    let long : length row.stamps ≡ length (drop 1 schema.keys) = omega (arith, many, length-drop 1 schema.keys) in
    let stamps = stamps_back (drop 1 schema.keys) row.stamps row.bytes next long parts.2 limit in
    let bytes : drop (stamps_length (drop 1 schema.keys)) (stored schema row) ≡ row.bytes =
    ap (λ n. drop n (stored schema row)) (sym (stamp_length (drop 1 schema.keys) row.stamps long))
    ∙ drop-append_seam (stamp_bytes (drop 1 schema.keys) row.stamps) row.bytes in
    λ i. record { bytes = bytes i; stamps = stamps i }

-- what the entries of these rows at these places lead to
pub rows_read : (opened : OpenFile) (list : List (List ℕ)) (slots : Slots) (next : ℕ) → next ≤ 2 ^ 63
    → ((p : Place) (bytes : List ℕ) → slots p ≡ Some bytes → slot_off (heap_of opened) (pages_in list) p ≡ Some bytes)
    → (spots : List LeafSpot) (places : List Place) (rows : List Row) → AreAt (file_schema opened) slots places rows → Each (λ row. is_row (file_schema opened) next row ≡ true) rows
    → map prime_bytes (prime_entries (file_schema opened) places rows) ≡ entries_at (tree_shape (prime_index_of opened).tree) list spots
    → Each (IsPrimeEntry (prime_index_of opened).width) (prime_entries (file_schema opened) places rows) → (places_in opened list spots ≡ places) × (rows_in opened list spots ≡ rows)
rows_read opened list slots next limit used [] [] [] at fit entries each = (refl, refl)
rows_read opened list slots next limit used [] [] (row ∷ rows) at fit entries each = absurd at
rows_read opened list slots next limit used (spot ∷ spots) [] [] at fit entries each = absurd (cc)
rows_read opened list slots next limit used (spot ∷ spots) [] (row ∷ rows) at fit entries each = absurd at
rows_read opened list slots next limit used spots (place ∷ places) [] at fit entries each = absurd at
rows_read opened list slots next limit used [] (place ∷ places) (row ∷ rows) at fit entries each = absurd (cc)
rows_read opened list slots next limit used (spot ∷ spots) (place ∷ places) (row ∷ rows) at fit entries each =
    let schema = file_schema opened in
    let w = (prime_index_of opened).width in
    let bytes : prime_bytes (record { value = record { items = prime_of schema row.bytes }; place = place }) ≡ prime_at opened list spot = cc in
    let here : place_at opened list spot ≡ place = ap (λ (b : List ℕ). (prime_entry_in w b).place) (sym bytes) ∙ ap (λ e. e.place) (prime_back w _ each.0) in
    let row_is : row_at opened list spot ≡ row =
    ap (λ (p : Place). row_off schema (slot_off (heap_of opened) (pages_in list) p)) here ∙ ap (row_off schema) (used place (stored schema row) at.0) ∙ row_back schema next row fit.0 limit in
    let rest = rows_read opened list slots next limit used spots places rows at.1 fit.1 (cc) each.1 in
    ((λ i. here i ∷ rest.0 i), (λ i. row_is i ∷ rest.1 i))

-- ---- slots

one_told : (xs : List ℕ) (n : ℕ) → IsOneOf xs n → is_in_list xs n ≡ true
one_told [] n one = absurd one
one_told (m ∷ ms) n one = either (nat_eq n m) (is_in_list (m ∷ ms) n ≡ true) (λ here. rw here refl) (λ other. rw other (next other (λ rest. one_told ms n rest) one))
  where
    next : nat_eq n m ≡ false → (IsOneOf ms n → is_in_list ms n ≡ true) → (n ≡ m) ⊎ IsOneOf ms n → is_in_list ms n ≡ true
    next other again (inl same) = let yes = eq-eqb n m same in absurd (cc (yes, other))
    next other again (inr rest) = again rest

-- what a free slot of a chain leads to
behind_free : (behind : Place → Option Place) (first : Place) (free : List Place) (p : Place) → IsFreeChain behind first free → IsOneOf free p → (next : Place) × (behind p ≡ Some next)
behind_free behind first [] p chain one = absurd one
behind_free behind first (q ∷ qs) p chain (inl same) = (chain.1.0, ap behind same ∙ chain.1.1)
behind_free behind first (q ∷ qs) p chain (inr one) = behind_free behind chain.1.0 qs p chain.1.2 one

-- the records of a heap are those in its slots
module _ (heap : Heap) (pages : PageMap) (slots : Slots) (own : List ℕ) (stands : HeapStands heap pages slots own) where
  pub slots_are : (p : Place) (bytes : List ℕ) → slots p ≡ Some bytes → slots_of (slot_shape heap) pages own p ≡ Some bytes
  slots_are p bytes is =
      let k = stands.keeps.used_are p bytes is in
      rw (one_told own p.page k.0.page, lt-ltb p.slot (room (slot_shape heap)) k.0.slot) k.1

  -- and no others
  pub slots_there : (p : Place) → IsPlaceOf (room (slot_shape heap)) own p → IsSome (used_at (slot_shape heap) pages p) → IsSome (slots p)
  slots_there p of some = by_slot (slots p) refl
    where
      by_slot : (o : Option (List ℕ)) → slots p ≡ o → IsSome (slots p)
      by_slot (Some bytes) is = rw is refl
      by_slot None is =
          let behind = behind_free (behind_at (slot_shape heap) pages) (first_free_slot heap) stands.keeps.free p stands.keeps.chain (stands.keeps.every p of is) in
          let none = free_not_used (slot_shape heap) (slot_of (slot_shape heap) pages p) behind.0 behind.1 in
          let bad : false ≡ true = rw none at some in absurd (cc)

pub all_at : (schema : Schema) (slots slots' : Slots) → ((p : Place) (bytes : List ℕ) → slots p ≡ Some bytes → slots' p ≡ Some bytes) → (places : List Place) (rows : List Row) → AreAt schema slots places rows
    → AreAt schema slots' places rows
all_at schema slots slots' same [] [] at = tt
all_at schema slots slots' same [] (row ∷ rows) at = absurd at
all_at schema slots slots' same (place ∷ places) [] at = absurd at
all_at schema slots slots' same (place ∷ places) (row ∷ rows) at = (same place (stored schema row) at.0, all_at schema slots slots' same places rows at.1)

-- ---- the prime values of a file rise

pub primes_rise : (schema : Schema) (next : ℕ) (rows : List Row) → are_rows schema next rows ≡ true → PrimesRise schema rows
primes_rise schema next [] sound = tt
primes_rise schema next (row ∷ rows) sound =
    let parts = rows_parts schema next row rows sound in
    (before rows parts.1, primes_rise schema next rows parts.2)
  where
    before : (others : List Row) → list_all (is_before schema row) others ≡ true → Each (λ other. IsTrue (is_lt (value_cmp (prime_of schema row.bytes) (prime_of schema other.bytes)))) others
    before [] all = tt
    before (other ∷ others) all = let parts = and_parts (is_before schema row other) (list_all (is_before schema row) others) all in ((and_parts _ _ parts.0).0, before others parts.1)
