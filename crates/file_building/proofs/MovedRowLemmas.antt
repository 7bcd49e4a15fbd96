-- The rows of a file whose records were moved in the order of an alternate key.
use Rattle.std.proofs.Common.{◌≡◌, ℕ, List, [], ◌∷◌, map, take, Some, None, true, false, refl, ap, sym, subst, ◌∙◌, inl, inr, ◌⊎◌, arith}
use Rattle.std.specs.Prelude.{find, is_some, bytes_eq}
use Rattle.std.proofs.lemmas.Slice.Eq.{bytes_eq-Decides}
use Rattle.std.proofs.lemmas.Grind.{common_steps}
use Rattle.std.specs.Ordering.{is_lt}
use Rattle.record_layout.specs.Schema.{Schema, prime_of}
use Rattle.indexed_file.specs.File.{Row}
use Rattle.indexed_file.specs.Rank.{row_cmp}
use Rattle.pages.specs.Each.{Each}
use Rattle.pages.specs.PageMap.{PageMap}
use Rattle.tree_node.specs.Order.{less, Ascends}
use Rattle.tree_node.proofs.OrderLemmas.{less_itself}
use Rattle.record_heap.specs.declared.shape.SlotShape.{SlotShape}
use Rattle.record_heap.specs.declared.shape.Place.{Place}
use Rattle.record_heap.specs.Chain.{Slots, IsOneOf}
use Rattle.record_heap.specs.Standing.{first_heap_page}
use Rattle.record_heap.proofs.StandLemmas.{heap_kept, chain_live}
use Rattle.key_index.specs.declared.entry.PrimeEntry.{PrimeEntry}
use Rattle.key_index.specs.declared.entry.AltEntry.{AltEntry}
use Rattle.key_index.specs.declared.prime_index.PrimeIndex.{PrimeIndex}
use Rattle.key_index.specs.Entries.{has_prime}
use Rattle.key_index.specs.Stored.{prime_bytes, IsPrimeEntry, entry_at}
use Rattle.key_index.specs.Standing.{PrimeStands, PrimeChanged}
use Rattle.key_index.proofs.KeyLemmas.{prime_key}
use Rattle.open_file.specs.InOrder.{prime_entries, alt_entries, alt_entry, in_order, put_row}
use Rattle.open_file.specs.Stored.{AreAt, stored}
use Rattle.open_file.specs.Stands.{is_same}
use Rattle.open_file.proofs.OrderLemmas.{either}
use Rattle.open_file.proofs.RowLemmas.{put_each}
use Rattle.file_building.specs.declared.new_places.NewPlaces.{NewPlaces}
use Rattle.file_building.specs.declared.records_mover.MovedRecords.{MovedRecords}
use Rattle.file_building.specs.NewPlaces.{new_place, HasNewPlace, moved_entry}
use Rattle.file_building.specs.Leading.{AreKnown}
use Rattle.file_building.specs.Moving.{LeadsToRecord, IsMovedEntry, IsMoved, HasMovedAll}
use Rattle.file_building.specs.Rows.{RowsStandBuilt}
use Rattle.file_building.proofs.PartLemmas.{none_parted, first_changed, second_changed, first_apart, left_alone, same_pages}

-- ---- an entry is the first that has its value

-- the first of these entries that has its value is itself
abbrev pub IsItsOwn : List PrimeEntry → PrimeEntry → Type 0
IsItsOwn primes e = find (has_prime e.value.items) primes ≡ Some e

not_same : (x y : List ℕ) → less x y ≡ true → bytes_eq x y ≡ false
not_same x y below = either (bytes_eq x y) (bytes_eq x y ≡ false)
    (λ yes. let same : x ≡ y = (bytes_eq-Decides x y).0 yes in
    let bad : less y y ≡ true = ap (λ (l : List ℕ). less l y) (sym same) ∙ below in
    let no = less_itself y in
    absurd (cc))
    (λ no. no)

own_behind : (w : ℕ) (x : PrimeEntry) (xs ys : List PrimeEntry) → IsPrimeEntry w x → Each (IsPrimeEntry w) ys → Each (λ y. less (take w (prime_bytes x)) (take w y) ≡ true) (map prime_bytes ys)
    → Each (IsItsOwn xs) ys → Each (IsItsOwn (x ∷ xs)) ys
own_behind w x xs [] fit each below own = tt
own_behind w x xs (y ∷ ys) fit each below own =
    let apart : less x.value.items y.value.items ≡ true =
    ap (λ (l : List ℕ). less l y.value.items) (sym (prime_key w x fit)) ∙ ap (less (take w (prime_bytes x))) (sym (prime_key w y each.0)) ∙ below.0 in
    let no : has_prime y.value.items x ≡ false = not_same x.value.items y.value.items apart in
    (rw no own.0, own_behind w x xs ys fit each.1 below.1 own.1)

pub each_own : (w : ℕ) (primes : List PrimeEntry) → Each (IsPrimeEntry w) primes → Ascends w (map prime_bytes primes) → Each (IsItsOwn primes) primes
each_own w [] each rise = tt
each_own w (x ∷ xs) each rise =
    let yes : has_prime x.value.items x ≡ true = (bytes_eq-Decides x.value.items x.value.items).1 refl in
    (rw yes refl, own_behind w x xs xs each.0 each.1 rise.0 (each_own w xs each.1 rise.1))

-- ---- rows in another order

in_order_each : (schema : Schema) (k : ℕ) (P : Row → Type 0) (rows : List Row) → Each P rows → Each P (in_order schema k rows)
in_order_each schema k P [] each = tt
in_order_each schema k P (row ∷ rows) each = put_each schema k P row (in_order schema k rows) each.0 (in_order_each schema k P rows each.1)

put_back : (schema : Schema) (k : ℕ) (P : Row → Type 0) (row : Row) (rows : List Row) → Each P (put_row schema k row rows) → P row × Each P rows
put_back schema k P row [] each = (each.0, tt)
put_back schema k P row (next ∷ rows) each =
    either (is_lt (row_cmp schema k next row)) (P row × Each P (next ∷ rows))
    (λ yes. let both : P next × Each P (put_row schema k row rows) = rw yes at each in
    let rest = put_back schema k P row rows both.1 in
    (rest.0, (both.0, rest.1)))
    (λ no. let all : Each P (row ∷ next ∷ rows) = rw no at each in (all.0, all.1))

order_back : (schema : Schema) (k : ℕ) (P : Row → Type 0) (rows : List Row) → Each P (in_order schema k rows) → Each P rows
order_back schema k P [] each = tt
order_back schema k P (row ∷ rows) each =
    let parts = put_back schema k P row (in_order schema k rows) each in
    (parts.0, order_back schema k P rows parts.1)

mapped : {X Y : Type 0} (f : X → Y) (P : Y → Type 0) (xs : List X) → Each (λ x. P (f x)) xs → Each P (map f xs)
mapped f P [] each = tt
mapped f P (x ∷ xs) each = (each.0, mapped f P xs each.1)

unmapped : {X Y : Type 0} (f : X → Y) (P : Y → Type 0) (xs : List X) → Each P (map f xs) → Each (λ x. P (f x)) xs
unmapped f P [] each = tt
unmapped f P (x ∷ xs) each = (each.0, unmapped f P xs each.1)

-- ---- each entry of an alternate index leads to a record

rows_lead : (schema : Schema) (slots : Slots) (k : ℕ) (primes : List PrimeEntry) (places : List Place) (rows : List Row) → AreAt schema slots places rows → Each (IsItsOwn primes) (prime_entries schema places rows)
    → Each (λ row. LeadsToRecord slots primes (alt_entry schema k row)) rows
rows_lead schema slots k primes [] [] at own = tt
rows_lead schema slots k primes [] (row ∷ rows) at own = absurd at
rows_lead schema slots k primes (place ∷ places) [] at own = absurd at
rows_lead schema slots k primes (place ∷ places) (row ∷ rows) at own = (
  record { at = entry_at (prime_of schema row.bytes) place; found = own.0; bytes = stored schema row; here = at.0 },
  rows_lead schema slots k primes places rows at.1 own.1,
)

pub entries_lead : (schema : Schema) (slots : Slots) (k w : ℕ) (places : List Place) (rows : List Row) → AreAt schema slots places rows → Each (IsPrimeEntry w) (prime_entries schema places rows)
    → Ascends w (map prime_bytes (prime_entries schema places rows)) → Each (LeadsToRecord slots (prime_entries schema places rows)) (alt_entries schema k rows)
entries_lead schema slots k w places rows at each rise =
    let primes = prime_entries schema places rows in
    mapped (alt_entry schema k) (LeadsToRecord slots primes) (in_order schema k rows)
    (in_order_each schema k (λ row. LeadsToRecord slots primes (alt_entry schema k row)) rows (rows_lead schema slots k primes places rows at (each_own w primes each rise)))

-- ---- the new place of each record is known

from_some : (a b : PrimeEntry) → Some a ≡ Some b → a ≡ b
from_some a b e = cc

rows_known : (schema : Schema) (slots : Slots) (k : ℕ) (primes : List PrimeEntry) (new : NewPlaces) (places : List Place) (rows : List Row) → AreAt schema slots places rows
    → Each (IsItsOwn primes) (prime_entries schema places rows) → Each (λ row. IsMovedEntry primes new (alt_entry schema k row)) rows → AreKnown new (prime_entries schema places rows)
rows_known schema slots k primes new [] [] at own moved = tt
rows_known schema slots k primes new [] (row ∷ rows) at own moved = absurd at
rows_known schema slots k primes new (place ∷ places) [] at own moved = absurd at
rows_known schema slots k primes new (place ∷ places) (row ∷ rows) at own moved =
    let it = moved.0 in
    let same : it.at ≡ entry_at (prime_of schema row.bytes) place = from_some _ _ (sym it.found ∙ own.0) in
    (subst (λ (e : PrimeEntry). HasNewPlace new e.place) same it.known, rows_known schema slots k primes new places rows at.1 own.1 moved.1)

pub entries_known : (schema : Schema) (slots : Slots) (k w : ℕ) (new : NewPlaces) (places : List Place) (rows : List Row) → AreAt schema slots places rows → Each (IsPrimeEntry w) (prime_entries schema places rows)
    → Ascends w (map prime_bytes (prime_entries schema places rows)) → Each (IsMovedEntry (prime_entries schema places rows) new) (alt_entries schema k rows) → AreKnown new (prime_entries schema places rows)
entries_known schema slots k w new places rows at each rise moved =
    let primes = prime_entries schema places rows in
    rows_known schema slots k primes new places rows at (each_own w primes each rise)
    (order_back schema k (λ row. IsMovedEntry primes new (alt_entry schema k row)) rows (unmapped (alt_entry schema k) (IsMovedEntry primes new) (in_order schema k rows) moved))

-- ---- the rows at their new places

moved_primes : (schema : Schema) (slots : Slots) (new : NewPlaces) (places : List Place) (rows : List Row) → AreAt schema slots places rows
    → map (moved_entry new) (prime_entries schema places rows) ≡ prime_entries schema (map (new_place new) places) rows
moved_primes schema slots new [] [] at = refl
moved_primes schema slots new [] (row ∷ rows) at = absurd at
moved_primes schema slots new (place ∷ places) [] at = absurd at
moved_primes schema slots new (place ∷ places) (row ∷ rows) at =
    ap (λ (rest : List PrimeEntry). entry_at (prime_of schema row.bytes) (new_place new place) ∷ rest) (moved_primes schema slots new places rows at.1)

moved_at : (schema : Schema) (slots now : Slots) (new : NewPlaces) (places : List Place) (rows : List Row) → AreAt schema slots places rows → AreKnown new (prime_entries schema places rows)
    → ((p : Place) → HasNewPlace new p → IsMoved slots now p (new_place new p)) → AreAt schema now (map (new_place new) places) rows
moved_at schema slots now new [] [] at known moved = tt
moved_at schema slots now new [] (row ∷ rows) at known moved = absurd at
moved_at schema slots now new (place ∷ places) [] at known moved = absurd at
moved_at schema slots now new (place ∷ places) (row ∷ rows) at known moved =
    let it = moved place known.0 in
    (it.is ∙ sym it.was ∙ at.0, moved_at schema slots now new places rows at.1 known.1 moved)

same_itself : (q : Place) → is_same q q ≡ true
same_itself q = grind (arith, common_steps)

found_place : (schema : Schema) (slots : Slots) (new : NewPlaces) (p : Place) (e : PrimeEntry) (places : List Place) (rows : List Row) → AreAt schema slots places rows → IsOneOf (prime_entries schema places rows) e
    → new_place new e.place ≡ p → is_some (find (is_same p) (map (new_place new) places)) ≡ true
found_place schema slots new p e [] [] at one is = absurd one
found_place schema slots new p e [] (row ∷ rows) at one is = absurd at
found_place schema slots new p e (place ∷ places) [] at one is = absurd at
found_place schema slots new p e (place ∷ places) (row ∷ rows) at one is =
    either (is_same p (new_place new place)) (is_some (find (is_same p) (map (new_place new) (place ∷ places))) ≡ true)
    (λ yes. rw yes refl)
    (λ no. rw no (behind one no (λ rest. found_place schema slots new p e places rows at.1 rest is)))
  where
    behind : (e ≡ entry_at (prime_of schema row.bytes) place) ⊎ IsOneOf (prime_entries schema places rows) e → is_same p (new_place new place) ≡ false
        → (IsOneOf (prime_entries schema places rows) e → is_some (find (is_same p) (map (new_place new) places)) ≡ true) → is_some (find (is_same p) (map (new_place new) places)) ≡ true
    behind (inl same) not further =
        let here : new_place new place ≡ p = ap (λ (x : PrimeEntry). new_place new x.place) (sym same) ∙ is in
        let yes : is_same p (new_place new place) ≡ true = ap (is_same p) here ∙ same_itself p in
        absurd (let never : true ≡ false = sym yes ∙ not in cc)
    behind (inr rest) not further = further rest

pub rows_moved : (schema : Schema) (shape : SlotShape) (slots : Slots) (places : List Place) (rows : List Row) (entries : List AltEntry) (start mid after : PageMap) (records : MovedRecords) (index : PrimeIndex)
    → AreAt schema slots places rows → HasMovedAll shape slots (prime_entries schema places rows) entries start mid records → AreKnown records.places (prime_entries schema places rows) → ((n : ℕ) → start n ≡ None)
    → PrimeChanged mid after index [] (map (moved_entry records.places) (prime_entries schema places rows)) → RowsStandBuilt schema records.heap index [] after rows
rows_moved schema shape slots places rows entries start mid after records index at all known free changed =
    let new = records.places in
    let parted = first_changed start mid [] all.own [] all.changes tt (none_parted start free) in
    let live = chain_live mid (first_heap_page records.heap) all.own all.stands.chain in
    let kept = left_alone mid after [] changed.own_now all.own changed.changes live (first_apart mid all.own [] parted) in
    record {
      places = map (new_place new) places;
      slots = all.now;
      placed = record {
        rows_at = moved_at schema slots all.now new places rows at known all.moved.moved;
        no_more = λ p some. let it = all.moved.from p some in found_place schema slots new p it.entry places rows at it.one it.here;
      };
      parts = record {
        owns = all.own ∷ changed.own_now ∷ [];
        owners = refl;
        heap_stands = heap_kept records.heap mid after all.now all.own (same_pages mid after changed.own_now all.own kept) all.stands;
        prime_stands = subst (λ (es : List PrimeEntry). PrimeStands index after es changed.own_now) (moved_primes schema slots new places rows at) changed.stands;
        alternates_stand = λ j index within is. absurd (omega (arith, within));
        parted = second_changed mid after all.own [] changed.own_now changed.changes live parted;
      };
    }
