-- Rows one of which has become another record of its prime value, and their places.
use Rattle.std.proofs.Common.{◌≡◌, ◌≢◌, ℕ, true, false, List, [], ◌∷◌, map, Option, Some, refl, ap, sym, ◌∙◌}
use Rattle.std.specs.Prelude.{find, is_some, IsSome, option_map, if◌then◌else◌}
use Rattle.std.proofs.lemmas.Slice.Eq.{bytes_eq-Decides}
use Rattle.record_layout.specs.Schema.{Schema, prime_of}
use Rattle.indexed_file.specs.File.{Row}
use Rattle.indexed_file.specs.Rank.{has_value}
use Rattle.indexed_file.specs.Change.{others_in, changed_row}
use Rattle.indexed_file.specs.Sound.{is_row, are_rows}
use Rattle.indexed_file.proofs.RowLemmas.{rows_parts}
use Rattle.pages.specs.Each.{Each}
use Rattle.key_index.specs.declared.entry.PrimeEntry.{PrimeEntry}
use Rattle.key_index.specs.Entries.{has_prime}
use Rattle.record_heap.specs.declared.shape.Place.{Place}
use Rattle.record_heap.specs.Chain.{Slots, put_slot}
use Rattle.record_heap.proofs.ChainLemmas.{put_here, put_there}
use Rattle.open_file.specs.InOrder.{prime_entries}
use Rattle.open_file.specs.Stored.{AreAt, stored}
use Rattle.open_file.specs.Stands.{is_same, IsPlaced}
use Rattle.open_file.proofs.OrderLemmas.{either, from_some}
use Rattle.open_file.proofs.FirstLemmas.{same_bytes}
use Rattle.file_changes.proofs.PlacedLemmas.{same_place, same_itself}
use Rattle.file_changes.proofs.OneRowLemmas.{none_after}
use Rattle.file_changes.proofs.LeftLemmas.{other_place}

-- the row of the record's prime value has become the record, and any other stays
abbrev pub renewed : Schema → ℕ → List ℕ → Row → Row
renewed schema next bytes row = if has_value schema 0 (prime_of schema bytes) row then changed_row schema next bytes row else row

has_itself : (schema : Schema) (bytes : List ℕ) → (row : Row) → row.bytes ≡ bytes → has_value schema 0 (prime_of schema bytes) row ≡ true
has_itself schema bytes row is = (bytes_eq-Decides (prime_of schema row.bytes) (prime_of schema bytes)).1 (ap (prime_of schema) is)

-- the others are those that they were
pub others_renewed : (schema : Schema) (next : ℕ) (bytes : List ℕ) (rows : List Row) → others_in schema (prime_of schema bytes) (map (renewed schema next bytes) rows) ≡ others_in schema (prime_of schema bytes) rows
others_renewed schema next bytes [] = refl
others_renewed schema next bytes (row ∷ rows) =
    let prime = prime_of schema bytes in
    let rest = others_renewed schema next bytes rows in
    either (has_value schema 0 prime row) (others_in schema prime (map (renewed schema next bytes) (row ∷ rows)) ≡ others_in schema prime (row ∷ rows))
    (λ yes. rw yes (rw (has_itself schema bytes (changed_row schema next bytes row) refl) rest))
    (λ no. rw no (rw no (ap (λ r. row ∷ r) rest)))

-- the record is the one of its prime value
pub found_renewed : (schema : Schema) (next : ℕ) (bytes : List ℕ) (old : Row) (rows : List Row) → find (has_value schema 0 (prime_of schema bytes)) rows ≡ Some old
    → find (has_value schema 0 (prime_of schema bytes)) (map (renewed schema next bytes) rows) ≡ Some (changed_row schema next bytes old)
found_renewed schema next bytes old [] found = absurd (cc)
found_renewed schema next bytes old (row ∷ rows) found =
    let prime = prime_of schema bytes in
    either (has_value schema 0 prime row) (find (has_value schema 0 prime) (map (renewed schema next bytes) (row ∷ rows)) ≡ Some (changed_row schema next bytes old))
    (λ yes.
    let same : row ≡ old = from_some row old (rw yes at found) in
    rw yes (rw (has_itself schema bytes (changed_row schema next bytes row) refl) (ap (λ (r : Row). Some (changed_row schema next bytes r)) same)))
    (λ no. rw no (rw no (found_renewed schema next bytes old rows (rw no at found))))

-- the prime index stays
pub prime_entries_renewed : (schema : Schema) (slots : Slots) (next : ℕ) (bytes : List ℕ) (places : List Place) (rows : List Row) → AreAt schema slots places rows
    → prime_entries schema places (map (renewed schema next bytes) rows) ≡ prime_entries schema places rows
prime_entries_renewed schema slots next bytes [] [] at = refl
prime_entries_renewed schema slots next bytes [] (row ∷ rows) at = absurd at
prime_entries_renewed schema slots next bytes (place ∷ places) [] at = absurd at
prime_entries_renewed schema slots next bytes (place ∷ places) (row ∷ rows) at =
    let prime = prime_of schema bytes in
    let rest = prime_entries_renewed schema slots next bytes places rows at.1 in
    either (has_value schema 0 prime row) (prime_entries schema (place ∷ places) (map (renewed schema next bytes) (row ∷ rows)) ≡ prime_entries schema (place ∷ places) (row ∷ rows))
    (λ yes.
    let same : prime ≡ prime_of schema row.bytes = sym (same_bytes (prime_of schema row.bytes) prime yes) in
    rw yes (λ i. (let e : PrimeEntry = record { value = record { items = same i }; place = place } in e) ∷ rest i))
    (λ no. rw no (ap (λ (r : List PrimeEntry). (let e : PrimeEntry = record { value = record { items = prime_of schema row.bytes }; place = place } in e) ∷ r) rest))

-- rows of other prime values stay where they are
at_others : (schema : Schema) (slots : Slots) (next : ℕ) (bytes : List ℕ) (old : Row) (place : Place) (now : Option (List ℕ)) (places : List Place) (rows : List Row) → is_row schema next old ≡ true
    → has_value schema 0 (prime_of schema bytes) old ≡ true → slots place ≡ Some (stored schema old) → are_rows schema next rows ≡ true → Each (λ row. has_value schema 0 (prime_of schema bytes) row ≡ false) rows
    → AreAt schema slots places rows → AreAt schema (put_slot slots place now) places (map (renewed schema next bytes) rows)
at_others schema slots next bytes old place now [] [] fit has here sound none at = tt
at_others schema slots next bytes old place now [] (row ∷ rows) fit has here sound none at = absurd at
at_others schema slots next bytes old place now (q ∷ places) [] fit has here sound none at = absurd at
at_others schema slots next bytes old place now (q ∷ places) (row ∷ rows) fit has here sound none at =
    let parts = rows_parts schema next row rows sound in
    rw none.0 (
      put_there slots place q now (other_place schema slots next (prime_of schema bytes) old row place q fit parts.0 has none.0 here at.0) ∙ at.0,
      at_others schema slots next bytes old place now places rows fit has here parts.2 none.1 at.1,
    )

at_renewed : (schema : Schema) (slots : Slots) (next : ℕ) (bytes : List ℕ) (old : Row) (place : Place) (places : List Place) (rows : List Row) → is_row schema next old ≡ true
    → has_value schema 0 (prime_of schema bytes) old ≡ true → slots place ≡ Some (stored schema old) → are_rows schema next rows ≡ true → find (has_value schema 0 (prime_of schema bytes)) rows ≡ Some old
    → option_map (λ (e : PrimeEntry). e.place) (find (has_prime (prime_of schema bytes)) (prime_entries schema places rows)) ≡ Some place
    → AreAt schema slots places rows → AreAt schema (put_slot slots place (Some (stored schema (changed_row schema next bytes old)))) places (map (renewed schema next bytes) rows)
at_renewed schema slots next bytes old place [] [] fit has here sound found leads at = tt
at_renewed schema slots next bytes old place [] (row ∷ rows) fit has here sound found leads at = absurd at
at_renewed schema slots next bytes old place (q ∷ places) [] fit has here sound found leads at = absurd at
at_renewed schema slots next bytes old place (q ∷ places) (row ∷ rows) fit has here sound found leads at =
    let parts = rows_parts schema next row rows sound in
    let prime = prime_of schema bytes in
    let now = Some (stored schema (changed_row schema next bytes old)) in
    either (has_value schema 0 prime row) (AreAt schema (put_slot slots place now) (q ∷ places) (map (renewed schema next bytes) (row ∷ rows)))
    (λ yes.
    let same : row ≡ old = from_some row old (rw yes at found) in
    let where_it_is : q ≡ place = from_some q place (rw yes at leads) in
    rw yes (
      ap (put_slot slots place now) where_it_is ∙ put_here slots place now ∙ ap (λ (r : Row). Some (stored schema (changed_row schema next bytes r))) (sym same),
      at_others schema slots next bytes old place now places rows fit has here parts.2 (none_after schema prime row rows yes parts.1) at.1,
    ))
    (λ no.
    rw no (
      put_there slots place q now (other_place schema slots next prime old row place q fit parts.0 has no here at.0) ∙ at.0,
      at_renewed schema slots next bytes old place places rows fit has here parts.2 (rw no at found) (rw no at leads) at.1,
    ))

-- the rows are at their places, and no other slot is in use
pub placed_renewed : (schema : Schema) (slots : Slots) (next : ℕ) (bytes : List ℕ) (old : Row) (place : Place) (places : List Place) (rows : List Row) → is_row schema next old ≡ true
    → has_value schema 0 (prime_of schema bytes) old ≡ true → slots place ≡ Some (stored schema old) → are_rows schema next rows ≡ true → find (has_value schema 0 (prime_of schema bytes)) rows ≡ Some old
    → option_map (λ (e : PrimeEntry). e.place) (find (has_prime (prime_of schema bytes)) (prime_entries schema places rows)) ≡ Some place
    → IsPlaced schema slots places rows → IsPlaced schema (put_slot slots place (Some (stored schema (changed_row schema next bytes old)))) places (map (renewed schema next bytes) rows)
placed_renewed schema slots next bytes old place places rows fit has here sound found leads placed = record {
  rows_at = at_renewed schema slots next bytes old place places rows fit has here sound found leads placed.rows_at;
  no_more = λ p some.
      either (is_same p place) (IsSome (find (is_same p) places))
      (λ yes. placed.no_more p (ap (λ q. is_some (slots q)) (same_place p place yes) ∙ ap is_some here))
      (λ no.
      let other : p ≢ place = λ e. let same = ap (λ q. is_same q place) e ∙ same_itself place in cc in
      placed.no_more p (ap is_some (sym (put_there slots place p (Some (stored schema (changed_row schema next bytes old))) other)) ∙ some));
}
