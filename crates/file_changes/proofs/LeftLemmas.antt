-- The places of the rows that are left.
use Rattle.std.proofs.Common.{◌≡◌, ◌≢◌, ℕ, Bool, true, false, List, [], ◌∷◌, drop, Some, None, refl, ap, sym, ◌∙◌}
use Rattle.std.specs.Prelude.{find, is_some, IsSome, option_map, if◌then◌else◌}
use Rattle.std.proofs.Math.Seq.{drop-append_seam}
use Rattle.record_layout.specs.Schema.{Schema, prime_of}
use Rattle.indexed_file.specs.File.{Row}
use Rattle.indexed_file.specs.Rank.{has_value}
use Rattle.indexed_file.specs.Change.{others_in}
use Rattle.indexed_file.specs.Sound.{is_row, are_rows}
use Rattle.indexed_file.proofs.RowLemmas.{rows_parts}
use Rattle.pages.specs.Each.{Each}
use Rattle.key_index.specs.declared.entry.PrimeEntry.{PrimeEntry}
use Rattle.key_index.specs.Entries.{has_prime, without_prime}
use Rattle.record_heap.specs.declared.shape.Place.{Place}
use Rattle.record_heap.specs.Chain.{Slots, put_slot}
use Rattle.record_heap.proofs.ChainLemmas.{put_here, put_there}
use Rattle.open_file.specs.InOrder.{prime_entries}
use Rattle.open_file.specs.Stored.{AreAt, stored, stamp_bytes, stamps_length}
use Rattle.open_file.specs.Stands.{is_same, IsPlaced}
use Rattle.open_file.proofs.OrderLemmas.{either, from_some}
use Rattle.open_file.proofs.PartsLemmas.{some_none}
use Rattle.open_file.proofs.LengthLemmas.{is_made}
use Rattle.file_changes.proofs.PlacedLemmas.{same_place, same_itself}
use Rattle.file_changes.proofs.OneRowLemmas.{none_after}

-- the places but that of the row of a prime value
abbrev pub places_left : Schema → List ℕ → List Place → List Row → List Place
places_left schema prime [] rows = []
places_left schema prime (place ∷ places) [] = []
places_left schema prime (place ∷ places) (row ∷ rows) = if has_value schema 0 prime row then places_left schema prime places rows else place ∷ places_left schema prime places rows

-- the prime index without a value has the rows that are left
pub prime_entries_left : (schema : Schema) (slots : Slots) (prime : List ℕ) (places : List Place) (rows : List Row) → AreAt schema slots places rows
    → without_prime prime (prime_entries schema places rows) ≡ prime_entries schema (places_left schema prime places rows) (others_in schema prime rows)
prime_entries_left schema slots prime [] [] at = refl
prime_entries_left schema slots prime [] (row ∷ rows) at = absurd at
prime_entries_left schema slots prime (place ∷ places) [] at = absurd at
prime_entries_left schema slots prime (place ∷ places) (row ∷ rows) at =
    let rest = prime_entries_left schema slots prime places rows at.1 in
    either (has_value schema 0 prime row) (without_prime prime (prime_entries schema (place ∷ places) (row ∷ rows)) ≡ prime_entries schema (places_left schema prime (place ∷ places) (row ∷ rows)) (others_in schema prime (row ∷ rows)))
    (λ yes. rw yes rest)
    (λ no. rw no (ap (λ (r : List PrimeEntry). (let e : PrimeEntry = record { value = record { items = prime_of schema row.bytes }; place = place } in e) ∷ r) rest))

-- two rows that are kept alike have the same bytes
stored_same : (schema : Schema) (next : ℕ) (a b : Row) → is_row schema next a ≡ true → is_row schema next b ≡ true → stored schema a ≡ stored schema b → a.bytes ≡ b.bytes
stored_same schema next a b one two same =
    let keys = drop 1 schema.keys in
    let n = stamps_length keys in
    let of_row = λ (row : Row) (fit : is_row schema next row ≡ true). ap (λ m. drop m (stored schema row)) (sym (is_made schema next row fit).width) ∙ drop-append_seam (stamp_bytes keys row.stamps) row.bytes in
    sym (of_row a one) ∙ ap (drop n) same ∙ of_row b two

-- a row of another prime value is at another place
pub other_place : (schema : Schema) (slots : Slots) (next : ℕ) (prime : List ℕ) (old row : Row) (place q : Place) → is_row schema next old ≡ true → is_row schema next row ≡ true
    → has_value schema 0 prime old ≡ true → has_value schema 0 prime row ≡ false → slots place ≡ Some (stored schema old) → slots q ≡ Some (stored schema row) → q ≢ place
other_place schema slots next prime old row place q one two has other here there e =
    let same = stored_same schema next row old two one (from_some _ _ (sym there ∙ ap slots e ∙ here)) in
    let both : true ≡ false = sym has ∙ sym (ap (λ bytes. has_value schema 0 prime (let r : Row = record { bytes = bytes; stamps = [] } in r)) same) ∙ other in
    absurd (cc)

-- the other rows stay where they are
at_left : (schema : Schema) (slots : Slots) (next : ℕ) (prime : List ℕ) (old : Row) (place : Place) (places : List Place) (rows : List Row) → is_row schema next old ≡ true → has_value schema 0 prime old ≡ true
    → slots place ≡ Some (stored schema old) → are_rows schema next rows ≡ true → AreAt schema slots places rows → AreAt schema (put_slot slots place None) (places_left schema prime places rows) (others_in schema prime rows)
at_left schema slots next prime old place [] [] fit has here sound at = tt
at_left schema slots next prime old place [] (row ∷ rows) fit has here sound at = absurd at
at_left schema slots next prime old place (q ∷ places) [] fit has here sound at = absurd at
at_left schema slots next prime old place (q ∷ places) (row ∷ rows) fit has here sound at =
    let parts = rows_parts schema next row rows sound in
    let rest = at_left schema slots next prime old place places rows fit has here parts.2 at.1 in
    either (has_value schema 0 prime row) (AreAt schema (put_slot slots place None) (places_left schema prime (q ∷ places) (row ∷ rows)) (others_in schema prime (row ∷ rows)))
    (λ yes. rw yes rest)
    (λ no. rw no (put_there slots place q None (other_place schema slots next prime old row place q fit parts.0 has no here at.0) ∙ at.0, rest))

pub none_left : (schema : Schema) (slots : Slots) (prime : List ℕ) (places : List Place) (rows : List Row) → Each (λ row. has_value schema 0 prime row ≡ false) rows → AreAt schema slots places rows → places_left schema prime places rows ≡ places
none_left schema slots prime [] [] none at = refl
none_left schema slots prime [] (row ∷ rows) none at = absurd at
none_left schema slots prime (place ∷ places) [] none at = absurd at
none_left schema slots prime (place ∷ places) (row ∷ rows) none at = rw none.0 (ap (λ r. place ∷ r) (none_left schema slots prime places rows none.1 at.1))

-- only the place of the row of the prime value goes
found_left : (schema : Schema) (slots : Slots) (next : ℕ) (prime : List ℕ) (place : Place) (test : Place → Bool) (places : List Place) (rows : List Row) → test place ≡ false → are_rows schema next rows ≡ true
    → AreAt schema slots places rows → option_map (λ (e : PrimeEntry). e.place) (find (has_prime prime) (prime_entries schema places rows)) ≡ Some place → is_some (find test places) ≡ true
    → is_some (find test (places_left schema prime places rows)) ≡ true
found_left schema slots next prime place test [] [] fails sound at leads some = absurd (cc)
found_left schema slots next prime place test [] (row ∷ rows) fails sound at leads some = absurd at
found_left schema slots next prime place test (q ∷ places) [] fails sound at leads some = absurd at
found_left schema slots next prime place test (q ∷ places) (row ∷ rows) fails sound at leads some =
    let parts = rows_parts schema next row rows sound in
    either (has_value schema 0 prime row) (is_some (find test (places_left schema prime (q ∷ places) (row ∷ rows))) ≡ true)
    (λ yes.
    let same : q ≡ place = from_some q place (rw yes at leads) in
    let left = none_left schema slots prime places rows (none_after schema prime row rows yes parts.1) at.1 in
    rw (yes, left) (rw (ap test same ∙ fails) at some))
    (λ no. rw no (either (test q) (is_some (find test (q ∷ places_left schema prime places rows)) ≡ true)
    (λ t. rw t refl)
    (λ f. rw f (found_left schema slots next prime place test places rows fails parts.2 at.1 (rw no at leads) (rw f at some)))))

-- the rows that are left are at the places that are left, and no other slot is in use
pub placed_left : (schema : Schema) (slots : Slots) (next : ℕ) (prime : List ℕ) (old : Row) (place : Place) (places : List Place) (rows : List Row) → is_row schema next old ≡ true → has_value schema 0 prime old ≡ true
    → slots place ≡ Some (stored schema old) → option_map (λ (e : PrimeEntry). e.place) (find (has_prime prime) (prime_entries schema places rows)) ≡ Some place → are_rows schema next rows ≡ true
    → IsPlaced schema slots places rows → IsPlaced schema (put_slot slots place None) (places_left schema prime places rows) (others_in schema prime rows)
placed_left schema slots next prime old place places rows fit has here leads sound placed = record {
  rows_at = at_left schema slots next prime old place places rows fit has here sound placed.rows_at;
  no_more = λ p some.
      either (is_same p place) (IsSome (find (is_same p) (places_left schema prime places rows)))
      (λ yes.
      let e = same_place p place yes in
      absurd (some_none _ some (ap (put_slot slots place None) e ∙ put_here slots place None)))
      (λ no.
      let other : p ≢ place = λ e. let same = ap (λ q. is_same q place) e ∙ same_itself place in cc in
      found_left schema slots next prime place (is_same p) places rows no sound placed.rows_at leads
      (placed.no_more p (ap is_some (sym (put_there slots place p None other)) ∙ some)));
}
