-- The place of one more row.
use Rattle.std.proofs.Common.{◌≡◌, ◌≢◌, Bool, true, List, [], ◌∷◌, Some, None, refl, ap, sym, ◌∙◌, arith}
use Rattle.std.specs.Prelude.{find, is_some, IsSome, if◌then◌else◌, ◌||◌}
use Rattle.std.specs.Ordering.{is_lt}
use Rattle.std.proofs.lemmas.Bool.{and_parts, and_from, eq-eqb, or_left, or_right}
use Rattle.std.proofs.lemmas.Grind.{common_steps}
use Rattle.record_layout.specs.Schema.{Schema, prime_of}
use Rattle.indexed_file.specs.File.{Row}
use Rattle.io_state.specs.Rank.{value_cmp}
use Rattle.indexed_file.specs.Change.{inserted}
use Rattle.key_index.specs.declared.entry.PrimeEntry.{PrimeEntry}
use Rattle.record_heap.specs.declared.shape.Place.{Place}
use Rattle.record_heap.specs.Chain.{Slots}
use Rattle.key_index.specs.Entries.{with_prime}
use Rattle.open_file.specs.InOrder.{prime_entries}
use Rattle.open_file.specs.Stored.{AreAt, stored}
use Rattle.open_file.specs.Stands.{is_same, IsPlaced}
use Rattle.open_file.proofs.OrderLemmas.{either}
use Rattle.open_file.proofs.PartsLemmas.{from_eq}

-- the places with one more, at that of the new row
abbrev pub places_with : Schema → Row → Place → List Place → List Row → List Place
places_with schema row place places [] = place ∷ []
places_with schema row place [] (next ∷ rows) = place ∷ []
places_with schema row place (first ∷ places) (next ∷ rows) =
    if is_lt (value_cmp (prime_of schema row.bytes) (prime_of schema next.bytes)) then place ∷ first ∷ places else first ∷ places_with schema row place places rows

pub prime_entries_with : (schema : Schema) (slots : Slots) (row : Row) (place : Place) (places : List Place) (rows : List Row) → AreAt schema slots places rows
    → prime_entries schema (places_with schema row place places rows) (inserted schema row rows) ≡ with_prime (record { value = record { items = prime_of schema row.bytes }; place = place }) (prime_entries schema places rows)
prime_entries_with schema slots row place [] [] at = refl
prime_entries_with schema slots row place [] (next ∷ rows) at = absurd at
prime_entries_with schema slots row place (first ∷ places) [] at = absurd at
prime_entries_with schema slots row place (first ∷ places) (next ∷ rows) at =
    let entry : PrimeEntry = record { value = record { items = prime_of schema row.bytes }; place = place } in
    either (is_lt (value_cmp (prime_of schema row.bytes) (prime_of schema next.bytes)))
    (prime_entries schema (places_with schema row place (first ∷ places) (next ∷ rows)) (inserted schema row (next ∷ rows)) ≡ with_prime entry (prime_entries schema (first ∷ places) (next ∷ rows)))
    (λ yes. rw yes refl)
    (λ no. rw no (ap (λ (rest : List PrimeEntry). (let e : PrimeEntry = record { value = record { items = prime_of schema next.bytes }; place = first } in e) ∷ rest) (prime_entries_with schema slots row place places rows at.1)))

-- rows stay at places that were in use
still_at : (schema : Schema) (slots now : Slots) (place : Place) (places : List Place) (rows : List Row) → slots place ≡ None → ((p : Place) → p ≢ place → now p ≡ slots p) → AreAt schema slots places rows → AreAt schema now places rows
still_at schema slots now place [] [] free others at = tt
still_at schema slots now place [] (next ∷ rows) free others at = at
still_at schema slots now place (first ∷ places) [] free others at = at
still_at schema slots now place (first ∷ places) (next ∷ rows) free others at =
    let other : first ≢ place = λ e. let none : None ≡ Some (stored schema next) = sym (ap slots e ∙ free) ∙ at.0 in cc in
    (others first other ∙ at.0, still_at schema slots now place places rows free others at.1)

at_with : (schema : Schema) (slots now : Slots) (row : Row) (place : Place) (places : List Place) (rows : List Row) → slots place ≡ None → now place ≡ Some (stored schema row) → ((p : Place) → p ≢ place → now p ≡ slots p)
    → AreAt schema slots places rows → AreAt schema now (places_with schema row place places rows) (inserted schema row rows)
at_with schema slots now row place [] [] free here others at = (here, tt)
at_with schema slots now row place [] (next ∷ rows) free here others at = absurd at
at_with schema slots now row place (first ∷ places) [] free here others at = absurd at
at_with schema slots now row place (first ∷ places) (next ∷ rows) free here others at =
    let still = still_at schema slots now place (first ∷ places) (next ∷ rows) free others at in
    either (is_lt (value_cmp (prime_of schema row.bytes) (prime_of schema next.bytes))) (AreAt schema now (places_with schema row place (first ∷ places) (next ∷ rows)) (inserted schema row (next ∷ rows)))
    (λ yes. rw yes (here, still))
    (λ no. rw no (still.0, at_with schema slots now row place places rows free here others at.1))

pub same_place : (p q : Place) → is_same p q ≡ true → p ≡ q
same_place p q e =
    let parts = and_parts _ _ e in
    let page = from_eq p.page q.page parts.0 in
    let slot = from_eq p.slot q.slot parts.1 in
    λ i. record { page = page i; slot = slot i }

-- the new place and the others are among them
found_with : (schema : Schema) (slots : Slots) (row : Row) (place : Place) (test : Place → Bool) (places : List Place) (rows : List Row)
    → AreAt schema slots places rows
    → is_some (find test (places_with schema row place places rows)) ≡ (test place || is_some (find test places))
found_with schema slots row place test [] [] at = grind (arith, common_steps)
found_with schema slots row place test [] (next ∷ rows) at = absurd at
found_with schema slots row place test (first ∷ places) [] at = absurd at
found_with schema slots row place test (first ∷ places) (next ∷ rows) at =
    grind (arith, common_steps, found_with schema slots row place test places rows at.1)

pub same_itself : (p : Place) → is_same p p ≡ true
same_itself p = and_from _ _ (eq-eqb p.page p.page refl) (eq-eqb p.slot p.slot refl)

-- the rows are at these places, and no other slot is in use
pub placed_with : (schema : Schema) (slots now : Slots) (row : Row) (place : Place) (places : List Place) (rows : List Row) → slots place ≡ None → now place ≡ Some (stored schema row) → ((p : Place) → p ≢ place → now p ≡ slots p)
    → IsPlaced schema slots places rows → IsPlaced schema now (places_with schema row place places rows) (inserted schema row rows)
placed_with schema slots now row place places rows free here others placed = record {
  rows_at = at_with schema slots now row place places rows free here others placed.rows_at;
  no_more = λ p some.
      either (is_same p place) (IsSome (find (is_same p) (places_with schema row place places rows)))
      (λ yes. found_with schema slots row place (is_same p) places rows placed.rows_at ∙ or_left _ _ yes)
      (λ no.
      let other : p ≢ place = λ e. let same = ap (λ q. is_same q place) e ∙ same_itself place in cc in
      let before : IsSome (slots p) = ap is_some (sym (others p other)) ∙ some in
      found_with schema slots row place (is_same p) places rows placed.rows_at ∙ or_right _ _ (placed.no_more p before));
}
