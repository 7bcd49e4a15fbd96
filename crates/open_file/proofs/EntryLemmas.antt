-- The row of the first entry that passes a test.
use Rattle.std.proofs.Common.{◌≡◌, ℕ, ◌+◌, ◌-◌, ◌≤◌, ◌<◌, Bool, false, List, [], ◌∷◌, length, Some, None, refl, ap, sym, subst, ◌∙◌, arith}
use Rattle.std.specs.Prelude.{find, slice_index_or}
use Rattle.record_layout.specs.Schema.{Schema, prime_of}
use Rattle.indexed_file.specs.File.{Row, File}
use Rattle.pages.specs.PageMap.{PageMap}
use Rattle.key_index.specs.declared.entry.PrimeEntry.{PrimeEntry}
use Rattle.key_index.specs.declared.entry.AltEntry.{AltEntry}
use Rattle.key_index.specs.declared.alt_index.AltIndex.{AltIndex}
use Rattle.key_index.specs.Standing.{AltStands}
use Rattle.record_heap.specs.declared.shape.Place.{Place}
use Rattle.record_heap.specs.Chain.{Slots}
use Rattle.open_file.specs.declared.open_file.OpenFile.{OpenFile}
use Rattle.open_file.specs.InOrder.{in_order, alt_entry, alt_entries, prime_entries}
use Rattle.open_file.specs.Stored.{AreAt, stored}
use Rattle.open_file.specs.Parts.{alternate_pages}
use Rattle.open_file.specs.Stands.{Stands}
use Rattle.open_file.proofs.OrderLemmas.{either, from_some, unmapped}
use Rattle.open_file.proofs.RepeatLemmas.{find_mapped}

-- what nothing passes
pub none_passes : {X : Type 0} (xs : List X) → find (λ x. false) xs ≡ None
none_passes [] = refl
none_passes (x ∷ xs) = none_passes xs

-- the entry of a row of the prime index
abbrev pub prime_entry : Schema → Place → Row → PrimeEntry
prime_entry schema place row = record { value = record { items = prime_of schema row.bytes }; place = place }

-- the entry is that of the first row that passes a test, and leads to it
pub record LeadsToFirst (schema : Schema) (slots : Slots) (test : Row → Bool) (rows : List Row) (entry : PrimeEntry) : Type 0 where
  pub row : Row
  pub is_first : find test rows ≡ Some row
  pub value : entry.value.items ≡ prime_of schema row.bytes
  pub here : slots entry.place ≡ Some (stored schema row)

module _ (schema : Schema) (slots : Slots) (test : PrimeEntry → Bool) (of_row : Row → Bool)
    (same : (place : Place) (row : Row) → test (prime_entry schema place row) ≡ of_row row) where
  pub prime_some : (places : List Place) (rows : List Row) (entry : PrimeEntry) → AreAt schema slots places rows
      → find test (prime_entries schema places rows) ≡ Some entry → LeadsToFirst schema slots of_row rows entry
  prime_some [] rows entry at found = absurd (cc)
  prime_some (place ∷ places) [] entry at found = absurd at
  prime_some (place ∷ places) (row ∷ rows) entry at found =
      either (of_row row) (LeadsToFirst schema slots of_row (row ∷ rows) entry)
      (λ is. let it : prime_entry schema place row ≡ entry = from_some _ _ (rw (same place row ∙ is) at found) in
      record {
        row = row;
        is_first = rw is refl;
        value = ap (λ (e : PrimeEntry). e.value.items) (sym it);
        here = rw (ap (λ (e : PrimeEntry). e.place) (sym it)) at.0;
      })
      (λ is. let rest = prime_some places rows entry at.1 (rw (same place row ∙ is) at found) in
      record { row = rest.row; is_first = rw is rest.is_first; value = rest.value; here = rest.here })

  pub prime_none : (places : List Place) (rows : List Row) → AreAt schema slots places rows
      → find test (prime_entries schema places rows) ≡ None → find of_row rows ≡ None
  prime_none [] [] at found = refl
  prime_none [] (row ∷ rows) at found = absurd at
  prime_none (place ∷ places) [] at found = absurd at
  prime_none (place ∷ places) (row ∷ rows) at found =
      either (of_row row) (find of_row (row ∷ rows) ≡ None)
      (λ is. let none = rw (same place row ∙ is) at found in absurd (cc))
      (λ is. rw is (prime_none places rows at.1 (rw (same place row ∙ is) at found)))

-- no entry passes, and so no row does
pub alt_none : (schema : Schema) (k : ℕ) (test : AltEntry → Bool) (rows : List Row) → find test (alt_entries schema k rows) ≡ None
    → find (λ row. test (alt_entry schema k row)) (in_order schema k rows) ≡ None
alt_none schema k test rows none =
    unmapped (alt_entry schema k) _ (sym (find_mapped (alt_entry schema k) test (in_order schema k rows)) ∙ none)

-- the index of an alternate key stands
pub alt_at : (opened : OpenFile) (pages : PageMap) (file : File) (stands : Stands opened pages file) (k : ℕ) (index : AltIndex) → 1 ≤ k
    → k ≤ length opened.alternates.items → index ≡ slice_index_or opened.alternates.items (k - 1) index
    → AltStands index pages (alt_entries opened.schema k file.rows) (alternate_pages stands.parts.owns (k - 1))
alt_at opened pages file stands k index some within is =
    let lt : k - 1 < length opened.alternates.items = omega arith in
    let e : k - 1 + 1 ≡ k = omega arith in
    subst (λ (m : ℕ). AltStands index pages (alt_entries opened.schema m file.rows) (alternate_pages stands.parts.owns (k - 1))) e
    (stands.parts.alternates_stand (k - 1) index lt is)
