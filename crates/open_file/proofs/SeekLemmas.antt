-- What START finds, by the first entry of an index.
use Rattle.std.proofs.Common.{◌≡◌, ℕ, Bool, true, false, List, Option, Some, None, refl, ap, sym, ◌∙◌}
use Rattle.std.specs.Prelude.{find, option_map, if◌then◌else◌}
use Rattle.std.proofs.lemmas.Bool.{and_parts}
use Rattle.arrayvec.specs.ArrayVec.{ArrayVec}
use Rattle.io_state.specs.declared.modes.Relation.{Relation}
use Rattle.io_state.specs.declared.modes.Relation.TheVariants.{Equal, Greater, NotLess}
use Rattle.record_layout.specs.Schema.{Schema, value_of}
use Rattle.indexed_file.specs.File.{Row, File}
use Rattle.indexed_file.specs.Rank.{least, satisfies}
use Rattle.indexed_file.specs.Sound.{is_file}
use Rattle.indexed_file.specs.Answers.{key_of_row}
use Rattle.key_index.specs.declared.entry.PrimeEntry.{PrimeEntry}
use Rattle.key_index.specs.declared.entry.AltEntry.{AltEntry}
use Rattle.record_heap.specs.declared.shape.Place.{Place}
use Rattle.record_heap.specs.Chain.{Slots}
use Rattle.open_file.specs.InOrder.{in_order, alt_entry, alt_entries, prime_entries}
use Rattle.open_file.specs.Stored.{AreAt}
use Rattle.open_file.specs.Steps.{leads_prime, leads_alt, is_wanted_value}
use Rattle.open_file.proofs.RowLemmas.{in_order_sorted, least_is_first, prime_order}
use Rattle.open_file.proofs.FirstLemmas.{kept, row_of_entry}
use Rattle.open_file.proofs.StartLemmas.{first_wanted}
use Rattle.open_file.proofs.EntryLemmas.{prime_entry, prime_some, prime_none, alt_none}

-- the value that was found, where it is wanted
abbrev pub wanted_of : Relation → List ℕ → ArrayVec ℕ → Option (ArrayVec ℕ)
wanted_of relation w value = if is_wanted_value relation w value.items then Some value else None

-- what START answers of a row
abbrev pub key_sought : Schema → ℕ → Relation → List ℕ → File → Option (ArrayVec ℕ)
key_sought schema k relation w file = option_map (key_of_row schema k) (least schema k (satisfies schema k relation w) file)

mapped_if : (schema : Schema) (k : ℕ) (b : Bool) (row : Row) → option_map (key_of_row schema k) (if b then Some row else None) ≡ (if b then Some (key_of_row schema k row) else None)
mapped_if schema k true row = refl
mapped_if schema k false row = refl

-- by the first row that START begins with
by_first : (schema : Schema) (k : ℕ) (relation : Relation) (w : List ℕ) (file : File) (found : Option Row)
    → find (λ row. leads_alt relation w (alt_entry schema k row)) (in_order schema k file.rows) ≡ found
    → key_sought schema k relation w file ≡ option_map (key_of_row schema k) (kept (λ row. is_wanted_value relation w (value_of schema k row.bytes)) found)
by_first schema k relation w file found is =
    ap (option_map (key_of_row schema k))
    (least_is_first schema k (satisfies schema k relation w) file.rows
    ∙ first_wanted schema k relation w (in_order schema k file.rows) (in_order_sorted schema k file.rows)
    ∙ ap (kept (λ row. is_wanted_value relation w (value_of schema k row.bytes))) is)

by_row : (schema : Schema) (k : ℕ) (relation : Relation) (w : List ℕ) (file : File) (row : Row) (value : ArrayVec ℕ) → value ≡ key_of_row schema k row
    → find (λ row. leads_alt relation w (alt_entry schema k row)) (in_order schema k file.rows) ≡ Some row → key_sought schema k relation w file ≡ wanted_of relation w value
by_row schema k relation w file row value same is =
    by_first schema k relation w file (Some row) is
    ∙ mapped_if schema k (is_wanted_value relation w (value_of schema k row.bytes)) row
    ∙ ap (wanted_of relation w) (sym same)

pub alt_sought : (schema : Schema) (k : ℕ) (relation : Relation) (w : List ℕ) (file : File) (entry : AltEntry)
    → find (leads_alt relation w) (alt_entries schema k file.rows) ≡ Some entry → key_sought schema k relation w file ≡ wanted_of relation w entry.value
alt_sought schema k relation w file entry found =
    let r = row_of_entry schema k (leads_alt relation w) file.rows entry found in
    by_row schema k relation w file r.row entry.value (ap (λ (e : AltEntry). e.value) r.is_entry) r.is_first

pub alt_not_sought : (schema : Schema) (k : ℕ) (relation : Relation) (w : List ℕ) (file : File)
    → find (leads_alt relation w) (alt_entries schema k file.rows) ≡ None → key_sought schema k relation w file ≡ None
alt_not_sought schema k relation w file none = by_first schema k relation w file None (alt_none schema k (leads_alt relation w) file.rows none)

-- ---- by the prime key, in whose order the rows stand

same_lead : (schema : Schema) (relation : Relation) (w : List ℕ) (place : Place) (row : Row)
    → leads_prime relation w (prime_entry schema place row) ≡ leads_alt relation w (alt_entry schema 0 row)
same_lead schema Equal w place row = refl
same_lead schema Greater w place row = refl
same_lead schema NotLess w place row = refl

pub in_prime_order : (schema : Schema) (file : File) (test : Row → Bool) → is_file schema file ≡ true → find test (in_order schema 0 file.rows) ≡ find test file.rows
in_prime_order schema file test sound = ap (find test) (prime_order schema file.next_stamp file.rows (and_parts _ _ sound).1)

module _ (schema : Schema) (slots : Slots) (places : List Place) (file : File) (sound : is_file schema file ≡ true) (at : AreAt schema slots places file.rows) where
  pub prime_sought : (relation : Relation) (w : List ℕ) (entry : PrimeEntry) → find (leads_prime relation w) (prime_entries schema places file.rows) ≡ Some entry
      → key_sought schema 0 relation w file ≡ wanted_of relation w entry.value
  prime_sought relation w entry found =
      let r = prime_some schema slots (leads_prime relation w) (λ row. leads_alt relation w (alt_entry schema 0 row)) (same_lead schema relation w) places file.rows entry at found in
      by_row schema 0 relation w file r.row entry.value (λ i. record { items = r.value i })
      (in_prime_order schema file (λ row. leads_alt relation w (alt_entry schema 0 row)) sound ∙ r.is_first)

  pub prime_not_sought : (relation : Relation) (w : List ℕ) → find (leads_prime relation w) (prime_entries schema places file.rows) ≡ None
      → key_sought schema 0 relation w file ≡ None
  prime_not_sought relation w none =
      by_first schema 0 relation w file None
      (in_prime_order schema file (λ row. leads_alt relation w (alt_entry schema 0 row)) sound
      ∙ prime_none schema slots (leads_prime relation w) (λ row. leads_alt relation w (alt_entry schema 0 row)) (same_lead schema relation w) places file.rows at none)
