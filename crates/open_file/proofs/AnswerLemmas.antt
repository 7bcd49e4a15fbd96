-- The answers of a look-up by a key.
use Rattle.std.proofs.Common.{◌≡◌, ℕ, ◌+◌, ◌-◌, ◌≤◌, ◌<◌, Bool, true, false, List, length, Option, Some, None, refl, ap, sym, ◌∙◌, arith}
use Rattle.std.specs.Prelude.{Result, Ok, option_map}
use Rattle.record_layout.specs.Schema.{Schema, value_of}
use Rattle.arrayvec.specs.ArrayVec.{ArrayVec}
use Rattle.indexed_file.specs.File.{Row, File}
use Rattle.indexed_file.specs.Rank.{has_value, least, is_repeated}
use Rattle.indexed_file.specs.Sound.{is_file}
use Rattle.indexed_file.specs.Change.{row_of}
use Rattle.indexed_file.specs.Answers.{found_of}
use Rattle.indexed_file.specs.declared.answer.Found.{Found}
use Rattle.key_index.specs.declared.entry.AltEntry.{AltEntry}
use Rattle.key_index.specs.declared.entry.AltFirst.{AltFirst}
use Rattle.key_index.specs.Calls.{IsAltFirst}
use Rattle.open_file.specs.declared.open_file.OpenFile.{OpenFile}
use Rattle.open_file.specs.InOrder.{alt_entry, alt_entries, in_order}
use Rattle.io_state.specs.declared.fault.Fault.{Fault}
use Rattle.key_index.specs.Entries.{entry_has_value}
use Rattle.open_file.specs.Reading.{ReadsRow, IsEntryOfRow}
use Rattle.open_file.proofs.ByKeyLemmas.{prime_once, by_entry, entry_is_of}
use Rattle.open_file.proofs.FirstLemmas.{same_bytes, first_passes, RowOf, row_of_entry}
use Rattle.open_file.proofs.RowLemmas.{least_is_first}
use Rattle.open_file.proofs.DeliverLemmas.{repeated_first}
use Rattle.open_file.proofs.OrderLemmas.{from_some}

-- where the index of key k stands
pub index_at : (opened : OpenFile) (k : ℕ) → 1 ≤ k → k ≤ length opened.alternates.items → (k - 1 < length opened.alternates.items) × (k - 1 + 1 ≡ k)
index_at opened k some within = (omega (arith, some, within), omega (arith, some))

-- what is told, by the row that there is
abbrev pub Tells : Schema → ℕ → File → List ℕ → Result (Option Found) Fault → List ℕ → List ℕ → Type 0
Tells schema k file v result old new =
    ReadsRow result (option_map (found_of schema k file) (least schema k (has_value schema k v) file)) old new (least schema k (has_value schema k v) file)

pub nothing : (schema : Schema) (k : ℕ) (file : File) (v old : List ℕ) → least schema k (has_value schema k v) file ≡ None → Tells schema k file v (Ok None) old old
nothing schema k file v old none = rw none (record { answered = record { answer = refl; no_damage = tt }; area = refl })

-- the row of the first entry of a value, and whether another row has the value
pub record FirstRow (schema : Schema) (k : ℕ) (file : File) (v : List ℕ) (first : AltFirst) : Type 0 where
  pub of : RowOf schema k (λ row. entry_has_value v (alt_entry schema k row)) (in_order schema k file.rows) first.entry
  pub is : IsEntryOfRow schema k file first.entry of.row
  pub repeated : first.followed ≡ is_repeated schema k of.row file

pub first_row : (schema : Schema) (k : ℕ) (file : File) (v : List ℕ) (first : AltFirst) → is_file schema file ≡ true → IsAltFirst v (alt_entries schema k file.rows) (Some first) → FirstRow schema k file v first
first_row schema k file v first sound found =
    let test : Row → Bool = λ row. entry_has_value v (alt_entry schema k row) in
    let r = row_of_entry schema k (entry_has_value v) file.rows first.entry found.0 in
    let is = entry_is_of schema k file sound test first.entry r in
    let has = same_bytes (value_of schema k r.row.bytes) v (first_passes test (in_order schema k file.rows) r.row r.is_first) in
    record { of = r; is = is; repeated = repeated_first schema k file v first r.row is has found }

-- the row of the first entry of the value
pub found_it : (schema : Schema) (k : ℕ) (file : File) (v : List ℕ) (entry : AltEntry) (r : RowOf schema k (λ row. entry_has_value v (alt_entry schema k row)) (in_order schema k file.rows) entry) → (answer : Found) (old new : List ℕ)
    → ReadsRow (Ok answer) (found_of schema k file r.row) old new (Some r.row) → Tells schema k file v (Ok (Some answer)) old new
found_it schema k file v entry r answer old new found =
    let row : least schema k (has_value schema k v) file ≡ Some r.row = by_entry schema k v file entry r in
    rw row (record { answered = record { answer = ap Some found.answered.answer; no_damage = tt }; area = found.area })

-- the row of a prime value
prime_told : (schema : Schema) (file : File) (v : List ℕ) (key : ArrayVec ℕ) → key.items ≡ v → (n : ℕ) (old new : List ℕ) (found : Option Row) → least schema 0 (has_value schema 0 v) file ≡ found
    → ReadsRow (Ok (Some n)) (option_map (λ row. length row.bytes) found) old new found
    → ReadsRow (Ok (Some (record { key = key; length = n; stamp = 0; repeated = false }))) (option_map (found_of schema 0 file) found) old new found
prime_told schema file v key same n old new None is told = absurd (let none = told.answered.answer in cc)
prime_told schema file v key same n old new (Some row) is told =
    let has = first_passes (has_value schema 0 v) (in_order schema 0 file.rows) row (sym (least_is_first schema 0 (has_value schema 0 v) file.rows) ∙ is) in
    let value = same ∙ sym (same_bytes (value_of schema 0 row.bytes) v has) in
    let long = from_some _ _ told.answered.answer in
    let once = sym (prime_once schema row file) in
    record {
      answered = record { answer = λ i. Some (record { key = record { items = value i }; length = long i; stamp = 0; repeated = once i }); no_damage = tt };
      area = told.area;
    }

pub prime_row : (schema : Schema) (file : File) (v : List ℕ) (key : ArrayVec ℕ) → key.items ≡ v → (n : ℕ) (old new : List ℕ)
    → ReadsRow (Ok (Some n)) (option_map (λ row. length row.bytes) (row_of schema v file)) old new (row_of schema v file)
    → Tells schema 0 file v (Ok (Some (record { key = key; length = n; stamp = 0; repeated = false }))) old new
prime_row schema file v key same n old new found = prime_told schema file v key same n old new (row_of schema v file) refl found
