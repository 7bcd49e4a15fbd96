-- What is told of the row of an entry.
use Rattle.std.proofs.Common.{◌≡◌, ℕ, Bool, false, List, length, Some, sym, ap, ◌∙◌}
use Rattle.std.specs.Prelude.{find, Ok, option_map}
use Rattle.std.specs.Option.{option_map_or}
use Rattle.record_layout.specs.Schema.{Schema, value_of}
use Rattle.indexed_file.specs.File.{Row, File}
use Rattle.indexed_file.specs.Rank.{is_repeated}
use Rattle.indexed_file.specs.Change.{row_of}
use Rattle.indexed_file.specs.Answers.{found_of}
use Rattle.key_index.specs.declared.entry.AltEntry.{AltEntry}
use Rattle.key_index.specs.declared.entry.AltFirst.{AltFirst}
use Rattle.key_index.specs.Entries.{after_rank, entry_has_value}
use Rattle.key_index.specs.Calls.{IsAltFirst}
use Rattle.open_file.specs.InOrder.{alt_entries}
use Rattle.open_file.specs.Reading.{ReadsRow, IsEntryOfRow}
use Rattle.open_file.proofs.OrderLemmas.{from_some}
use Rattle.open_file.proofs.RepeatLemmas.{next_tells}

pub told : (schema : Schema) (k : ℕ) (file : File) (entry : AltEntry) (row : Row) → IsEntryOfRow schema k file entry row → (n : ℕ) (repeated : Bool) (old new : List ℕ) → repeated ≡ is_repeated schema k row file
    → ReadsRow (Ok (Some n)) (option_map (λ row. length row.bytes) (row_of schema entry.prime.items file)) old new (row_of schema entry.prime.items file)
    → ReadsRow (Ok (record { key = entry.value; length = n; stamp = entry.stamp; repeated = repeated })) (found_of schema k file row) old new (Some row)
told schema k file entry row is n repeated old new same found =
    let there = rw is.is_row at found in
    let long = from_some _ _ there.answered.answer in
    record {
      answered = record {
        answer = λ i. record { key = (is.is_entry i).value; length = long i; stamp = (is.is_entry i).stamp; repeated = same i };
        no_damage = tt;
      };
      area = there.area;
    }

-- whether the next entry has its value tells whether another row has it
pub repeated_next : (schema : Schema) (k : ℕ) (file : File) (entry : AltEntry) (row : Row) → IsEntryOfRow schema k file entry row → (told : Bool)
    → told ≡ option_map_or (entry_has_value entry.value.items) (find (after_rank entry.value.items entry.stamp) (alt_entries schema k file.rows)) false → told ≡ is_repeated schema k row file
repeated_next schema k file entry row is told found =
    found
    ∙ ap (λ (e : AltEntry). option_map_or (entry_has_value e.value.items) (find (after_rank e.value.items e.stamp) (alt_entries schema k file.rows)) false) is.is_entry
    ∙ sym (next_tells schema k row file)

-- the first entry of a value tells whether another row has the value
pub repeated_first : (schema : Schema) (k : ℕ) (file : File) (v : List ℕ) (first : AltFirst) (row : Row) → IsEntryOfRow schema k file first.entry row → value_of schema k row.bytes ≡ v
    → IsAltFirst v (alt_entries schema k file.rows) (Some first) → first.followed ≡ is_repeated schema k row file
repeated_first schema k file v first row is has found =
    found.1
    ∙ ap (λ (w : List ℕ). option_map_or (entry_has_value w) (find (after_rank first.entry.value.items first.entry.stamp) (alt_entries schema k file.rows)) false) (sym has)
    ∙ ap (λ (e : AltEntry). option_map_or (entry_has_value (value_of schema k row.bytes)) (find (after_rank e.value.items e.stamp) (alt_entries schema k file.rows)) false) is.is_entry
    ∙ sym (next_tells schema k row file)
