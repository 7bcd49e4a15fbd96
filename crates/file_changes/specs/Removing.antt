-- What removing a record makes of an open file.
use Rattle.std.specs.Prelude.{◌≡◌, ◌≢◌, ℕ, ◌+◌, ◌*◌, ◌<◌, List, length, find, slice_index_or, IsSome, nat_lt}
use Rattle.std.specs.Prelude.{None, Result, if◌then◌else◌}
use Rattle.io_state.specs.declared.fault.Fault.{Fault}
use Rattle.pages.specs.ShownPages.{ShownPages}
use Rattle.key_index.specs.declared.alt_index.AltIndex.{AltIndex}
use Rattle.key_index.specs.Standing.{prime_height}
use Rattle.file_changes.specs.Adding.{index_levels}
use Rattle.file_changes.specs.Steps.{CanChangeWith}
use Rattle.record_layout.specs.Schema.{Schema, value_of, prime_of}
use Rattle.indexed_file.specs.File.{Row, stamp_of}
use Rattle.key_index.specs.declared.entry.AltEntry.{AltEntry}
use Rattle.key_index.specs.declared.entry.PrimeEntry.{PrimeEntry}
use Rattle.key_index.specs.Entries.{has_prime, has_rank, without_prime, without_rank}
use Rattle.record_heap.specs.declared.shape.Place.{Place}
use Rattle.record_heap.specs.Chain.{Slots, put_slot}
use Rattle.open_file.specs.Fields.{alternates_of, prime_index_of, file_schema, with_parts_of, without_path}
use Rattle.open_file.specs.Parts.{but_at}
use Rattle.open_file.specs.declared.open_file.OpenFile.{OpenFile}
use Rattle.file_changes.specs.Contents.{Contents, PartsStep, TakesStep}
use Rattle.file_changes.specs.Old.{row_with}
use Rattle.file_changes.specs.declared.old_record.OldRecord.{OldRecord}

-- each alternate index has an entry of the row's value and stamp
abbrev pub AreThere : Schema → Row → ℕ → (ℕ → List AltEntry) → Type 0
AreThere schema row count entries = (j : ℕ) → j < count
    → IsSome (find (has_rank (value_of schema (j + 1) row.bytes) (stamp_of (j + 1) row)) (entries j))

-- the heap has the row at this place, and each index has its entry
pub record HasRowAndEntries (schema : Schema) (row : Row) (place : Place) (count : ℕ) (slots : Slots)
    (primes : List PrimeEntry) (entries : ℕ → List AltEntry) : Type 0 where
  pub in_heap : IsSome (slots place)
  pub in_prime : IsSome (find (has_prime (prime_of schema row.bytes)) primes)
  pub in_alternates : AreThere schema row count entries

-- the alternate indexes below i do not have the entry of the row any more
abbrev pub without_below : Schema → Row → ℕ → (ℕ → List AltEntry) → ℕ → List AltEntry
without_below schema row i entries j =
    if nat_lt j i then without_rank (value_of schema (j + 1) row.bytes) (stamp_of (j + 1) row)
    (entries j) else entries j

-- the parts without the row
abbrev pub without_row : Schema → Row → Place → ℕ → Contents → Contents
without_row schema row place count held = record {
  slots = put_slot held.slots place None;
  primes = without_prime (prime_of schema row.bytes) held.primes;
  entries = without_below schema row count held.entries;
}

-- the prime index loses the entry of a record
abbrev pub prime_lost : List ℕ → OpenFile → PartsStep
prime_lost bytes file = record {
  Asks = λ held. IsSome (find (has_prime (prime_of (file_schema file) bytes)) held.primes);
  leaves = λ held. record held { primes = without_prime (prime_of (file_schema file) bytes) held.primes };
}

-- the slot at this place is given back
abbrev pub slot_freed : Place → OpenFile → PartsStep
slot_freed place file = record {
  Asks = λ held. IsSome (held.slots place);
  leaves = λ held. record held { slots = put_slot held.slots place None };
}

-- alternate index j loses the entry of a record, of this stamp
abbrev pub entry_lost : List ℕ → ℕ → ℕ → OpenFile → PartsStep
entry_lost bytes stamp j file = record {
  Asks = λ held. IsSome (find (has_rank (value_of (file_schema file) (j + 1) bytes) stamp) (held.entries j));
  leaves = λ held. record held {
    entries = but_at j
        (without_rank (value_of (file_schema file) (j + 1) bytes) stamp (held.entries j)) held.entries;
  };
}

-- each of them loses the entry of a record, of these stamps
abbrev pub entries_lost : (bytes stamps : List ℕ) → OpenFile → PartsStep
entries_lost bytes stamps file = record {
  Asks = λ held. AreThere (file_schema file) (row_with bytes stamps) (length (alternates_of file))
      held.entries;
  leaves = λ held. record held {
    entries = without_below (file_schema file) (row_with bytes stamps)
        (length (alternates_of file)) held.entries;
  };
}

-- the parts lose the record that was found, of these bytes
abbrev pub row_lost : OldRecord → List ℕ → OpenFile → PartsStep
row_lost old bytes file = record {
  Asks = λ held. HasRowAndEntries (file_schema file) (row_with bytes old.stamps.items) old.place
      (length (alternates_of file)) held.slots held.primes held.entries;
  leaves = without_row (file_schema file) (row_with bytes old.stamps.items) old.place
      (length (alternates_of file));
}

-- a record of these bytes can be taken out, and has these stamps, one for each alternate key
pub record CanTakeOut {S : Type 0} (shown : ShownPages S) (file : OpenFile) (pages : S)
    (bytes old_stamps : List ℕ) : Type 0 where
  pub can : CanChangeWith shown file pages bytes
  pub stamps : length old_stamps ≡ length (alternates_of file)

-- only the parts change, and the path is forgotten
abbrev pub ChangesParts : (old new : OpenFile) → Type 0
ChangesParts old new = new ≡ with_parts_of new (without_path old)

-- the alternate indexes but j are as they were
abbrev pub KeepsOtherIndexes : ℕ → (old new : OpenFile) → Type 0
KeepsOtherIndexes j old new = (i : ℕ) (index : AltIndex) → i ≢ j
    → slice_index_or (alternates_of new) i index ≡ slice_index_or (alternates_of old) i index

-- the most pages that taking a record out asks for
abbrev pub most_to_take_out : OpenFile → ℕ
most_to_take_out file = 8 * ((prime_height (prime_index_of file) + 1) + index_levels (alternates_of file)) + 1

-- the alternate indexes lose the entries of a record
abbrev pub LosesEntries : {S : Type 0} → ShownPages S → (bytes stamps : List ℕ) → (old new : OpenFile)
    → (before after : S) → Result Unit Fault → Type 0
LosesEntries shown bytes stamps old new before after result =
    TakesStep shown (entries_lost bytes stamps) old new before after result
