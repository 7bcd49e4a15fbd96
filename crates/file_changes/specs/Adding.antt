-- What adding a record makes of an open file.
use Rattle.std.specs.Prelude.{◌≡◌, ℕ, ◌+◌, ◌*◌, ◌<◌, List, length, false, sum_by, None, Some, find, nat_lt}
use Rattle.std.specs.Prelude.{IsTrue, Result, if◌then◌else◌}
use Rattle.io_state.specs.declared.fault.Fault.{Fault}
use Rattle.pages.specs.Answer.{IsAnswer}
use Rattle.pages.specs.ShownPages.{ShownPages}
use Rattle.file_changes.specs.InPages.{FileInPages, in_pages}
use Rattle.file_changes.specs.Contents.{PartsHold, PartsStep}
use Rattle.file_changes.specs.Steps.{AnswersFor, TakesPages}
use Rattle.record_layout.specs.Schema.{Schema, key_at, value_of, prime_of, has_duplicates}
use Rattle.indexed_file.specs.File.{File}
use Rattle.indexed_file.specs.Change.{clashes, added, new_row}
use Rattle.indexed_file.specs.Answers.{added_answer}
use Rattle.indexed_file.specs.declared.answer.Added.{Added}
use Rattle.pages.specs.PageMap.{PageMap}
use Rattle.key_index.specs.declared.entry.AltEntry.{AltEntry}
use Rattle.key_index.specs.declared.entry.PrimeEntry.{PrimeEntry}
use Rattle.key_index.specs.declared.alt_index.AltIndex.{AltIndex}
use Rattle.key_index.specs.declared.prime_index.PrimeIndex.{PrimeIndex}
use Rattle.key_index.specs.Entries.{with_alt, with_prime, has_rank, has_prime}
use Rattle.key_index.specs.Standing.{alt_height, prime_height}
use Rattle.record_heap.specs.declared.heap.Heap.{Heap}
use Rattle.record_heap.specs.declared.shape.Place.{Place}
use Rattle.record_heap.specs.Chain.{Slots, put_slot}
use Rattle.open_file.specs.Fields.{alternates_of, heap_of, next_stamp_of, prime_index_of, file_schema}
use Rattle.open_file.specs.Parts.{Parts, but_at}
use Rattle.open_file.specs.Stored.{stored}
use Rattle.open_file.specs.Stands.{Stands}
use Rattle.open_file.specs.declared.open_file.OpenFile.{OpenFile}

-- the stamp of a new record in alternate key j
abbrev pub stamp_in : Schema → ℕ → ℕ → ℕ
stamp_in schema stamp j = if has_duplicates (key_at schema (j + 1)) then stamp else 0

-- the entry of a new record in alternate index j
abbrev pub entry_of_record : Schema → ℕ → List ℕ → ℕ → AltEntry
entry_of_record schema stamp bytes j =
    record {
      value = record { items = value_of schema (j + 1) bytes };
      stamp = stamp_in schema stamp j;
      prime = record { items = prime_of schema bytes };
    }

-- the alternate indexes below i have the entry of the new record, and the others do not have it yet
abbrev pub added_below : Schema → ℕ → List ℕ → ℕ → (ℕ → List AltEntry) → ℕ → List AltEntry
added_below schema stamp bytes i entries j =
    if nat_lt j i then with_alt (entry_of_record schema stamp bytes j)
    (entries j) else entries j

-- no alternate index has an entry of its value and stamp
abbrev pub AreFree : Schema → ℕ → List ℕ → ℕ → (ℕ → List AltEntry) → Type 0
AreFree schema stamp bytes count entries = (j : ℕ) → j < count
    → find (has_rank (value_of schema (j + 1) bytes) (stamp_in schema stamp j)) (entries j) ≡ None

-- the levels of these trees, with one more of each
abbrev pub index_levels : List AltIndex → ℕ
index_levels indexes = sum_by (λ index. alt_height index + 1) indexes

-- the heap has these bytes at a place that was free, and all other parts are as they were
pub record RowPut (heap : Heap) (prime : PrimeIndex) (alternates : List AltIndex) (pages : PageMap)
    (slots : Slots) (primes : List PrimeEntry) (entries : ℕ → List AltEntry) (place : Place)
    (bytes : List ℕ) : Type 0 where
  pub free : slots place ≡ None
  pub parts : Parts heap prime alternates pages (put_slot slots place (Some bytes)) primes entries

-- where the parts were sound, a row of these bytes was put into the heap
abbrev pub PutsRow : {S : Type 0} → ShownPages S → List ℕ → (old new : OpenFile) → (before after : S)
    → Result Place Fault → Type 0
PutsRow shown bytes old new before after result =
    IsTrue (shown.state after).is_honest → IsTrue (shown.state before).is_sound
    → (slots : Slots) (primes : List PrimeEntry) (entries : ℕ → List AltEntry)
    → PartsHold shown (in_pages old before) (record { slots = slots; primes = primes; entries = entries })
    → IsAnswer result (λ place. RowPut (heap_of new) (prime_index_of new) (alternates_of new)
    (shown.state after).live slots primes entries place bytes
    × IsTrue (shown.state after).is_sound)

-- the slot of a new record: its stamps, and its bytes
abbrev pub new_slot : OpenFile → List ℕ → List ℕ
new_slot file bytes = stored (file_schema file) (new_row (file_schema file) (next_stamp_of file) bytes)

-- the prime index gets the entry of a record at this place, whose value it did not have
abbrev pub prime_added : List ℕ → Place → OpenFile → PartsStep
prime_added bytes place file = record {
  Asks = λ held. find (has_prime (prime_of (file_schema file) bytes)) held.primes ≡ None;
  leaves = λ held. record held {
    primes = with_prime
        (record { value = record { items = prime_of (file_schema file) bytes }; place = place }) held.primes;
  };
}

-- alternate index j gets the entry of a record, whose value and stamp it did not have
abbrev pub entry_added : List ℕ → ℕ → OpenFile → PartsStep
entry_added bytes j file = record {
  Asks = λ held. find (has_rank (value_of (file_schema file) (j + 1) bytes)
      (stamp_in (file_schema file) (next_stamp_of file) j)) (held.entries j) ≡ None;
  leaves = λ held. record held {
    entries = but_at j
        (with_alt (entry_of_record (file_schema file) (next_stamp_of file) bytes j) (held.entries j))
        held.entries;
  };
}

-- so does each of them
abbrev pub entries_added : List ℕ → OpenFile → PartsStep
entries_added bytes file = record {
  Asks = λ held. AreFree (file_schema file) (next_stamp_of file) bytes (length (alternates_of file))
      held.entries;
  leaves = λ held. record held {
    entries = added_below (file_schema file) (next_stamp_of file) bytes
        (length (alternates_of file)) held.entries;
  };
}

-- where the record clashes with none, the pages stand for the file with it
abbrev pub LeavesAdded : {S : Type 0} → ShownPages S → (before after : FileInPages S) → List ℕ
    → Result Unit Fault → Type 0
LeavesAdded shown before after bytes result =
    IsTrue (shown.state after.pages).is_honest → IsTrue (shown.state before.pages).is_sound → (file : File)
    → Stands before.file (shown.state before.pages).live file
    → clashes (file_schema before.file) bytes file.rows ≡ false
    → IsAnswer result (λ u. Stands after.file (shown.state after.pages).live
    (added (file_schema before.file) bytes file) × IsTrue (shown.state after.pages).is_sound)

-- the answer is the one of the definitions, if there is room
abbrev pub AnswersAdding : {S : Type 0} → ShownPages S → OpenFile → List ℕ → (before after : S)
    → Result Added Fault → Type 0
AnswersAdding shown file bytes before after result =
    AnswersFor shown file before after (λ was stands x. x ≡ added_answer (file_schema file) bytes was) result

-- the prime index may take a page more than its tree has levels
abbrev pub TakesPagesOfPrime : {S : Type 0} → ShownPages S → OpenFile → (before after : S)
    → Result Unit Fault → Type 0
TakesPagesOfPrime shown file before after result =
    TakesPages shown (prime_height (prime_index_of file) + 1)
    (8 * (prime_height (prime_index_of file) + 1)) before after result
