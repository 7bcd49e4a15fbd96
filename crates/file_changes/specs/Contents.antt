-- What the parts of an open file hold, and a step on them.
use Rattle.std.specs.Prelude.{ℕ, List, IsTrue, Result}
use Rattle.io_state.specs.declared.fault.Fault.{Fault}
use Rattle.pages.specs.Answer.{IsAnswer}
use Rattle.pages.specs.ShownPages.{ShownPages}
use Rattle.key_index.specs.declared.entry.AltEntry.{AltEntry}
use Rattle.key_index.specs.declared.entry.PrimeEntry.{PrimeEntry}
use Rattle.record_heap.specs.Chain.{Slots}
use Rattle.open_file.specs.Fields.{alternates_of, heap_of, prime_index_of}
use Rattle.open_file.specs.Parts.{Parts}
use Rattle.open_file.specs.declared.open_file.OpenFile.{OpenFile}
use Rattle.file_changes.specs.InPages.{FileInPages, in_pages}

-- the records of the heap, the entries of the prime index, and those of alternate index j
pub record Contents : Type 0 where
  pub slots : Slots
  pub primes : List PrimeEntry
  pub entries : ℕ → List AltEntry

-- the parts hold this
abbrev pub PartsHold : {S : Type 0} → ShownPages S → FileInPages S → Contents → Type 0
PartsHold shown held what = Parts (heap_of held.file) (prime_index_of held.file) (alternates_of held.file)
    (shown.state held.pages).live what.slots what.primes what.entries

-- a step of a change: what it asks of what they hold, and what they hold after it
pub record PartsStep : Type 1 where
  pub Asks : Contents → Type 0
  pub leaves : Contents → Contents

-- where the parts held what the file's step asks for, they hold what it leaves
abbrev pub TakesStep : {S : Type 0} → ShownPages S → (OpenFile → PartsStep) → (old new : OpenFile)
    → (before after : S) → Result Unit Fault → Type 0
TakesStep shown step old new before after result =
    IsTrue (shown.state after).is_honest → IsTrue (shown.state before).is_sound
    → (slots : Slots) (primes : List PrimeEntry) (entries : ℕ → List AltEntry)
    → PartsHold shown (in_pages old before) (record { slots = slots; primes = primes; entries = entries })
    → (step old).Asks (record { slots = slots; primes = primes; entries = entries })
    → IsAnswer result (λ u. PartsHold shown (in_pages new after) ((step old).leaves
    (record { slots = slots; primes = primes; entries = entries }))
    × IsTrue (shown.state after).is_sound)
