-- A new open file.
use Rattle.std.specs.Prelude.{◌≡◌, ℕ, ◌+◌, ◌*◌, ◌<◌, ◌≤◌, List, [], length, map, slice_index_or, None, Result}
use Rattle.std.specs.Prelude.{OnOk, IsTrue, IsFalse}
use Rattle.io_state.specs.declared.fault.Fault.{Fault}
use Rattle.record_layout.specs.Schema.{Schema, key_at}
use Rattle.indexed_file.specs.File.{empty_file}
use Rattle.pages.specs.PageMap.{PageMap}
use Rattle.pages.specs.ShownPages.{ShownPages}
use Rattle.pages.specs.Answer.{IsAnswer}
use Rattle.pages.specs.PageCalls.{WritesPages}
use Rattle.arrayvec.specs.ArrayVec.{ArrayVec}
use Rattle.record_heap.specs.declared.heap.Heap.{Heap}
use Rattle.record_heap.specs.Chain.{no_slots}
use Rattle.key_index.specs.declared.prime_index.PrimeIndex.{PrimeIndex}
use Rattle.key_index.specs.declared.alt_index.AltIndex.{AltIndex}
use Rattle.key_index.specs.Standing.{alt_height, alt_key}
use Rattle.open_file.specs.Parts.{Parts}
use Rattle.open_file.specs.Stands.{Stands, IsShaped, heights_of}
use Rattle.open_file.specs.Asked.{LacksPages}
use Rattle.open_file.specs.declared.open_file.OpenFile.{OpenFile}

-- it stands for a file without rows
pub record IsNewFile (opened : OpenFile) (pages : PageMap) (is_sound : Type 0) : Type 0 where
  pub stands : Stands opened pages empty_file
  pub sound : is_sound

-- a new file is made in sound pages of which none is in use, where no wrong answer of the device
-- was taken as true
abbrev pub MakesNewFile : {S : Type 0} → ShownPages S → S → S → Result OpenFile Fault → Type 0
MakesNewFile shown before after result =
    IsTrue (shown.state after).is_honest → IsTrue (shown.state before).is_sound
    → ((n : ℕ) → (shown.state before).live n ≡ None)
    → IsAnswer result (λ opened. IsNewFile opened (shown.state after).live
    (IsTrue (shown.state after).is_sound))

-- it is one of this schema that is not broken, with a tree of one level for each key
pub record IsNewOpenFile (opened : OpenFile) (schema : Schema) : Type 0 where
  pub schema_is : opened.schema ≡ schema
  pub shaped : IsShaped opened
  pub unbroken : IsFalse opened.broken
  pub heights : heights_of opened ≡ map (λ part. 1) schema.keys

-- index j is one for alternate key j + 1, whose tree has one level
pub record IsIndexOf (schema : Schema) (j : ℕ) (index : AltIndex) : Type 0 where
  pub width : index.width ≡ (key_at schema (j + 1)).length
  pub prime : index.prime ≡ (key_at schema 0).length
  pub number : alt_key index ≡ j + 1
  pub low : alt_height index ≡ 1

-- these are indexes for the first alternate keys
abbrev pub AreIndexesOf : Schema → List AltIndex → Type 0
AreIndexesOf schema alternates = (j : ℕ) (index : AltIndex) → j < length alternates
    → index ≡ slice_index_or alternates j index → IsIndexOf schema j index

-- and there is one for each alternate key
pub record AreAllIndexesOf (schema : Schema) (alternates : List AltIndex) : Type 0 where
  pub each : AreIndexesOf schema alternates
  pub many : length schema.keys ≡ length alternates + 1

-- these indexes without entries are made beside a heap and a prime index without any, in sound
-- pages, where no wrong answer of the device was taken as true
abbrev pub MakesIndexes : {S : Type 0} → ShownPages S → S → S → Result (ArrayVec AltIndex) Fault → Type 0
MakesIndexes shown before after result =
    IsTrue (shown.state after).is_honest → IsTrue (shown.state before).is_sound
    → (heap : Heap) (prime : PrimeIndex) → Parts heap prime [] (shown.state before).live no_slots [] (λ j. [])
    → IsAnswer result (λ alternates.
    Parts heap prime alternates.items (shown.state after).live no_slots [] (λ j. [])
    × IsTrue (shown.state after).is_sound)

-- a page is taken for the tree of each of so many keys; the fault is Full only where fewer are left
pub record TakesTreePages {S X : Type 0} (shown : ShownPages S) (keys : ℕ) (before after : S)
    (result : Result X Fault) : Type 0 where
  pub few : (shown.state before).available ≤ (shown.state after).available + keys
  pub spent : OnOk result ((shown.state after).available + keys ≡ (shown.state before).available)
  pub writes : WritesPages shown (2 * keys) (LacksPages shown before keys) before after result
