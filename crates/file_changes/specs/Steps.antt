-- What the steps of a change ask for, and what they leave of an open file.
use Rattle.std.specs.Prelude.{◌≡◌, ℕ, ◌+◌, ◌*◌, ◌<◌, ◌≤◌, ◌^◌, Bool, true, false, List, length, drop}
use Rattle.std.specs.Prelude.{slice_index_or, IsTrue, Result, IfErr, ⊤}
use Rattle.io_state.specs.declared.fault.Fault.{Fault}
use Rattle.indexed_file.specs.File.{Row, File}
use Rattle.pages.specs.Answer.{IsAnswer}
use Rattle.pages.specs.Cause.{IsCaused}
use Rattle.pages.specs.PageCalls.{WritesPages}
use Rattle.pages.specs.ShownPages.{ShownPages}
use Rattle.key_index.specs.declared.alt_index.AltIndex.{AltIndex}
use Rattle.key_index.specs.Standing.{alt_height}
use Rattle.record_heap.specs.Standing.{slot_shape}
use Rattle.open_file.specs.Fields.{alternates_of, has_broken, heap_of, next_stamp_of, prime_index_of}
use Rattle.open_file.specs.Fields.{file_schema, with_alternates_of, with_heap_of, with_prime_of}
use Rattle.open_file.specs.Stands.{Stands, IsShaped}
use Rattle.open_file.specs.declared.open_file.OpenFile.{OpenFile}
use Rattle.file_changes.specs.InPages.{FileInPages, IsReadyIn}

-- ---- what is asked for

-- calls may be made on an open file, and the record is neither too short nor too long for it
pub record CanTakeRecord {S : Type 0} (shown : ShownPages S) (held : FileInPages S)
    (bytes : List ℕ) : Type 0 where
  pub ready : IsReadyIn shown held
  pub least : (file_schema held.file).least ≤ length bytes
  pub greatest : length bytes ≤ (file_schema held.file).greatest

-- calls may be made, and the record is long enough to have a value of each key
pub record CanLookFor {S : Type 0} (shown : ShownPages S) (file : OpenFile) (pages : S)
    (bytes : List ℕ) : Type 0 where
  pub ready : shown.IsReady pages
  pub shaped : IsShaped file
  pub least : (file_schema file).least ≤ length bytes

-- the gate is open too
pub record CanChangeWith {S : Type 0} (shown : ShownPages S) (file : OpenFile) (pages : S)
    (bytes : List ℕ) : Type 0 where
  pub ready : shown.IsReady pages
  pub gate : shown.CanChange pages
  pub shaped : IsShaped file
  pub least : (file_schema file).least ≤ length bytes

-- and the record is not too long for a slot of the heap
pub record CanStore {S : Type 0} (shown : ShownPages S) (file : OpenFile) (pages : S)
    (bytes : List ℕ) : Type 0 where
  pub ready : shown.IsReady pages
  pub gate : shown.CanChange pages
  pub shaped : IsShaped file
  pub least : (file_schema file).least ≤ length bytes
  pub greatest : length bytes ≤ (file_schema file).greatest

-- a record that is long enough may be put into alternate index j, or taken out of it
pub record CanChangeIndex {S : Type 0} (shown : ShownPages S) (file : OpenFile) (pages : S) (j : ℕ)
    (bytes : List ℕ) : Type 0 where
  pub can : CanChangeWith shown file pages bytes
  pub index : j < length (alternates_of file)

-- both records are long enough to have a value of each key
pub record HaveEachKey (file : OpenFile) (was bytes : List ℕ) : Type 0 where
  pub shaped : IsShaped file
  pub old : (file_schema file).least ≤ length was
  pub new : (file_schema file).least ≤ length bytes

-- so is this row, which has a stamp for each alternate key
pub record IsRowOf (file : OpenFile) (row : Row) : Type 0 where
  pub least : (file_schema file).least ≤ length row.bytes
  pub many : length row.stamps ≡ length (alternates_of file)

-- so many pages are left, and where a stamp is taken, the next one is no greater than the last that there is
pub record HasRoomFor {S : Type 0} (shown : ShownPages S) (file : OpenFile) (pages : S) (need : ℕ)
    (takes_stamp : Bool) : Type 0 where
  pub room : need ≤ (shown.state pages).available
  pub stamps : IsTrue takes_stamp → next_stamp_of file < 2 ^ 63

-- ---- what is answered

-- where no wrong answer of the device was taken as true, the answer is this, for each file that the
-- pages stood for
abbrev pub AnswersFor : {S X : Type 0} → (shown : ShownPages S) → (opened : OpenFile) → (old new : S)
    → (Is : (file : File) → Stands opened (shown.state old).live file → X → Type 0) → Result X Fault
    → Type 0
AnswersFor shown opened old new Is result =
    IsTrue (shown.state new).is_honest → (file : File) (stands : Stands opened (shown.state old).live file)
    → IsAnswer result (Is file stands)

-- ---- what is left

-- whatever is answered, the schema and the mark of a broken file stay, and the parts are made for the schema
pub record KeepsMade (old new : OpenFile) : Type 0 where
  pub schema : file_schema new ≡ file_schema old
  pub broken : has_broken new ≡ has_broken old
  pub shaped : IsShaped new

-- a change may fail, at Full too, and leaves the mark of a broken file
pub record KeepsMark {S X : Type 0} (shown : ShownPages S) (old new : OpenFile) (before after : S)
    (result : Result X Fault) : Type 0 where
  pub cause : IfErr result (IsCaused (shown.HasFailed before after) ⊤)
  pub broken : has_broken new ≡ has_broken old

-- only the heap changes, and its records have the lengths that they had
pub record ChangesHeap (old new : OpenFile) : Type 0 where
  pub rest : new ≡ with_heap_of new old
  pub shape : slot_shape (heap_of new) ≡ slot_shape (heap_of old)

-- only the prime index changes, and its values have the length that they had
pub record ChangesPrime (old new : OpenFile) : Type 0 where
  pub rest : new ≡ with_prime_of new old
  pub width : (prime_index_of new).width ≡ (prime_index_of old).width

-- only the alternate indexes change, and they are made for the schema
pub record ChangesAlternates (old new : OpenFile) : Type 0 where
  pub rest : new ≡ with_alternates_of new old
  pub shaped : IsShaped new

-- the tree of alternate index j has no more levels than before
abbrev pub IsNoHigher : ℕ → (old new : OpenFile) → Type 0
IsNoHigher j before after = (old new : AltIndex) → old ≡ slice_index_or (alternates_of before) j old
    → new ≡ slice_index_or (alternates_of after) j new → alt_height new ≤ alt_height old

-- the pages that a change of an alternate index may take: one more than its tree has levels
abbrev pub pages_for : Bool → AltIndex → ℕ
pages_for true index = alt_height index + 1
pages_for false index = 0

-- only alternate index j changes of those from j on. It takes pages or not, and asks for so many
-- for each level
pub record ChangesAlternate {S : Type 0} (shown : ShownPages S) (j : ℕ) (takes_pages : Bool) (most : ℕ)
    (old new : OpenFile) (before after : S) (result : Result Unit Fault) : Type 0 where
  pub rest : new ≡ with_alternates_of new old
  pub shaped : IsShaped new
  pub later : drop (j + 1) (alternates_of new) ≡ drop (j + 1) (alternates_of old)
  pub many : length (alternates_of new) ≡ length (alternates_of old)
  pub few : (index : AltIndex) → index ≡ slice_index_or (alternates_of old) j index
      → (shown.state before).available ≤ (shown.state after).available + pages_for takes_pages index
  pub cause : (index : AltIndex) → index ≡ slice_index_or (alternates_of old) j index
      → IfErr result (IsCaused (shown.HasFailed before after)
      ((shown.state before).available < pages_for takes_pages index))
  pub asked : (index : AltIndex) → index ≡ slice_index_or (alternates_of old) j index
      → (shown.state after).asked ≤ (shown.state before).asked + most * (alt_height index + 1)
  pub goes : shown.Writes before after

-- so many pages may be taken, and the fault is Full only where fewer are left
pub record TakesPages {S X : Type 0} (shown : ShownPages S) (need most : ℕ) (old new : S)
    (result : Result X Fault) : Type 0 where
  pub few : (shown.state old).available ≤ (shown.state new).available + need
  pub writes : WritesPages shown most ((shown.state old).available < need) old new result
