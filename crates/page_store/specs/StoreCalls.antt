-- What the calls on the pages of a unit ensure.
use Rattle.std.specs.Prelude.{◌≡◌, ℕ, ◌+◌, max, List, IsTrue, Result, IfOk, OnOk, OnErr}
use Rattle.io_state.specs.declared.fault.Fault.{Fault}
use Rattle.page_store.specs.DeviceFile.{DeviceFile, content, page_of_bytes}
use Rattle.page_store.specs.Gate.{AllRefused, ClosedOrRefused, SameOrRefused, Opens, with_gate}
use Rattle.page_store.specs.Images.{IsSettled}
use Rattle.page_store.specs.Moments.{Throughout, IsQuiet}
use Rattle.page_store.specs.Pages.{PageWritten, PageFails, HoldsPages, IsStoreOf}
use Rattle.page_store.specs.ShelfState.{ShelfState, unit_file, WhereHonest, FileGoes, OnlyAnswers}
use Rattle.page_store.specs.ShelfState.{ChangesOnly, KeepsOthers, FaultHasCause}
use Rattle.page_store.specs.ShelfCalls.{GoesHonestly, StaysOrRefuses, ChangesUnitFile}
use Rattle.page_store.specs.declared.store.Store.{Store}

-- at each moment a crash of a refused file leaves a refused file, or the content with a closed gate
abbrev pub ClosesOrRefuses : DeviceFile → DeviceFile → Type 0
ClosesOrRefuses old new = AllRefused old → Throughout (ClosedOrRefused old) old new

-- the content has a closed gate, and a crash leaves nothing else
abbrev pub ClosesGate : DeviceFile → DeviceFile → Type 0
ClosesGate old new = (content new ≡ with_gate 67 (content old)) × IsSettled new

-- of shelves that show this state and count their faults so
module _ {H : Type 0} (state : H → ShelfState) (count : H → ℕ) where
  -- the unit's file was made, or its gate was opened so that it is written anew
  pub record MakesStore (unit : ℕ) (before after : H) (result : Result Store Fault) : Type 0 where
    pub store : IfOk result (λ store. IsStoreOf store unit (state after).is_honest
        (unit_file (state after) unit))
    pub pages : IfOk result (λ store. WhereHonest (state after) unit (HoldsPages store.pages))
    pub images : GoesHonestly unit (state before) (state after) StaysOrRefuses
    pub opens : OnOk result (GoesHonestly unit (state before) (state after) Opens)
    pub failed : OnErr result (GoesHonestly unit (state before) (state after) SameOrRefused)
    pub only : KeepsOthers unit (state before) (state after)
    pub cause : FaultHasCause (count before) (count after) result

  -- the pages of the unit's file were counted, and nothing was written
  pub record OpensStore (unit : ℕ) (before after : H) (result : Result Store Fault) : Type 0 where
    pub store : IfOk result (λ store. IsStoreOf store unit (state after).is_honest
        (unit_file (state before) unit))
    pub only : OnlyAnswers (state before) (state after)
    pub cause : FaultHasCause (count before) (count after) result

  -- a call on one unit
  module _ {X : Type 0} where
    -- the gate of the unit's file was closed
    pub record ClosesUnit (unit : ℕ) (before after : H) (result : Result X Fault) : Type 0 where
      pub images : GoesHonestly unit (state before) (state after) ClosesOrRefuses
      pub closed : OnOk result (FileGoes unit (state before) (state after) ClosesGate)
      pub only : ChangesOnly unit (state before) (state after)
      pub cause : FaultHasCause (count before) (count after) result

    -- page n of the unit's file was read
    pub record ReadsPage (unit n : ℕ) (page : List ℕ) (before after : H) (result : Result X Fault) : Type
        0 where
      pub answer : OnOk result
          (IsTrue (state after).is_honest → page ≡ page_of_bytes (content (unit_file (state before) unit)) n)
      pub quiet : IsQuiet unit (state before) (state after)
      pub only : OnlyAnswers (state before) (state after)
      pub cause : FaultHasCause (count before) (count after) result

    -- a call that writes page n of the unit's file in its place
    abbrev pub ChangesPage : ℕ → ℕ → List ℕ → H → H → Result X Fault → Type 0
    ChangesPage unit n page before after result = ChangesUnitFile state count unit (PageWritten n page)
        (PageFails n) before after result

    -- page n of a store's file was written, or added behind the last one
    pub record WritesPage (n : ℕ) (page : List ℕ) (old new : Store) (before after : H)
        (result : Result X Fault) : Type 0 where
      pub written : OnOk result (FileGoes old.unit (state before) (state after) (PageWritten n page))
      pub added : OnOk result (new ≡ record old { pages = max old.pages (n + 1) })
      pub failed : OnErr result (FileGoes old.unit (state before) (state after) (PageFails n))
      pub kept : OnErr result (new ≡ old)
      pub pages : WhereHonest (state after) new.unit (HoldsPages new.pages)
      pub quiet : IsQuiet old.unit (state before) (state after)
      pub only : ChangesOnly old.unit (state before) (state after)
      pub cause : FaultHasCause (count before) (count after) result
