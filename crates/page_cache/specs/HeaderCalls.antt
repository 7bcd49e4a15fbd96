-- What a page of the file reads, and what changes of the header and the gate leave of the unit's file.
use Rattle.std.specs.Prelude.{◌≡◌, ℕ, List, IsTrue, Result, OnErr}
use Rattle.io_state.specs.declared.fault.Fault.{Fault}
use Rattle.page_store.specs.DeviceFile.{DeviceFile, content, page_of_bytes}
use Rattle.page_store.specs.Images.{IsSettled}
use Rattle.page_store.specs.Moments.{Throughout}
use Rattle.page_store.specs.Gate.{AllRefused, with_gate, WasOrRefused, ClosedOrRefused}
use Rattle.page_store.specs.PageFacts.{page_over}
use Rattle.page_store.specs.ShelfState.{ShelfState, unit_file, FileGoes, KeepsOthers, FaultHasCause}

-- where the shelf is honest after a read, these are the bytes that the unit's file had as page n before
abbrev pub WasPage : ℕ → ℕ → ShelfState → ShelfState → List ℕ → Type 0
WasPage unit n before after page = IsTrue after.is_honest → page
    ≡ page_of_bytes (content (unit_file before unit)) n

-- where the shelf is honest, these are the bytes of page n of the unit's file
abbrev pub HoldsPage : ℕ → ℕ → ShelfState → List ℕ → Type 0
HoldsPage unit n shelf page = IsTrue shelf.is_honest → page_of_bytes (content (unit_file shelf unit)) n ≡ page

-- these bytes as the header of the unit's file, with the gate that it has
abbrev pub header_with : ℕ → ShelfState → List ℕ → List ℕ
header_with unit shelf page = page_over 0 (content (unit_file shelf unit)) page

-- they were written so
abbrev pub HoldsHeader : ℕ → (before after : ShelfState) → List ℕ → Type 0
HoldsHeader unit before after page = HoldsPage unit 0 after (header_with unit before page)

-- at each moment a crash leaves what it could leave before, or a refused file
abbrev pub MayRefuse : ℕ → ShelfState → ShelfState → Type 0
MayRefuse unit before after = IsTrue after.is_honest
    → Throughout (WasOrRefused (unit_file before unit)) (unit_file before unit) (unit_file after unit)

-- at each moment a crash of a refused file leaves a refused file, or the closed content
abbrev pub MayClose : ℕ → ShelfState → ShelfState → Type 0
MayClose unit before after = IsTrue after.is_honest → AllRefused (unit_file before unit)
    → Throughout (ClosedOrRefused (unit_file before unit)) (unit_file before unit) (unit_file after unit)

-- the content with a closed gate, and a crash leaves nothing else
abbrev pub IsClosedAnew : DeviceFile → DeviceFile → Type 0
IsClosedAnew old new = (content new ≡ with_gate 67 (content old)) × IsSettled new

-- a call that opens the gate of this unit's file and changes no other file: at each moment a crash
-- leaves what it could leave before, or a refused file, and after a fault the file has gone so
pub record OpensGate {H X : Type 0} (state : H → ShelfState) (count : H → ℕ) (unit : ℕ)
    (Failed : DeviceFile → DeviceFile → Type 0) (before after : H) (result : Result X Fault) : Type 0 where
  pub images : MayRefuse unit (state before) (state after)
  pub failed : OnErr result (IsTrue (state after).is_honest
      → FileGoes unit (state before) (state after) Failed)
  pub others : KeepsOthers unit (state before) (state after)
  pub cause : FaultHasCause (count before) (count after) result
