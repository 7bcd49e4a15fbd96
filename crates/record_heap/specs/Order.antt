-- The order of a heap's chains: which free slot is taken next, and where a new page stands.
use Rattle.std.specs.Prelude.{◌≡◌, ℕ, zero, suc, List, [], ◌∷◌, ◌++◌, IsSome, IsTrue, Option, Result, IfOk}
use Rattle.std.specs.Prelude.{OnOk, ⊤}
use Rattle.pages.specs.PageMap.{PageMap}
use Rattle.pages.specs.PagesState.{PagesState}
use Rattle.pages.specs.ShownPages.{ShownPages}
use Rattle.pages.specs.PageCalls.{WritesPages}
use Rattle.io_state.specs.declared.fault.Fault.{Fault}
use Rattle.record_heap.specs.declared.shape.SlotShape.{SlotShape}
use Rattle.record_heap.specs.declared.shape.Place.{Place}
use Rattle.record_heap.specs.declared.heap.Heap.{Heap}
use Rattle.record_heap.specs.Slot.{room}
use Rattle.record_heap.specs.Chain.{Slots, AreOnce, IsFreeChain}
use Rattle.record_heap.specs.Calls.{behind_at}
use Rattle.record_heap.specs.Found.{Adds, Sets, MakesRoom, TakesFew, LacksSlot}
use Rattle.record_heap.specs.Standing.{IsPageChain, HeapStands}

-- so many places of page n in rising order, from slot i on
abbrev pub rising : ℕ → ℕ → ℕ → List Place
rising n i zero = []
rising n i (suc k) = (record { page = n; slot = i }) ∷ rising n (suc i) k

-- these are the free slots of the heap, and these its pages, in the order of their chains
pub record HasChains (heap : Heap) (pages : PageMap) (free : List Place) (own : List ℕ) : Type 0 where
  pub free_chain : IsFreeChain (behind_at heap.shape pages) heap.free free
  pub once : AreOnce free
  pub page_chain : IsPageChain pages heap.first own

-- the free slots, or where there are none, those of the new page n
abbrev pub free_or_new : SlotShape → ℕ → List Place → List Place
free_or_new shape n [] = rising n 0 (room shape)
free_or_new shape n (p ∷ ps) = p ∷ ps

-- the pages, behind the new page n where no slot is free
abbrev pub own_or_new : ℕ → List Place → List ℕ → List ℕ
own_or_new n [] own = n ∷ own
own_or_new n (p ∷ ps) own = own

-- the place is the first of the free slots, or where there are none, of those of a new page before
-- the others; the slots behind it are free
pub record TakesFirst (old new : Heap) (after : PageMap) (own : List ℕ) (free : List Place)
    (place : Place) : Type 0 where
  pub rest : List Place
  pub first : place ∷ rest ≡ free_or_new old.shape place.page free
  pub chains : HasChains new after rest (own_or_new place.page free own)

-- a call that takes the first free slot, and a new page only where no slot is free
abbrev pub AddsInOrder : PagesState → PagesState → Heap → Heap → Result Place Fault → Type 0
AddsInOrder before after old new result =
    IsTrue after.is_honest → IsTrue before.is_sound
    → (slots : Slots) (own : List ℕ) (stands : HeapStands old before.live slots own)
    → IfOk result (TakesFirst old new after.live own stands.keeps.free)

-- a call that takes a new page only where no slot is free, and puts it before the others, with all
-- its slots free
abbrev pub MakesRoomInOrder : PagesState → PagesState → Heap → Heap → Result ⊤ Fault → Type 0
MakesRoomInOrder before after old new result =
    IsTrue after.is_honest → IsTrue before.is_sound
    → (slots : Slots) (own : List ℕ) (stands : HeapStands old before.live slots own)
    → OnOk result (HasChains new after.live (free_or_new old.shape new.free.page stands.keeps.free)
    (own_or_new new.free.page stands.keeps.free own))

-- a call at a place in use that puts these slots before the free ones, and leaves the order else
abbrev pub SetsInOrder : {X : Type 0} → PagesState → PagesState → Heap → Heap → Place → List Place
    → Result X Fault → Type 0
SetsInOrder before after old new place freed result =
    IsTrue after.is_honest → IsTrue before.is_sound
    → (slots : Slots) (own : List ℕ) (stands : HeapStands old before.live slots own)
    → IsSome (slots place)
    → OnOk result (HasChains new after.live (freed ++ stands.keeps.free) own)

-- a call that puts these bytes into the first free slot, and takes a new page where there is none
pub record AddsToHeap {S : Type 0} (shown : ShownPages S) (before after : S) (old new : Heap)
    (bytes : List ℕ) (result : Result Place Fault) : Type 0 where
  pub added : Adds (shown.state before) (shown.state after) old new bytes result
  pub shape : new.shape ≡ old.shape
  pub few : TakesFew old (shown.state before) (shown.state after)
  pub writes : WritesPages shown 3 (LacksSlot old (shown.state before)) before after result
  pub order : AddsInOrder (shown.state before) (shown.state after) old new result

-- a call at a place in use that leaves this in its slot, and puts these slots before the free ones;
-- no page is taken
pub record SetsSlot {S X : Type 0} (shown : ShownPages S) (before after : S) (old new : Heap)
    (place : Place) (bytes : Option (List ℕ)) (freed : List Place) (result : Result X Fault) : Type 0 where
  pub set : Sets (shown.state before) (shown.state after) old new place bytes result
  pub shape : new.shape ≡ old.shape
  pub available : (shown.state after).available ≡ (shown.state before).available
  pub writes : WritesPages shown 1 ⊥ before after result
  pub order : SetsInOrder (shown.state before) (shown.state after) old new place freed result

-- a call that takes a new page where no slot is free
pub record MakesFreeSlot {S : Type 0} (shown : ShownPages S) (before after : S) (old new : Heap)
    (result : Result ⊤ Fault) : Type 0 where
  pub room : MakesRoom (shown.state before) (shown.state after) old new result
  pub shape : new.shape ≡ old.shape
  pub few : TakesFew old (shown.state before) (shown.state after)
  pub writes : WritesPages shown 2 (LacksSlot old (shown.state before)) before after result
  pub order : MakesRoomInOrder (shown.state before) (shown.state after) old new result
