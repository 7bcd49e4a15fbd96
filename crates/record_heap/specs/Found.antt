-- What the calls of a heap ensure.
use Rattle.std.specs.Prelude.{◌≡◌, ◌≢◌, ◌≤◌, ◌+◌, ℕ, List, Option, Some, None, IsSome, IsTrue, Result, ◌++◌}
use Rattle.std.specs.Prelude.{drop, length, ⊤}
use Rattle.pages.specs.PageMap.{PageMap}
use Rattle.pages.specs.Owners.{ChangesPages}
use Rattle.pages.specs.PagesState.{PagesState}
use Rattle.pages.specs.ShownPages.{ShownPages}
use Rattle.io_state.specs.declared.fault.Fault.{Fault}
use Rattle.record_heap.specs.declared.shape.Place.{Place}
use Rattle.record_heap.specs.declared.heap.Heap.{Heap}
use Rattle.record_heap.specs.Chain.{Slots, put_slot}
use Rattle.pages.specs.Answer.{IsAnswer}
use Rattle.record_heap.specs.Standing.{HeapStands}
use Rattle.record_heap.specs.Calls.{IsFront}

-- the heap has these slots now, in pages of which those new to it were free
pub record HeapHas (before after : PageMap) (new : Heap) (own : List ℕ) (slots : Slots) : Type 0 where
  pub own_now : List ℕ
  pub stands : HeapStands new after slots own_now
  pub changes : ChangesPages before after own own_now

-- the stamps and the record at a place, read to the front of `to`
abbrev pub Got : Heap → Place → PageMap → List ℕ → List ℕ → Result ℕ Fault → Type 0
Got heap place pages old new result =
    (slots : Slots) (own : List ℕ) (bytes : List ℕ) → HeapStands heap pages slots own
    → slots place ≡ Some bytes
    → IsAnswer result (λ n. (n ≡ length bytes) × (new ≡ bytes ++ drop (length bytes) old))

-- the record at a place, without its stamps, read to the front of `to`
abbrev pub GotRecord : Heap → Place → PageMap → List ℕ → List ℕ → Result ℕ Fault → Type 0
GotRecord heap place pages old new result =
    (slots : Slots) (own : List ℕ) (bytes : List ℕ) → HeapStands heap pages slots own
    → slots place ≡ Some bytes
    → IsAnswer result (λ n. IsFront n (drop heap.shape.stamps bytes) old new)

-- a place that was free holds these stamps and this record now
abbrev pub Adds : PagesState → PagesState → Heap → Heap → List ℕ → Result Place Fault → Type 0
Adds before after old new bytes result =
    IsTrue after.is_honest → IsTrue before.is_sound → (slots : Slots) (own : List ℕ)
    → HeapStands old before.live slots own
    → IsAnswer result (λ place. (slots place ≡ None)
    × HeapHas before.live after.live new own (put_slot slots place (Some bytes)) × IsTrue after.is_sound)

-- at most one page is taken, and none where a slot is free
pub record TakesFew (heap : Heap) (before after : PagesState) : Type 0 where
  pub few : before.available ≤ after.available + 1
  pub none : heap.free.page ≢ 0 → after.available ≡ before.available

-- pages may be changed, and no slot is free
pub record MayGrow {S : Type 0} (shown : ShownPages S) (pages : S) (heap : Heap) : Type 0 where
  pub ready : shown.IsReady pages
  pub gate : shown.CanChange pages
  pub none : heap.free.page ≡ 0

-- no slot is free, and no page can be taken
abbrev pub LacksSlot : Heap → PagesState → Type 0
LacksSlot heap pages = (heap.free.page ≡ 0) × (pages.available ≡ 0)

-- the heap has a free slot now, and the records that it had
abbrev pub MakesRoom : PagesState → PagesState → Heap → Heap → Result ⊤ Fault → Type 0
MakesRoom before after old new result =
    IsTrue after.is_honest → IsTrue before.is_sound → (slots : Slots) (own : List ℕ)
    → HeapStands old before.live slots own
    → IsAnswer result (λ u. HeapHas before.live after.live new own slots × (1 ≤ new.free.page)
    × IsTrue after.is_sound)

-- the slot of a place in use holds this now, or is free
abbrev pub Sets : {X : Type 0} → PagesState → PagesState → Heap → Heap → Place → Option (List ℕ)
    → Result X Fault → Type 0
Sets before after old new place bytes result =
    IsTrue after.is_honest → IsTrue before.is_sound → (slots : Slots) (own : List ℕ)
    → HeapStands old before.live slots own → IsSome (slots place)
    → IsAnswer result (λ u. HeapHas before.live after.live new own (put_slot slots place bytes)
    × IsTrue after.is_sound)
