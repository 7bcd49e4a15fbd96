-- What the calls on one page require and ensure.
use Rattle.std.specs.Prelude.{◌≡◌, ◌≢◌, ℕ, ◌+◌, ◌≤◌, ◌<◌, List, [], ◌++◌, length, drop, Option, Some, IsTrue}
use Rattle.std.specs.Prelude.{Result, IfOk, OnErr}
use Rattle.std.specs.Option.{option_map_or}
use Rattle.pages.specs.PageMap.{PageMap}
use Rattle.pages.specs.PagesState.{PagesState}
use Rattle.pages.specs.Answer.{IsAnswer}
use Rattle.pages.specs.ShownPages.{ShownPages}
use Rattle.pages.specs.PageCalls.{ReadsPages, WritesPages}
use Rattle.io_state.specs.declared.fault.Fault.{Fault}
use Rattle.record_heap.specs.declared.shape.SlotShape.{SlotShape}
use Rattle.record_heap.specs.declared.shape.Place.{Place}
use Rattle.record_heap.specs.Slot.{room, used_in, behind_in, FitsSlot}
use Rattle.record_heap.specs.Slots.{slot_at, IsHeapPage}

-- the bytes of the slot at a place
abbrev pub slot_of : SlotShape → PageMap → Place → List ℕ
slot_of shape pages p = option_map_or (λ page. slot_at shape page p.slot) (pages p.page) []

-- the stamps and the record at a place in use
abbrev pub used_at : SlotShape → PageMap → Place → Option (List ℕ)
used_at shape pages p = used_in shape (slot_of shape pages p)

-- the free slot behind that at a place
abbrev pub behind_at : SlotShape → PageMap → Place → Option Place
behind_at shape pages p = behind_in (slot_of shape pages p)

-- page n is a heap page in use, and this is the next one
pub record IsHeapAt (pages : PageMap) (n next : ℕ) : Type 0 where
  pub bytes : List ℕ
  pub there : pages n ≡ Some bytes
  pub heap : IsHeapPage next bytes

-- The slot at a place has other bytes now, of which P holds; its page is a heap page still. Every
-- other slot and every other page is as it was.
pub record RewritesSlot (shape : SlotShape) (before after : PageMap) (place : Place) (P : List ℕ
    → Type 0) : Type 0 where
  pub is : P (slot_of shape after place)
  pub heap : (next : ℕ) → IsHeapAt before place.page next → IsHeapAt after place.page next
  pub others : (q : Place) → q ≢ place → slot_of shape after q ≡ slot_of shape before q
  pub pages : (n : ℕ) → n ≢ place.page → after n ≡ before n

-- a call that rewrites the slot at a place of a heap page
abbrev pub Rewriting : {X : Type 0} → SlotShape → Place → (X → List ℕ → Type 0) → PagesState → PagesState
    → Result X Fault → Type 0
Rewriting shape place P before after result =
    IsTrue after.is_honest → IsTrue before.is_sound → (next : ℕ) → IsHeapAt before.live place.page next
    → place.slot < room shape
    → IsAnswer result (λ x. RewritesSlot shape before.live after.live place (P x) × IsTrue after.is_sound)

-- a call that makes a slot free, with another behind it
abbrev pub Linking : {X : Type 0} → SlotShape → Place → Place → PagesState → PagesState → Result X Fault → Type 0
Linking shape place next before after result = Rewriting shape place
    (λ x slot. behind_in slot ≡ Some next) before after result

-- a call that puts these bytes into a slot
abbrev pub Filling : {X : Type 0} → SlotShape → Place → List ℕ → PagesState → PagesState → Result X Fault → Type 0
Filling shape place bytes before after result = Rewriting shape place
    (λ x slot. used_in shape slot ≡ Some bytes) before after result

-- a call that rewrites a free slot, and answers the place of the one behind it
abbrev pub Refilling : SlotShape → Place → List ℕ → PagesState → PagesState → Result Place Fault → Type 0
Refilling shape place bytes before after result =
    (behind : Place) → behind_at shape before.live place ≡ Some behind
    → Rewriting shape place (λ x slot. (x ≡ behind) × (used_in shape slot ≡ Some bytes)) before after result

-- n bytes stand in the front of what was there
pub record IsFront (n : ℕ) (bytes old new : List ℕ) : Type 0 where
  pub long : n ≡ length bytes
  pub front : new ≡ bytes ++ drop (length bytes) old

-- the answer of a call that reads a slot of a heap page: its length, and its bytes at the front of `to`
abbrev pub Gets : SlotShape → Place → PageMap → List ℕ → List ℕ → Result ℕ Fault → Type 0
Gets shape place pages old new result =
    (next : ℕ) → IsHeapAt pages place.page next → place.slot < room shape → (bytes : List ℕ)
    → used_at shape pages place ≡ Some bytes
    → IsAnswer result (λ n. (n ≡ length bytes) × (new ≡ bytes ++ drop (length bytes) old))

-- the answer of a call that reads the record of a slot: its length, and its bytes at the front of `to`
abbrev pub GetsRecord : SlotShape → Place → PageMap → List ℕ → List ℕ → Result ℕ Fault → Type 0
GetsRecord shape place pages old new result =
    (next : ℕ) → IsHeapAt pages place.page next → place.slot < room shape → (bytes : List ℕ)
    → used_at shape pages place ≡ Some bytes
    → IsAnswer result (λ n. IsFront n (drop shape.stamps bytes) old new)

-- what a call that reads a slot leaves in `to`, whatever the pages hold: the answer is a length
-- that the heap has, and at a fault nothing has changed
pub record FillsFront (shape : SlotShape) (old new : List ℕ) (result : Result ℕ Fault) : Type 0 where
  pub least : IfOk result (λ n. shape.stamps + shape.least ≤ n)
  pub greatest : IfOk result (λ n. n ≤ shape.stamps + shape.greatest)
  pub long : length new ≡ length old
  pub kept : OnErr result (new ≡ old)

-- calls may be made, and pages changed
pub record MayChange {S : Type 0} (shown : ShownPages S) (pages : S) : Type 0 where
  pub ready : shown.IsReady pages
  pub gate : shown.CanChange pages

-- pages may be changed, and a slot takes these stamps and this record
pub record MayFill {S : Type 0} (shown : ShownPages S) (pages : S) (shape : SlotShape)
    (before behind : List ℕ) : Type 0 where
  pub ready : shown.IsReady pages
  pub gate : shown.CanChange pages
  pub fits : FitsSlot shape before behind

-- pages may be read, and `to` takes so many bytes
pub record MayReadTo {S : Type 0} (shown : ShownPages S) (pages : S) (most : ℕ) (to : List ℕ) : Type 0 where
  pub ready : shown.IsReady pages
  pub room : most ≤ length to

-- a call that reads the stamps and the record of a slot to the front of `to`; `Reads` is said of
-- the pages in use where no wrong answer was taken
pub record ReadsStamped {S : Type 0} (shown : ShownPages S) (before after : S) (shape : SlotShape)
    (old new : List ℕ) (result : Result ℕ Fault) (Reads : PageMap → List ℕ → List ℕ → Result ℕ Fault
    → Type 0) : Type 0 where
  pub got : IsTrue (shown.state after).is_honest → Reads (shown.state before).live old new result
  pub front : FillsFront shape old new result
  pub reads : ReadsPages shown 1 before after result

-- a call that reads the record of a slot, without its stamps
pub record ReadsUnstamped {S : Type 0} (shown : ShownPages S) (before after : S) (shape : SlotShape)
    (old new : List ℕ) (result : Result ℕ Fault) (Reads : PageMap → List ℕ → List ℕ → Result ℕ Fault
    → Type 0) : Type 0 where
  pub got : IsTrue (shown.state after).is_honest → Reads (shown.state before).live old new result
  pub greatest : IfOk result (λ n. n ≤ shape.greatest)
  pub kept : OnErr result (new ≡ old)
  pub reads : ReadsPages shown 1 before after result

-- a call that changes one slot, and takes no page
pub record ChangesSlot {S X : Type 0} (shown : ShownPages S) (before after : S) (result : Result X Fault)
    (Changes : PagesState → PagesState → Result X Fault → Type 0) : Type 0 where
  pub changed : Changes (shown.state before) (shown.state after) result
  pub available : (shown.state after).available ≡ (shown.state before).available
  pub writes : WritesPages shown 1 ⊥ before after result
