-- A heap that is built: its records fill one page after another, and the last page is in memory.
use Rattle.std.specs.Prelude.{◌≡◌, ◌≢◌, ◌≤◌, ◌<◌, ◌+◌, ℕ, ◌==◌, nat_lt, List, [], ◌∷◌, ◌++◌, length}
use Rattle.std.specs.Prelude.{Some, None, IsSome, IsTrue, Result, ⊤, if◌then◌else◌}
use Rattle.pages.specs.Each.{Each}
use Rattle.pages.specs.PageMap.{PageMap}
use Rattle.pages.specs.Owners.{ChangesPages}
use Rattle.pages.specs.PagesState.{PagesState}
use Rattle.pages.specs.ShownPages.{ShownPages}
use Rattle.pages.specs.PageCalls.{WritesPages}
use Rattle.pages.specs.Answer.{IsAnswer}
use Rattle.io_state.specs.declared.fault.Fault.{Fault}
use Rattle.record_heap.specs.declared.shape.SlotShape.{SlotShape}
use Rattle.record_heap.specs.declared.shape.Place.{Place}
use Rattle.record_heap.specs.declared.heap.Heap.{Heap}
use Rattle.record_heap.specs.declared.builder.HeapBuilder.{HeapBuilder}
use Rattle.record_heap.specs.Slot.{room}
use Rattle.record_heap.specs.Chain.{Slots, put_slot}
use Rattle.record_heap.specs.Order.{rising}
use Rattle.record_heap.specs.Standing.{HeapStands, heap_with}

-- the pages with these bytes in page n
abbrev pub with_page : PageMap → ℕ → List ℕ → PageMap
with_page pages n bytes m = if m == n then Some bytes else pages m

-- the slot behind the first ones of a page, so many; in page 0 where there is none
abbrev pub next_slot : SlotShape → ℕ → ℕ → Place
next_slot shape page used = if nat_lt used (room shape) then (record { page = page; slot = used })
    else (record { page = 0; slot = 0 })

-- the heap as it stands once its last page is written
abbrev pub built_heap : HeapBuilder → Heap
built_heap builder =
    heap_with builder.shape builder.first (next_slot builder.shape builder.first builder.used)

-- the shape of its slots
abbrev pub built_shape : HeapBuilder → SlotShape
built_shape builder = builder.shape

-- The places of records that fill these pages one after another: all slots of each page, but of the
-- page taken last, which stands first here, so many.
abbrev pub places_filled : ℕ → ℕ → List ℕ → List Place
places_filled room used [] = []
places_filled room used (n ∷ ns) = places_filled room room ns ++ rising n 0 used

-- these are the records of the builder, its pages, and its places in the order of the calls
pub record IsFilling (builder : HeapBuilder) (pages : PageMap) (slots : Slots) (own : List ℕ)
    (places : List Place) : Type 0 where
  pub stands : HeapStands (built_heap builder) (with_page pages builder.first builder.page) slots own
  pub live : Each (λ n. IsSome (pages n)) own
  pub some : Each (λ n. 1 ≤ n) own
  pub begun : builder.used < room builder.shape → 1 ≤ builder.first
  pub order : places ≡ places_filled (room builder.shape) builder.used own

-- it has these records at these places now, in pages of which those new to it were free; no other
-- page was taken
pub record FillsOn (before after : PagesState) (new : HeapBuilder) (slots : Slots) (own : List ℕ)
    (places : List Place) : Type 0 where
  pub own_now : List ℕ
  pub filling : IsFilling new after.live slots own_now places
  pub changes : ChangesPages before.live after.live own own_now
  pub taken : length own_now + after.available ≡ length own + before.available

-- a call that may write the page in memory: every other page in use is as it was, at a fault too
pub record Fills {X : Type 0} (old : HeapBuilder) (before after : PagesState) (result : Result X Fault)
    (Says : X → Type 0) : Type 0 where
  pub answer : IsAnswer result Says
  pub kept : (n : ℕ) → IsSome (before.live n) → n ≢ old.first → after.live n ≡ before.live n
  pub sound : IsTrue after.is_sound

-- what is so of each heap that the builder may stand for
abbrev pub WhereFilling : HeapBuilder → PagesState → PagesState
    → (Slots → List ℕ → List Place → Type 0) → Type 0
WhereFilling builder before after Says =
    IsTrue after.is_honest → IsTrue before.is_sound
    → (slots : Slots) (own : List ℕ) (places : List Place) → IsFilling builder before.live slots own places → Says slots own places

-- the page in memory is full, and no page can be taken
abbrev pub LacksPage : HeapBuilder → PagesState → Type 0
LacksPage builder pages = (room builder.shape ≤ builder.used) × (pages.available ≡ 0)

-- at most one page is taken, and none where the page in memory has room
pub record TakesIfFull (builder : HeapBuilder) (before after : PagesState) : Type 0 where
  pub few : before.available ≤ after.available + 1
  pub none : builder.used < room builder.shape → after.available ≡ before.available

-- a call that puts these bytes behind all others
pub record PushesRecord {S : Type 0} (shown : ShownPages S) (before after : S) (old new : HeapBuilder)
    (bytes : List ℕ) (result : Result Place Fault) : Type 0 where
  pub pushed : WhereFilling old (shown.state before) (shown.state after) (λ slots own places.
      Fills old (shown.state before) (shown.state after) result (λ place. (slots place ≡ None)
      × FillsOn (shown.state before) (shown.state after) new (put_slot slots place (Some bytes)) own
      (places ++ place ∷ [])))
  pub shape : new.shape ≡ old.shape
  pub few : TakesIfFull old (shown.state before) (shown.state after)
  pub writes : WritesPages shown 2 (LacksPage old (shown.state before)) before after result

-- a call that takes a page where the one in memory is full
pub record MakesSlot {S : Type 0} (shown : ShownPages S) (before after : S) (old new : HeapBuilder)
    (result : Result ⊤ Fault) : Type 0 where
  pub made : WhereFilling old (shown.state before) (shown.state after) (λ slots own places.
      Fills old (shown.state before) (shown.state after) result (λ done.
      FillsOn (shown.state before) (shown.state after) new slots own places))
  pub shape : new.shape ≡ old.shape
  pub few : TakesIfFull old (shown.state before) (shown.state after)
  pub writes : WritesPages shown 2 (LacksPage old (shown.state before)) before after result

-- these bytes stand behind all others, in the page in memory
pub record PutsRecord (old new : HeapBuilder) (bytes : List ℕ) (place : Place) : Type 0 where
  pub put : (pages : PageMap) (slots : Slots) (own : List ℕ) (places : List Place)
      → IsFilling old pages slots own places → (slots place ≡ None)
      × IsFilling new pages (put_slot slots place (Some bytes)) own (places ++ place ∷ [])
  pub shape : new.shape ≡ old.shape

-- the heap stands in pages that are its own
pub record StandsWritten (builder : HeapBuilder) (before after : PagesState) (slots : Slots)
    (own : List ℕ) : Type 0 where
  pub stands : HeapStands (built_heap builder) after.live slots own
  pub live : Each (λ n. IsSome (after.live n)) own
  pub changes : ChangesPages before.live after.live own own

-- a call that writes the page in memory
pub record WritesLastPage {S : Type 0} (shown : ShownPages S) (before after : S) (builder : HeapBuilder)
    (result : Result ⊤ Fault) : Type 0 where
  pub written : WhereFilling builder (shown.state before) (shown.state after) (λ slots own places.
      Fills builder (shown.state before) (shown.state after) result (λ done.
      StandsWritten builder (shown.state before) (shown.state after) slots own))
  pub available : (shown.state after).available ≡ (shown.state before).available
  pub writes : WritesPages shown 1 ⊥ before after result

-- the heap has these records, at these places in the order of the calls, and every page but the last
-- is full
pub record HasFilled (before after : PagesState) (heap : Heap) (slots : Slots) (own : List ℕ)
    (places : List Place) : Type 0 where
  pub stands : HeapStands heap after.live slots own
  pub changes : ChangesPages before.live after.live own own
  pub used : ℕ
  pub few : used ≤ room heap.shape
  pub order : places ≡ places_filled (room heap.shape) used own
  pub free : heap.free ≡ next_slot heap.shape heap.first used

-- a call that writes the last page of a heap that is built
pub record FinishesHeap {S : Type 0} (shown : ShownPages S) (before after : S) (builder : HeapBuilder)
    (result : Result Heap Fault) : Type 0 where
  pub finished : WhereFilling builder (shown.state before) (shown.state after) (λ slots own places.
      Fills builder (shown.state before) (shown.state after) result (λ heap.
      (heap.shape ≡ builder.shape)
      × HasFilled (shown.state before) (shown.state after) heap slots own places))
  pub available : (shown.state after).available ≡ (shown.state before).available
  pub writes : WritesPages shown 1 ⊥ before after result
