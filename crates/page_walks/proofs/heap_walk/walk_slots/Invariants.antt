use Rattle.std.proofs.Common.{◌≡◌, ◌-◌, List, ℕ, length}
use Rattle.record_heap.specs.declared.shape.Place.{Place}
use Rattle.pages.specs.PageList.{pages_in}
use Rattle.page_walks.specs.SlotMarks.{SameSlots}
use Rattle.page_walks.specs.SlotWalk.{FreeSlotsAhead, SlotsWalked}
use Rattle.record_heap.specs.Faults.{last_slot_place}
use Rattle.page_walks.proofs.heap_walk.walk_slots.Given as goal

abbrev pub invariant-loop : goal.invariant-loop
invariant-loop g l = record {
  walked : (list : List (List ℕ)) → g.P.PageSource.has l.pages list
      → (free : List Place) × SlotsWalked l.shape (pages_in list) l.fn.first l.at l.initial.marks l.marks free
      × (last_slot_place free ≡ l.from) × (length free ≡ l.counter);
  before : (list : List (List ℕ)) → g.P.PageSource.has l.pages list → g.P.PageSource.has l.initial.pages list;
  same : SameSlots l.initial.marks l.marks;
  ahead : (list : List (List ℕ)) → g.P.PageSource.has l.pages list
      → FreeSlotsAhead l.shape list l.fn.first l.initial.marks.slots l.initial.marks → FreeSlotsAhead l.shape list l.at (l.initial.marks.slots - l.counter) l.marks;
}
