use Rattle.page_walks.specs.SlotMarks.{SameSlots}
use Rattle.page_walks.specs.SlotWalk.{PageMarked}
use Rattle.page_walks.proofs.heap_walk.mark_page.Given as goal

abbrev pub invariant-loop-i : goal.invariant-loop-i
invariant-loop-i l = record {
  marked : PageMarked l.shape l.page l.n l.i l.initial.marks l.marks;
  same : SameSlots l.initial.marks l.marks;
}
