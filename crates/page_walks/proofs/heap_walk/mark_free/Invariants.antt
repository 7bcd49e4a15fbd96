use Rattle.std.proofs.Common.{take, List, ℕ}
use Rattle.pages.specs.PageList.{pages_in}
use Rattle.page_walks.specs.SlotMarks.{SameSlots}
use Rattle.page_walks.specs.SlotWalk.{AreMarked}
use Rattle.page_walks.proofs.heap_walk.mark_free.Given as goal

abbrev pub invariant-loop-n : goal.invariant-loop-n
invariant-loop-n g l = record {
  marked : (list : List (List ℕ)) → g.P.PageSource.has l.pages list → AreMarked l.shape (pages_in list) (take l.n-index l.own) l.marks;
  before : (list : List (List ℕ)) → g.P.PageSource.has l.pages list → g.P.PageSource.has l.initial.pages list;
  same : SameSlots l.initial.marks l.marks;
}
