use Rattle.std.proofs.Common.{◌≡◌, ◌-◌, length, List, ℕ}
use Rattle.pages.specs.Marks.{marked_in}
use Rattle.page_walks.specs.FreeWalk.{FreeAhead, FreeFront}
use Rattle.page_walks.proofs.free_walk.walk_free.Given as goal

abbrev pub invariant-loop : goal.invariant-loop
invariant-loop g l = record {
  front : (list : List (List ℕ)) → g.P.PageSource.has l.pages list
      → FreeFront list l.fn.first l.from l.at l.counter (marked_in l.initial.reached) (marked_in l.reached);
  ahead : (list : List (List ℕ)) → g.P.PageSource.has l.pages list
      → FreeAhead list l.fn.first l.fn.count l.initial.reached → FreeAhead list l.at (l.fn.count - l.counter) l.reached;
  before : (list : List (List ℕ)) → g.P.PageSource.has l.pages list → g.P.PageSource.has l.initial.pages list;
  long : length l.reached ≡ length l.initial.reached;
}
