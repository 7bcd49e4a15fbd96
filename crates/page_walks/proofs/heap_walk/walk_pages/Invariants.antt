use Rattle.std.proofs.Common.{◌≡◌, ◌<◌, ◌^◌, length, List, ℕ}
use Rattle.pages.specs.PageList.{pages_in}
use Rattle.pages.specs.Marks.{marked_in}
use Rattle.record_heap.specs.Walk.{ChainAhead, PagesWalked}
use Rattle.record_heap.specs.Faults.{last_heap_page}
use Rattle.page_walks.proofs.heap_walk.walk_pages.Given as goal

abbrev pub invariant-loop : goal.invariant-loop
invariant-loop g l = record {
  walked : (list : List (List ℕ)) → g.P.PageSource.has l.pages list
      → PagesWalked (pages_in list) l.fn.first l.at (marked_in l.initial.reached) (marked_in l.reached) l.own.items;
  before : (list : List (List ℕ)) → g.P.PageSource.has l.pages list → g.P.PageSource.has l.initial.pages list;
  many : length l.own.items ≡ l.counter;
  low : l.at < 2 ^ 32;
  last : last_heap_page l.own.items ≡ l.from;
  long : length l.reached ≡ length l.initial.reached;
  ahead : (list : List (List ℕ)) → g.P.PageSource.has l.pages list
      → ChainAhead (pages_in list) l.fn.first l.initial.reached → ChainAhead (pages_in list) l.at l.reached;
}
