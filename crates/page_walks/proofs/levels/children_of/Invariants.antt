use Rattle.std.proofs.Common.{◌≡◌, take, List, ℕ}
use Rattle.page_walks.specs.Rows.{children_in}
use Rattle.page_walks.proofs.levels.children_of.Given as goal

abbrev pub invariant-loop-n : goal.invariant-loop-n
invariant-loop-n g l = record {
  below : (list : List (List ℕ)) → g.P.PageSource.has l.pages list → l.below.items ≡ children_in l.shape list (take l.n-index l.row);
  before : (list : List (List ℕ)) → g.P.PageSource.has l.pages list → g.P.PageSource.has l.initial.pages list;
}
