use Rattle.std.proofs.Common.{take, List, ℕ}
use Rattle.page_walks.specs.Rows.{AreFew, entries_in_row}
use Rattle.page_walks.specs.Runs.{values_of, AreTogether, RunOf}
use Rattle.page_walks.proofs.runs.longest_run.Given as goal

abbrev pub invariant-loop-n : goal.invariant-loop-n
invariant-loop-n g l = record {
  counted : (list : List (List ℕ)) → g.P.PageSource.has l.pages list → AreFew l.shape list l.leaves → AreTogether (values_of l.width (entries_in_row l.shape list l.leaves))
      → RunOf (values_of l.width (entries_in_row l.shape list (take l.n-index l.leaves))) l.run;
  before : (list : List (List ℕ)) → g.P.PageSource.has l.pages list → g.P.PageSource.has l.initial.pages list;
}
