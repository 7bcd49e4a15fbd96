use Rattle.std.proofs.Common.{List, ℕ}
use Rattle.pages.specs.Each.{Each}
use Rattle.page_walks.specs.Spots.{spots_below}
use Rattle.file_checker.specs.Leading.{LeadsToRow}
use Rattle.file_checker.proofs.prime_rows.check_leaf.Given as goal

abbrev pub invariant-loop-place : goal.invariant-loop-place
invariant-loop-place g l = record {
  each : (list : List (List ℕ)) → g.P.PageSource.has l.pages list → Each (LeadsToRow l.file list l.marks) (spots_below l.fn.leaf.page l.place);
  back : (list : List (List ℕ)) → g.P.PageSource.has l.pages list → g.P.PageSource.has l.initial.pages list;
}
