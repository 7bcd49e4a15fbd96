use Rattle.std.proofs.Common.{List, ℕ}
use Rattle.pages.specs.Each.{Each}
use Rattle.page_walks.specs.Spots.{spots_below, spots_in}
use Rattle.file_checker.specs.Leading.{HasRow}
use Rattle.file_checker.proofs.alternate.check_leaf.Given as goal

abbrev pub invariant-loop-place : goal.invariant-loop-place
invariant-loop-place g l = record {
  each : (list : List (List ℕ)) → g.P.PageSource.has l.pages list → Each (HasRow l.file list (spots_in l.primes) l.index) (spots_below l.fn.leaf.page l.place);
  back : (list : List (List ℕ)) → g.P.PageSource.has l.pages list → g.P.PageSource.has l.initial.pages list;
}
