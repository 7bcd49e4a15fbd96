use Rattle.std.proofs.Common.{List, ℕ}
use Rattle.file_reports.specs.Statistics.{HasFileStanding, KeysCounted}
use Rattle.file_reports.proofs.counting.count_keys.Given as goal

abbrev pub invariant-loop-index : goal.invariant-loop-index
invariant-loop-index g l = record {
  counted : (list : List (List ℕ)) → g.P.PageSource.has l.pages list → HasFileStanding l.fn.file list → KeysCounted l.fn.file list l.index-index l.keys.items;
  before : (list : List (List ℕ)) → g.P.PageSource.has l.pages list → g.P.PageSource.has l.initial.pages list;
}
