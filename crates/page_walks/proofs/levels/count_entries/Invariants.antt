use Rattle.std.proofs.Common.{◌≡◌, ◌+◌, length, drop, List, ℕ}
use Rattle.page_walks.specs.Rows.{AreFew, entries_in_row}
use Rattle.page_walks.proofs.levels.count_entries.Given as goal

abbrev pub invariant-loop-n : goal.invariant-loop-n
invariant-loop-n g l = record {
  counted : (list : List (List ℕ)) → g.P.PageSource.has l.pages list → AreFew l.shape list l.leaves
      → l.entries + length (entries_in_row l.shape list (drop l.n-index l.leaves)) ≡ length (entries_in_row l.shape list l.leaves);
  before : (list : List (List ℕ)) → g.P.PageSource.has l.pages list → g.P.PageSource.has l.initial.pages list;
}
