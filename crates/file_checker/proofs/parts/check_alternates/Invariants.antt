use Rattle.std.proofs.Common.{◌≡◌, ℕ, true, List, length}
use Rattle.pages.specs.Marks.{marked_in}
use Rattle.file_checker.specs.Later.{IsMarkedBefore}
use Rattle.page_walks.specs.Spots.{spots_in}
use Rattle.file_checker.specs.Ahead.{AlternatesAhead}
use Rattle.file_checker.specs.Parts.{AlternatesFound}
use Rattle.file_checker.proofs.parts.check_alternates.Given as goal

-- the indexes so far were found, and where all stand, those behind them are to be found yet
abbrev pub invariant-loop-index : goal.invariant-loop-index
invariant-loop-index g l = record {
  found : (list : List (List ℕ)) → g.P.PageSource.has l.pages list
      → AlternatesFound l.file list (spots_in l.primes) l.index-index (marked_in l.initial.reached) (marked_in l.reached);
  reached : (list : List (List ℕ)) → g.P.PageSource.has l.pages list
      → (n : ℕ) → marked_in l.reached n ≡ true → IsMarkedBefore l.file list l.initial.reached l.index-index n;
  before : (list : List (List ℕ)) → g.P.PageSource.has l.pages list → g.P.PageSource.has l.initial.pages list;
  long : length l.reached ≡ length l.initial.reached;
  ahead : (list : List (List ℕ)) → g.P.PageSource.has l.pages list
      → AlternatesAhead l.file list l.primes 0 l.initial.reached → AlternatesAhead l.file list l.primes l.index-index l.reached;
}
