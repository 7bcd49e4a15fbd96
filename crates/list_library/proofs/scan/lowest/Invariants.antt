use Rattle.std.proofs.Common.{◌≡◌, ◌<◌, ◌≤◌, length, filter, drop, IfSome}
use Rattle.indexed_file.specs.Rank.{lowest}
use Rattle.list_library.specs.Wanted.{is_wanted}
use Rattle.list_library.specs.Scans.{row_of_place}
use Rattle.list_library.proofs.scan.lowest.Given as goal

-- the best so far is the lowest from the place on
abbrev pub invariant-loop-i : goal.invariant-loop-i
invariant-loop-i l = record {
  within : l.i ≤ length l.rows;
  bound : IfSome l.best (λ j. j < length l.rows);
  lowest : row_of_place l.rows l.best ≡ lowest l.schema l.k (filter (is_wanted l.schema l.k l.wanted) (drop l.i l.rows));
}

abbrev pub decreases-loop-i : goal.decreases-loop-i
decreases-loop-i l = l.i
