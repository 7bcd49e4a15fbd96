use Rattle.std.proofs.Common.{◌≡◌, ◌<◌, ◌≤◌, length, drop, IfSome}
use Rattle.indexed_file.specs.Rank.{highest_of}
use Rattle.list_library.specs.Scans.{prime_value_at}
use Rattle.list_library.proofs.scan.highest.Given as goal

-- the best so far has the greatest prime value from the place on
abbrev pub invariant-loop-i : goal.invariant-loop-i
invariant-loop-i l = record {
  within : l.i ≤ length l.rows;
  bound : IfSome l.best (λ j. j < length l.rows);
  highest : prime_value_at l.schema l.rows l.best ≡ highest_of l.schema (drop l.i l.rows);
}

abbrev pub decreases-loop-i : goal.decreases-loop-i
decreases-loop-i l = l.i
