use Rattle.std.proofs.Common.{◌-◌, ◌≡◌, ◌+◌, ◌<◌, ◌≤◌, length, ℕ, List}
use Rattle.file_checker.specs.Search.{EndsBefore, EndsFrom, leaf_at}
use Rattle.file_checker.proofs.entry.leaves_before.Given as goal

abbrev pub invariant-halve : goal.invariant-halve
invariant-halve g l = record {
  low : l.low ≤ l.high;
  high : l.high ≤ length l.primes;
  before : (list : List (List ℕ)) → g.P.PageSource.has l.pages list → (k : ℕ) → l.low ≡ k + 1 → EndsBefore l.file list l.value (leaf_at l.primes k);
  from : (list : List (List ℕ)) → g.P.PageSource.has l.pages list → l.high < length l.primes → EndsFrom l.file list l.value (leaf_at l.primes l.high);
  back : (list : List (List ℕ)) → g.P.PageSource.has l.pages list → g.P.PageSource.has l.initial.pages list;
}

abbrev pub decreases-halve : goal.decreases-halve
decreases-halve g l = l.high - l.low
