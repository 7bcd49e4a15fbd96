use Rattle.std.proofs.Common.{List}
use Rattle.std.proofs.Common.{ℕ, ◌<◌, slice_index_or}
use Rattle.pages.specs.Each.{Each}
use Rattle.page_walks.specs.declared.leaf.Leaf.{Leaf}
use Rattle.page_walks.specs.Spots.{spots_below}
use Rattle.file_checker.specs.Leading.{LeadsToRow}
use Rattle.file_checker.proofs.prime_rows.check_leaves.Given as goal

-- the leaves so far were found
abbrev pub invariant-loop-leaf : goal.invariant-loop-leaf
invariant-loop-leaf g l = record {
  each : (list : List (List ℕ)) → g.P.PageSource.has l.pages list → (k : ℕ) (d : Leaf) → k < l.leaf-index → Each (LeadsToRow l.file list l.marks) (spots_below (slice_index_or l.primes k d).page (slice_index_or l.primes k d).count);
  back : (list : List (List ℕ)) → g.P.PageSource.has l.pages list → g.P.PageSource.has l.initial.pages list;
}
