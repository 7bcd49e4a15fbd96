use Rattle.std.proofs.Common.{◌≤◌, List, ℕ, length, take}
use Rattle.std.specs.Prelude.{filter}
use Rattle.salvaged_records.specs.Leaves.{is_entry_of, leaf_entries_in}
use Rattle.salvaged_records.specs.Values.{HasValues}
use Rattle.salvaged_records.proofs.leaves.leaf_entries.Given as goal

abbrev pub invariant-loop-n : goal.invariant-loop-n
invariant-loop-n g l = record {
  within : (list : List (List ℕ)) → g.P.PageSource.has l.pages list → l.n ≤ length list;
  entries : (list : List (List ℕ)) → g.P.PageSource.has l.pages list → HasValues l.entries (filter (is_entry_of l.fn.values) (leaf_entries_in l.fn.shape (take l.n list)));
  before : (list : List (List ℕ)) → g.P.PageSource.has l.pages list → g.P.PageSource.has l.fn.pages list;
}
