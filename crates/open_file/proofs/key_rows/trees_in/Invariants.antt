use Rattle.std.proofs.Common.{◌≡◌, length, map}
use Rattle.open_file.specs.FirstPageReading.{tree_in, key_rows_in}
use Rattle.open_file.proofs.key_rows.trees_in.Given as goal

abbrev pub invariant-loop-k : goal.invariant-loop-k
invariant-loop-k l = (l.trees.items ≡ map tree_in (key_rows_in l.page l.k)) × (length l.trees.items ≡ l.k)
