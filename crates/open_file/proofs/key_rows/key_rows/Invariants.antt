use Rattle.std.proofs.Common.{◌≡◌, ◌++◌, ◌*◌, length, drop}
use Rattle.open_file.proofs.KeyRowLemmas.{key_rows_bytes}
use Rattle.open_file.proofs.key_rows.key_rows.Given as goal

abbrev pub invariant-loop-k : goal.invariant-loop-k
invariant-loop-k l =
    (l.rows.items ++ key_rows_bytes (drop l.k l.keys) (drop l.k l.trees) ≡ key_rows_bytes l.keys l.trees)
    × (length l.rows.items ≡ 16 * l.k)
