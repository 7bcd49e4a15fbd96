use Rattle.std.proofs.Common.{◌≡◌, length, map}
use Rattle.open_file.specs.FirstPageReading.{part_in, key_rows_in}
use Rattle.open_file.proofs.key_rows.parts_in.Given as goal

abbrev pub invariant-loop-k : goal.invariant-loop-k
invariant-loop-k l = (l.parts.items ≡ map part_in (key_rows_in l.page l.k)) × (length l.parts.items ≡ l.k)
