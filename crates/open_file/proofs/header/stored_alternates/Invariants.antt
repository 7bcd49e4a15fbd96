use Rattle.std.proofs.Common.{◌≡◌, ◌+◌, length}
use Rattle.open_file.specs.Headers.{AreStored}
use Rattle.open_file.proofs.header.stored_alternates.Given as goal

abbrev pub invariant-loop-k : goal.invariant-loop-k
invariant-loop-k l = record {
  each : AreStored l.header l.alternates.items;
  many : length l.alternates.items + 1 ≡ l.k;
}
