use Rattle.std.proofs.Common.{◌≡◌, drop}
use Rattle.salvaged_records.specs.Filter.{number_from, filter_number}
use Rattle.salvaged_records.proofs.filter.filter_number.Given as goal

abbrev pub invariant-loop-byte : goal.invariant-loop-byte
invariant-loop-byte l = number_from l.number (drop l.byte-index l.fn.value) ≡ filter_number l.fn.value
