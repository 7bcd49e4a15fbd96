use Rattle.std.proofs.Common.{◌≡◌, take}
use Rattle.std.specs.List.{list_all}
use Rattle.deck_runner.specs.Line.{is_plain}
use Rattle.deck_runner.proofs.line.are_plain.Given as goal

-- whether all bytes so far do
abbrev pub invariant-loop-byte : goal.invariant-loop-byte
invariant-loop-byte l = record {
  plain : l.plain ≡ list_all is_plain (take l.byte-index l.bytes);
}
