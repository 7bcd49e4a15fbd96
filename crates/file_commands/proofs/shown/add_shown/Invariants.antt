use Rattle.std.proofs.Common.{◌≡◌, ◌++◌, take, flat_map}
use Rattle.deck_runner.specs.Line.{shown_byte}
use Rattle.file_commands.proofs.shown.add_shown.Given as goal

abbrev pub invariant-loop-byte : goal.invariant-loop-byte
invariant-loop-byte l = l.text.items ≡ l.fn.text.items ++ flat_map (shown_byte) (take l.byte-index l.bytes)
