use Rattle.std.proofs.Common.{take, flat_map}
use Rattle.deck_runner.specs.Line.{shown_byte}
use Rattle.record_text.specs.Json.{escaped}
use Rattle.record_text.specs.Room.{Grows}
use Rattle.record_text.proofs.json.add_bytes.Given as goal

abbrev pub invariant-loop-byte : goal.invariant-loop-byte
invariant-loop-byte l = Grows l.fn.text l.text (flat_map (λ byte. flat_map escaped (shown_byte byte)) (take l.byte-index l.bytes))
