use Rattle.std.proofs.Common.{rules, flat_map, get_or, alloc_error, refl}
use Rattle.deck_runner.specs.Line.{shown_byte}
use Rattle.record_text.specs.Json.{escaped}
use Rattle.record_text.proofs.TextLemmas.{refused, no_room}
use Rattle.record_text.proofs.json.add_bytes.Goals as goal

pub returns-in_err-add_byte : goal.returns-in_err-add_byte
returns-in_err-add_byte c =
    refused c.args.text.now _ _ _ alloc_error (search rules)
    (no_room (λ byte. flat_map escaped (shown_byte byte)) c.args.text.now c.loop-byte.text c.args.bytes.now c.loop-byte.byte-index 0 (get_or c.args.bytes.now c.loop-byte.byte-index 0) c.loop-byte-test.true refl c.loop-byte.invariant c.in_err-add_byte.ensures)
