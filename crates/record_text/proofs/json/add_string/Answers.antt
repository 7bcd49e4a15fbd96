use Rattle.std.proofs.Common.{rules, alloc_error}
use Rattle.record_text.specs.Json.{escaped}
use Rattle.record_text.proofs.TextLemmas.{in_quotes, no_room_in_quotes, refused}
use Rattle.record_text.proofs.json.add_string.Goals as goal

pub returns-in_err-add_bytes : goal.returns-in_err-add_bytes
returns-in_err-add_bytes c =
    refused c.args.text.now _ _ _ alloc_error (search rules)
    (no_room_in_quotes escaped c.args.bytes.now c.args.text.now c.add_char.new.text c.in_ok-add_char.ensures c.in_err-add_bytes.ensures)

pub returns : goal.returns
returns c = in_quotes escaped c.args.bytes.now _ _ _ _ _ c.in_ok-add_char.ensures c.in_ok-add_bytes.ensures c.add_char-2.ensures
