use Rattle.std.proofs.Common.{rules, alloc_error}
use Rattle.record_text.specs.Csv.{doubled_quote}
use Rattle.record_text.proofs.TextLemmas.{in_quotes, no_room_in_quotes, refused}
use Rattle.record_text.proofs.csv.add_field.Goals as goal

pub returns-in_err-add_bytes : goal.returns-in_err-add_bytes
returns-in_err-add_bytes c =
    refused c.args.text.now _ _ _ alloc_error (search rules)
    (no_room_in_quotes doubled_quote c.args.bytes.now c.args.text.now c.add_char.new.text c.in_ok-add_char.ensures c.in_err-add_bytes.ensures)

pub returns : goal.returns
returns c = in_quotes doubled_quote c.args.bytes.now _ _ _ _ _ c.in_ok-add_char.ensures c.in_ok-add_bytes.ensures c.add_char-2.ensures
