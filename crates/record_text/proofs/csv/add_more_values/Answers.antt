use Rattle.std.proofs.Common.{rules, ◌∷◌, [], alloc_error}
use Rattle.record_text.specs.Columns.{column_value}
use Rattle.record_text.specs.Csv.{field}
use Rattle.record_text.proofs.TextLemmas.{lacks_behind, lacks_more, refused, no_room}
use Rattle.record_text.proofs.csv.add_more_values.Goals as goal

pub returns-in_err-add_char : goal.returns-in_err-add_char
returns-in_err-add_char c =
    refused c.args.text.now _ _ _ alloc_error (search rules)
    (no_room (λ column. 44 ∷ field (column_value c.args.bytes.now column)) c.args.text.now c.loop-column.text c.args.columns.now c.loop-column.column-index c.column-item.result c.column-item.result c.loop-column-test.true c.column-item.is c.loop-column.invariant
    (lacks_more c.loop-column.text (44 ∷ []) (field (column_value c.args.bytes.now c.column-item.result)) c.in_err-add_char.ensures))

pub returns-in_err-add_value : goal.returns-in_err-add_value
returns-in_err-add_value c =
    refused c.args.text.now _ _ _ alloc_error (search rules)
    (no_room (λ column. 44 ∷ field (column_value c.args.bytes.now column)) c.args.text.now c.loop-column.text c.args.columns.now c.loop-column.column-index c.column-item.result c.column-item.result c.loop-column-test.true c.column-item.is c.loop-column.invariant
    (lacks_behind c.loop-column.text c.add_char.new.text (44 ∷ []) (field (column_value c.args.bytes.now c.column-item.result)) c.in_ok-add_char.ensures c.in_err-add_value.ensures))
