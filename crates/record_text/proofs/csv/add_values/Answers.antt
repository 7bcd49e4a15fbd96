use Rattle.std.proofs.Common.{rules, ◌∷◌, sym, subst, List, ◌≡◌, map}
use Rattle.record_text.specs.declared.column.Column.{Column}
use Rattle.record_text.specs.Csv.{field, fields}
use Rattle.record_text.specs.Columns.{column_value}
use Rattle.record_text.specs.Room.{AddsInRoom}
use Rattle.record_text.proofs.TextLemmas.{with_commas}
use Rattle.record_text.proofs.csv.add_values.Goals as goal

pub returns : goal.returns
returns c =
    let is : c.args.columns.now ≡ c.in-Some.first.now ∷ c.in-Some.rest.now = search rules in
    subst (λ (columns : List Column). AddsInRoom c.args.text.now c.add_more_values.new.text (fields (map (column_value c.args.bytes.now) columns)) c.add_more_values.result) (sym is)
    (with_commas field (column_value c.args.bytes.now) _ _ _ c.in-Some.first.now c.in-Some.rest.now c.add_more_values.result c.in_ok-add_value.ensures c.add_more_values.ensures)
