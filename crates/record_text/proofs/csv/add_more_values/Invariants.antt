use Rattle.std.proofs.Common.{◌∷◌, take, flat_map}
use Rattle.record_text.specs.Columns.{column_value}
use Rattle.record_text.specs.Csv.{field}
use Rattle.record_text.specs.Room.{Grows}
use Rattle.record_text.proofs.csv.add_more_values.Given as goal

abbrev pub invariant-loop-column : goal.invariant-loop-column
invariant-loop-column l = Grows l.fn.text l.text (flat_map (λ column. 44 ∷ field (column_value l.fn.bytes column)) (take l.column-index l.columns))
