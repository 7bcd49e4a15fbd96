use Rattle.std.proofs.Common.{◌∷◌, take, flat_map}
use Rattle.record_text.specs.Json.{member}
use Rattle.record_text.specs.Lines.{member_of}
use Rattle.record_text.specs.Room.{Grows}
use Rattle.record_text.proofs.json.add_more_members.Given as goal

abbrev pub invariant-loop-column : goal.invariant-loop-column
invariant-loop-column l = Grows l.fn.text l.text (flat_map (λ column. 44 ∷ member (member_of l.fn.bytes column)) (take l.column-index l.columns))
