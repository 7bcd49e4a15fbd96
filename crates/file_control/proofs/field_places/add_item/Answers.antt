use Rattle.file_control.proofs.FieldPlaceLemmas.{with_field}
use Rattle.file_control.proofs.field_places.add_item.Goals as goal

pub returns-in_ok-insert : goal.returns-in_ok-insert
returns-in_ok-insert c =
    rw c.in-Some.is (λ items known. with_field c.in-Some.name c.args.item.now.field items c.args.fields.now c.insert.new.self c.in_ok-insert.ensures.updates known)
