use Rattle.std.proofs.Common.{◌≡◌, true, ◌∙◌, sym, ap, rules, arith}
use Rattle.std.proofs.lemmas.Grind.{common_steps}
use Rattle.std.specs.Prelude.{is_ok}
use Rattle.std.specs.List.{insert}
use Rattle.list_library.proofs.ChangeLemmas.{inserted_at}
use Rattle.list_library.proofs.list_file.insert_row.Goals as goal

pub returns-clause-inserted : goal.returns-clause-inserted
returns-clause-inserted c =
    let ok : is_ok c.insert.result ≡ true = first_of (search rules, grind (arith, common_steps)) in
    let items = rw ok at c.insert.ensures.items in
    let place = rw (c.bytes.ensures, c.as_slice.ensures.value) at c.place_for-place.ensures.place in
    items ∙ (ap (λ i. insert c.args.rows.now.items i c.args.row) place ∙ sym (inserted_at c.args.schema.now c.args.row c.args.rows.now.items))
