use Rattle.std.proofs.Common.{◌≡◌, ◌∙◌, List, ℕ, Option, Some, option_map, ap, sym}
use Rattle.record_layout.specs.Layout.{entry_of_item}
use Rattle.record_layout.proofs.NamesInOrderLemmas.{with_name}
use Rattle.record_layout.proofs.names_in_order.add_name.Goals as goal

pub returns-in-Ok-clause-added : goal.returns-in-Ok-clause-added
returns-in-Ok-clause-added c =
    let named : ◌≡◌ {A = Option (List ℕ)} (option_map (λ name. name.bytes) c.args.item.now.name) (Some c.as_str.result.now) =
    ap (option_map (λ name. name.bytes)) c.in-Some.is ∙ ap Some (sym c.as_str.ensures.value) in
    λ entries known. with_name c.as_str.result (entry_of_item c.args.item.now) c.args.names.now c.insert.new.self entries named c.in-Ok.ensures.updates known
