use Rattle.std.proofs.Common.{sym, subst}
use Rattle.std.specs.Prelude.{OnOk}
use Rattle.salvaged_records.specs.Values.{AddsValue}
use Rattle.salvaged_records.proofs.ValueLemmas.{value_added}
use Rattle.salvaged_records.proofs.values.add_value.Goals as goal
use Rattle.salvaged_records.proofs.values.add_value.Goals.{in-Ok, in-Err}

pub returns : goal.returns
returns c = elim c.match-insert.branch [
  | in-Ok w ↦ subst (λ r. OnOk r (AddsValue c.args.values.now c.insert.new.self c.args.value.now)) (sym w.result-is)
      (value_added c.in_ok-owned.owned c.args.value.now c.args.values.now c.insert.new.self w.in-Ok.ensures.keys c.in_ok-owned.ensures.items)
  | in-Err w ↦ subst (λ r. OnOk r (AddsValue c.args.values.now c.insert.new.self c.args.value.now)) (sym w.result-is) tt
]
