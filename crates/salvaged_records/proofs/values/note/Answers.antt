use Rattle.std.proofs.Common.{sym, ◌∙◌}
use Rattle.salvaged_records.proofs.ValueLemmas.{noted_new, noted_old}
use Rattle.salvaged_records.proofs.values.note.Goals as goal

pub returns-then-has_value : goal.returns-then-has_value
returns-then-has_value c =
    noted_old c.add_value.result c.args.value.now c.args.seen.now c.args.twice.now c.add_value.new.values c.add_value.ensures (sym c.has_value.ensures ∙ c.if-has_value.true)

pub returns : goal.returns
returns c =
    noted_new c.add_value-2.result c.args.value.now c.args.seen.now c.add_value-2.new.values c.args.twice.now c.add_value-2.ensures (sym c.has_value.ensures ∙ c.if-has_value.false)
