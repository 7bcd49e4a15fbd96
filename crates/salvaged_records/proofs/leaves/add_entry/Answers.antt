use Rattle.std.proofs.Common.{sym, ◌∙◌}
use Rattle.salvaged_records.proofs.EntryLemmas.{entry_added, entry_passed}
use Rattle.salvaged_records.proofs.leaves.add_entry.Goals as goal

pub returns-then-is_entry_of : goal.returns-then-is_entry_of
returns-then-is_entry_of c =
    entry_added c.add_value.result c.args.values.now c.args.entries.now c.add_value.new.values c.args.entry.now (sym c.is_entry_of.ensures ∙ c.if-is_entry_of.true) c.add_value.ensures

pub returns : goal.returns
returns c = entry_passed c.args.values.now c.args.entries.now c.args.entry.now (sym c.is_entry_of.ensures ∙ c.if-is_entry_of.false)
