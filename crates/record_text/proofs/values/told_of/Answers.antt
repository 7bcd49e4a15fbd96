use Rattle.std.proofs.Common.{sym}
use Rattle.record_text.proofs.ColumnLemmas.{ends_before}
use Rattle.record_text.proofs.values.told_of.Goals as goal

pub short_column-requires : goal.short_column-requires
short_column-requires c =
    ends_before c.args.columns.now c.args.column.now c.args.after.now c.requires c.args.at (rw (sym c.from.ensures) c.if-at-from.true)
