use Rattle.std.proofs.Common.{map}
use Rattle.record_layout.specs.Layout.{entry_of_item}
use Rattle.file_control.proofs.file.layout_of.Goals as goal

pub returns-in-Err-clause-layout : goal.returns-in-Err-clause-layout
returns-in-Err-clause-layout c = record {
  given = tt;
  none = λ f layout is. c.one_outcome.ensures (map entry_of_item c.args.items.now) layout c.in-Err.fault is (c.in-Err.ensures.fault (c.layout_refusal.ensures.memory f));
}
