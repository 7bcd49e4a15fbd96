use Rattle.std.proofs.Common.{subst}
use Rattle.record_layout.specs.Layout.{IsLayout}
use Rattle.deck_parser.specs.Fault.{GivesOrRefuses}
use Rattle.file_control.proofs.file.described_layout.Goals as goal

pub returns-clause-layout : goal.returns-clause-layout
returns-clause-layout c = subst (λ entries. GivesOrRefuses (IsLayout entries) c.layout_of.result) c.items.ensures c.layout_of.ensures.layout
