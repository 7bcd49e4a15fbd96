use Rattle.record_layout.proofs.OutcomeLemmas.{no_fault}
use Rattle.record_layout.proofs.layout.one_outcome.Goals as goal

pub returns : goal.returns
returns c = no_fault
