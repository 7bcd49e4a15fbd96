use Rattle.open_file.proofs.ReadOffLemmas.{reads_as}
use Rattle.open_file.proofs.FilledLemmas.{filled, counted}
use Rattle.open_file.proofs.laws.open_file_laws.Goals as goal

pub returns-clause-reads : goal.returns-clause-reads
returns-clause-reads c = reads_as

pub returns-clause-filled : goal.returns-clause-filled
returns-clause-filled c = filled

pub returns-clause-counts : goal.returns-clause-counts
returns-clause-counts c = counted
