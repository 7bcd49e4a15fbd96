use Rattle.file_control.proofs.OneLemmas.{one_whole}
use Rattle.file_control.proofs.description.one_description.Goals as goal

pub returns : goal.returns
returns c = one_whole
