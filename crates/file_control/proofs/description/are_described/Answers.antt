use Rattle.file_control.proofs.DescribedLemmas.{all_is_described}
use Rattle.file_control.proofs.description.are_described.Goals as goal

pub returns : goal.returns
returns c = all_is_described
