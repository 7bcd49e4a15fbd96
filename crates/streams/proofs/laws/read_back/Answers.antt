use Rattle.streams.proofs.BackLemmas.{back}
use Rattle.streams.proofs.laws.read_back.Goals as goal

pub returns : goal.returns
returns c = back
