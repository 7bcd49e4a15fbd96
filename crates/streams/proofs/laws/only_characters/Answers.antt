use Rattle.streams.proofs.TakenLemmas.{only}
use Rattle.streams.proofs.laws.only_characters.Goals as goal

pub returns : goal.returns
returns c = only
