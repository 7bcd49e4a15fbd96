use Rattle.streams.proofs.BackLemmas.{each_is}
use Rattle.streams.proofs.laws.each_escape.Goals as goal

pub returns : goal.returns
returns c = each_is
