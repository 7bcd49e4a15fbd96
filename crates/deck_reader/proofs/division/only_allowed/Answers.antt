use Rattle.std.proofs.Common.{[]}
use Rattle.deck_reader.proofs.AllowedLemmas.{all_allowed}
use Rattle.deck_reader.proofs.division.only_allowed.Goals as goal

pub returns : goal.returns
returns c = λ names list words described s. all_allowed names described list words [] s
