use Rattle.deck_runner.proofs.FrontLemmas as laws
use Rattle.deck_runner.proofs.whole_run.clean_fronts_are_exact.Goals as goal

pub returns : goal.returns
returns g c = laws.clean_fronts_are_exact g.L.Library.shown
