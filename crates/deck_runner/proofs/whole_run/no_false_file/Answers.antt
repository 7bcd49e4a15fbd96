use Rattle.deck_runner.proofs.FalseFileLaws as laws
use Rattle.deck_runner.proofs.whole_run.no_false_file.Goals as goal

pub returns : goal.returns
returns g c = laws.no_false_file g.L.Library.shown g.met.L.Library.ends
