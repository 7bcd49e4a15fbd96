use Rattle.deck_runner.proofs.ReadsLemmas as laws
use Rattle.deck_runner.proofs.whole_run.reads_change_no_file.Goals as goal

pub returns : goal.returns
returns g c = laws.reads_change_no_file g.L.Library.shown g.met.L.Library.joins g.met.L.Library.ends
