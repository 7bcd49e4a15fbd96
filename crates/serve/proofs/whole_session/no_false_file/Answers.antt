use Rattle.serve.proofs.NoFalseFileLemmas as laws
use Rattle.serve.proofs.whole_session.no_false_file.Goals as goal

pub returns : goal.returns
returns g c = laws.no_false_file g.L.Library.shown g.met.L.Library.joins g.met.L.Library.ends g.L.GrowingLibrary.keeps_open
