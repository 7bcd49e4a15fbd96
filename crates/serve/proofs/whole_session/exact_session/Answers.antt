use Rattle.serve.proofs.ExactLaws as laws
use Rattle.serve.proofs.whole_session.exact_session.Goals as goal

pub returns : goal.returns
returns g c = laws.exact_session g.L.Library.shown g.met.L.Library.joins g.met.L.Library.ends g.L.GrowingLibrary.keeps_open
