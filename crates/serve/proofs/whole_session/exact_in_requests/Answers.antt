use Rattle.serve.proofs.ExactLaws as laws
use Rattle.serve.proofs.whole_session.exact_in_requests.Goals as goal

pub returns : goal.returns
returns g c = laws.in_requests g.L.Library.shown g.met.L.Library.joins g.met.L.Library.ends g.L.GrowingLibrary.keeps_open
