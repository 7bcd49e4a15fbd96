use Rattle.page_walks.proofs.TogetherLemmas.{trees_keep_together}
use Rattle.page_walks.proofs.runs.run_laws.Goals as goal

pub returns : goal.returns
returns c = trees_keep_together
