use Rattle.page_walks.proofs.FileLemmas.{trees_stay}
use Rattle.page_walks.proofs.law.trees_stay.Goals as goal

pub returns : goal.returns
returns c = trees_stay
