use Rattle.page_walks.proofs.TreeLemmas.{levels_have_all_pages}
use Rattle.page_walks.proofs.levels.level_laws.Goals as goal

pub returns : goal.returns
returns c = levels_have_all_pages
