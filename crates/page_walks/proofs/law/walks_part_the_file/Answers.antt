use Rattle.page_walks.proofs.FileLemmas.{walks_part_the_file}
use Rattle.page_walks.proofs.law.walks_part_the_file.Goals as goal

pub returns : goal.returns
returns c = walks_part_the_file
