use Rattle.open_file.proofs.PageReadLemmas.{read_first}
use Rattle.open_file.proofs.first_page_laws.read_is_written.Goals as goal

pub returns : goal.returns
returns c = λ page header e. read_first header page e
