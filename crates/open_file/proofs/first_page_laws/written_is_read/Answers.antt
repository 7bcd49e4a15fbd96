use Rattle.open_file.proofs.PageReadLemmas.{first_read}
use Rattle.open_file.proofs.first_page_laws.written_is_read.Goals as goal

pub returns : goal.returns
returns c = λ page header is. first_read header page is
