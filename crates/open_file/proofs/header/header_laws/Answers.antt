use Rattle.open_file.proofs.HeaderLemmas.{read_back}
use Rattle.open_file.proofs.header.header_laws.Goals as goal

pub returns : goal.returns
returns c = read_back
