use Rattle.serve.proofs.WritingLemmas.{written_is_read}
use Rattle.serve.proofs.laws.what_is_written_is_read.Goals as goal

pub returns : goal.returns
returns c = written_is_read
