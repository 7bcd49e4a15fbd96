use Rattle.file_checker.proofs.LawLemmas.{make_a_file}
use Rattle.file_checker.proofs.row_law.rows_make_a_file.Goals as goal

pub returns : goal.returns
returns c = make_a_file
