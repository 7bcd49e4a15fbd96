use Rattle.test_file_checker.proofs.NameLemmas.{one_name}
use Rattle.test_file_checker.proofs.drawn_files.new_library.Goals as goal

pub attach-requires : goal.attach-requires
attach-requires g c = record { distinct = one_name _ }
