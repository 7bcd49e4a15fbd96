use Rattle.test_library.proofs.NameLemmas.{one_name}
use Rattle.test_library.proofs.performing.begins.Goals as goal

pub attach-requires-2 : goal.attach-requires-2
attach-requires-2 g c = record { distinct = one_name _ }
