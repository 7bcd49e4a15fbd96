use Rattle.list_library.proofs.ListWorldLemmas.{shows_all}
use Rattle.list_library.proofs.library.ListLibrary.new.Goals as goal

pub returns-clause-truly : goal.returns-clause-truly
returns-clause-truly c = λ library name. shows_all library name
