use Rattle.deck_runner.proofs.FalseFileLaws as laws
use Rattle.deck_runner.proofs.whole_run.images_are_of_ledger.Goals as goal

pub returns : goal.returns
returns g c = laws.images_are_of_ledger g.L.Library.shown
