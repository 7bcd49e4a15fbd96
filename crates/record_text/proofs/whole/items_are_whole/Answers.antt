use Rattle.record_text.proofs.WholeLemmas.{items_whole}
use Rattle.record_text.proofs.whole.items_are_whole.Goals as goal

pub returns : goal.returns
returns c = items_whole
